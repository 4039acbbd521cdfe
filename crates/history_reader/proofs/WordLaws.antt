-- Words with a space between them: the first of them is found again.
use Rattle.std.proofs.Common.{◌≡◌, ℕ, ◌<◌, ◌^◌, Bool, true, List, [], ◌∷◌, ◌++◌, Option, Some, refl, ap, arith}
use Rattle.std.specs.Prelude.{nat_lt}
use Rattle.std.specs.List.{list_all, AllByRecursion}
use Rattle.std.specs.Fmt.{decimal}
use Rattle.std.specs.Int.{IsInRange}
use Rattle.std.specs.Str.Parse.{AllDigits}
use Rattle.std.proofs.lemmas.Bool.{lt-ltb}
use Rattle.std.proofs.lemmas.Fmt.{decimal_is_IsNumeral}
use Rattle.std.proofs.lemmas.List.{append-nil}
use Rattle.std.proofs.lemmas.Str.Parse.{digit_from_value}
use Rattle.deck_model.specs.Histories.{fields}
use Rattle.basic_values.proofs.CutLaws.{Lacks, lacks_both, kind_lacks, and_left, and_right, and_both, cut_again, cut_nowhere}
use Rattle.history_reader.specs.LineFields.{parts_or, word_read, field_by}

-- the words with a space between
abbrev pub joined : List (List ℕ) → List ℕ
joined [] = []
joined (word ∷ []) = word
joined (word ∷ next ∷ words) = word ++ 32 ∷ joined (next ∷ words)

pub joined_fields : (word : List ℕ) (others : List (List ℕ)) → word ++ fields others ≡ joined (word ∷ others)
joined_fields word [] = append-nil word
joined_fields word (field ∷ others) = ap (λ (t : List ℕ). word ++ 32 ∷ t) (joined_fields field others)

-- ---- plain bytes: no space, and no LF

abbrev pub is_plain_byte : ℕ → Bool
is_plain_byte byte = nat_lt 32 byte

abbrev pub is_plain : List ℕ → Bool
is_plain word = list_all is_plain_byte word

abbrev pub ArePlain : List (List ℕ) → Type 0
ArePlain words = AllByRecursion (λ word. is_plain word ≡ true) words

pub lacks_space : (word : List ℕ) → is_plain word ≡ true → Lacks 32 word
lacks_space word plain = kind_lacks is_plain_byte 32 refl word plain

pub lacks_feed : (word : List ℕ) → is_plain word ≡ true → Lacks 10 word
lacks_feed word plain = kind_lacks is_plain_byte 10 refl word plain

pub joined_lacks : (words : List (List ℕ)) → ArePlain words → Lacks 10 (joined words)
joined_lacks [] plain = tt
joined_lacks (word ∷ []) plain = lacks_feed word plain.0
joined_lacks (word ∷ next ∷ words) plain =
    lacks_both 10 word (32 ∷ joined (next ∷ words)) (lacks_feed word plain.0) (refl, joined_lacks (next ∷ words) plain.1)

pub plain_both : (xs ys : List ℕ) → is_plain xs ≡ true → is_plain ys ≡ true → is_plain (xs ++ ys) ≡ true
plain_both [] ys l r = r
plain_both (x ∷ xs) ys l r =
    and_both (is_plain_byte x) (is_plain (xs ++ ys)) (and_left (is_plain_byte x) (is_plain xs) l) (plain_both xs ys (and_right (is_plain_byte x) (is_plain xs) l) r)

pub plain_more : (xs ys : List (List ℕ)) → ArePlain xs → ArePlain ys → ArePlain (xs ++ ys)
plain_more [] ys l r = r
plain_more (x ∷ xs) ys l r = (l.0, plain_more xs ys l.1 r)

digits_plain : (ds : List ℕ) → AllDigits 10 ds → is_plain ds ≡ true
digits_plain [] all = refl
digits_plain (d ∷ ds) all =
    let range : IsInRange 48 57 d = digit_from_value d all.0 in
    and_both (is_plain_byte d) (is_plain ds) (lt-ltb 32 d (omega arith)) (digits_plain ds all.1)

pub decimal_plain : (n : ℕ) → n < 2 ^ 64 → is_plain (decimal n) ≡ true
decimal_plain n small = digits_plain (decimal n) (decimal_is_IsNumeral n small).0.1

-- ---- the first word

pub word_again : (word : List ℕ) (words : List (List ℕ)) → is_plain word ≡ true → word_read (joined (word ∷ words)) ≡ (word, joined words)
unfolding word_read
word_again word [] plain = ap (parts_or word) (cut_nowhere 32 word (lacks_space word plain))
word_again word (next ∷ words) plain =
    ap (parts_or (word ++ 32 ∷ joined (next ∷ words))) (cut_again 32 word (joined (next ∷ words)) (lacks_space word plain))

pub field_again : {A : Type 0} (read : List ℕ → Option A) (value : A) (word : List ℕ) (words : List (List ℕ)) → is_plain word ≡ true → read word ≡ Some value → field_by read (joined (word ∷ words)) ≡ Some (value, joined words)
unfolding field_by
field_again read value word words plain e = rw (word_again word words plain, e) refl

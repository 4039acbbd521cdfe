-- The longest keyword that the rest begins with is taken.
use Rattle.std.proofs.Common.{◌≡◌, ℕ, zero, suc, ◌<◌, Bool, true, false, List, [], ◌∷◌, length, take, refl, sym, ap, ◌∙◌, subst, arith, ltb-true, ltb-false, lt-ltb, inl, inr}
use Rattle.std.specs.Prelude.{Contains, slice_index_or, ◌==◌, ◌&&◌, ◌||◌, ◌⊎◌, nat_lt, max, if◌then◌else◌, cond, slice_index, fold, find, Option, Some}
use Rattle.std.specs.Char.{is_ascii_alphabetic, to_ascii_uppercase}
use Rattle.std.specs.Option.{option_map}
use Rattle.std.proofs.lemmas.Bool.{eqb-true, eq-eqb}
use Rattle.std.proofs.lemmas.List.{length-take-le}
use Rattle.basic_tree.specs.declared.tokens.Keyword.{Keyword}
use Rattle.basic_tree.specs.Words.{keywords}
use Rattle.basic_tree.specs.Tokens.{is_blank, is_at_front, is_word, longest_length, keyword_of, keyword_front, letter_front, front_of}
use Rattle.basic_tree.specs.TokenLaws.{IsTaken, LongestIsTaken}
use Rattle.basic_tree.proofs.FrontLemmas.{longest_within, longest_is_most}

pub and_right : (a b : Bool) → (a && b) ≡ true → b ≡ true
and_right true b e = e
and_right false b e = absurd cc

pub and_left : (a b : Bool) → (a && b) ≡ true → a ≡ true
and_left true b e = refl
and_left false b e = absurd cc

both : (a b : Bool) → a ≡ true → b ≡ true → (a && b) ≡ true
both a b x y = rw (x, y) refl

-- ---- the rest begins with a word of this length

record Attained {W : Type 0} (table : List (W × List ℕ)) (rest : List ℕ) (len : ℕ) : Type 0 where
  pub place : ℕ
  pub entry : W × List ℕ
  pub inside : place < length table
  pub at : slice_index_or table place entry ≡ entry
  pub there : is_at_front entry.1 rest ≡ true
  pub long : length entry.1 ≡ len

max_is : (a b : ℕ) → (max a b ≡ a) ⊎ (max a b ≡ b)
max_is a b = go (nat_lt a b) refl where
  go : (x : Bool) → nat_lt a b ≡ x → (max a b ≡ a) ⊎ (max a b ≡ b)
  go true e = inr (omega (arith, ltb-true a b e))
  go false e = inl (omega (arith, ltb-false a b e))

chosen : (b : Bool) (n len : ℕ) → ((if b then max n len else n) ≡ n) ⊎ (((if b then max n len else n) ≡ len) × (b ≡ true))
chosen false n len = inl refl
chosen true n len = go (max_is n len) where
  go : (max n len ≡ n) ⊎ (max n len ≡ len) → (max n len ≡ n) ⊎ ((max n len ≡ len) × (true ≡ true))
  go (inl e) = inl e
  go (inr e) = inr (e, refl)

abbrev longest_behind : {W : Type 0} → ℕ → List (W × List ℕ) → List ℕ → ℕ
longest_behind n table rest = fold (λ longest word. if is_at_front word.1 rest then max longest (length word.1) else longest) n table

one_more : {W : Type 0} (table : List (W × List ℕ)) (rest : List ℕ) (entry : W × List ℕ) (n m : ℕ) → (longest_behind m table rest ≡ m) ⊎ Attained table rest (longest_behind m table rest) → (m ≡ n) ⊎ ((m ≡ length entry.1) × (is_at_front entry.1 rest ≡ true)) → (longest_behind m table rest ≡ n) ⊎ Attained (entry ∷ table) rest (longest_behind m table rest)
one_more table rest entry n m (inr a) x = inr (record { place = suc a.place; entry = a.entry; inside = omega (arith, a.inside); at = a.at; there = a.there; long = a.long })
one_more table rest entry n m (inl e) (inl x) = inl (e ∙ x)
one_more table rest entry n m (inl e) (inr x) = inr (record { place = 0; entry = entry; inside = omega arith; at = refl; there = x.1; long = sym (e ∙ x.0) })

attains : {W : Type 0} (table : List (W × List ℕ)) (rest : List ℕ) (n : ℕ) → (longest_behind n table rest ≡ n) ⊎ Attained table rest (longest_behind n table rest)
attains [] rest n = inl refl
attains (entry ∷ table) rest n =
    one_more table rest entry n (if is_at_front entry.1 rest then max n (length entry.1) else n) (attains table rest (if is_at_front entry.1 rest then max n (length entry.1) else n)) (chosen (is_at_front entry.1 rest) n (length entry.1))

-- ---- what the bytes spell

record Found {W : Type 0} (table : List (W × List ℕ)) (bytes : List ℕ) : Type 0 where
  pub entry : W × List ℕ
  pub is : find (λ e. is_word e.1 bytes) table ≡ Some entry
  pub word : is_word entry.1 bytes ≡ true
  pub listed : Contains table entry

found_more : {W : Type 0} (e : W × List ℕ) (table : List (W × List ℕ)) (bytes : List ℕ) (entry : W × List ℕ) (place : ℕ) → place < length (e ∷ table) → slice_index_or (e ∷ table) place entry ≡ entry → is_word entry.1 bytes ≡ true → ((p : ℕ) → p < length table → slice_index_or table p entry ≡ entry → Found table bytes) → Found (e ∷ table) bytes
found_more {W} e table bytes entry place inside at h more = go (is_word e.1 bytes) refl where
  behind : (p : ℕ) → p < length (e ∷ table) → slice_index_or (e ∷ table) p entry ≡ entry → is_word e.1 bytes ≡ false → Found table bytes
  behind zero i a none =
      let no : true ≡ false = sym h ∙ ap (λ (x : W × List ℕ). is_word x.1 bytes) (sym a) ∙ none in
      absurd cc
  behind (suc p) i a none = more p (omega (arith, i)) a

  go : (b : Bool) → is_word e.1 bytes ≡ b → Found (e ∷ table) bytes
  go true q = record { entry = e; is = ap (λ b. cond b (Some e) (find (λ e. is_word e.1 bytes) table)) q; word = q; listed = (0, omega arith, refl) }
  go false q =
      let f = behind place inside at q in
      record { entry = f.entry; is = ap (λ b. cond b (Some e) (find (λ e. is_word e.1 bytes) table)) q ∙ f.is; word = f.word; listed = (suc f.listed.0, omega (arith, f.listed.1), f.listed.2) }

found : {W : Type 0} (table : List (W × List ℕ)) (bytes : List ℕ) (place : ℕ) (entry : W × List ℕ) → place < length table → slice_index_or table place entry ≡ entry → is_word entry.1 bytes ≡ true → Found table bytes
found [] bytes place entry inside at h = absurd (omega arith)
found (e ∷ table) bytes place entry inside at h = found_more e table bytes entry place inside at h (λ p i a. found table bytes p entry i a h)

-- the rest begins with a word exactly if the bytes that it takes do
stands_taken : (word rest : List ℕ) → is_at_front word rest ≡ true → is_at_front word (take (length word) rest) ≡ true
stands_taken [] rest e = refl
stands_taken (letter ∷ word) [] e = absurd cc
stands_taken (letter ∷ word) (b ∷ rest) e =
    both (to_ascii_uppercase b == letter) (is_at_front word (take (length word) rest)) (and_left (to_ascii_uppercase b == letter) (is_at_front word rest) e)
    (stands_taken word rest (and_right (to_ascii_uppercase b == letter) (is_at_front word rest) e))

stands_back : (word rest : List ℕ) (n : ℕ) → is_at_front word (take n rest) ≡ true → is_at_front word rest ≡ true
stands_back [] rest n e = refl
stands_back (letter ∷ word) rest zero e = absurd cc
stands_back (letter ∷ word) [] (suc n) e = absurd cc
stands_back (letter ∷ word) (b ∷ rest) (suc n) e =
    both (to_ascii_uppercase b == letter) (is_at_front word rest) (and_left (to_ascii_uppercase b == letter) (is_at_front word (take n rest)) e)
    (stands_back word rest n (and_right (to_ascii_uppercase b == letter) (is_at_front word (take n rest)) e))

same_length : (a b : List ℕ) → length a ≡ length b → (length a == length b) ≡ true
same_length a b e = eq-eqb (length a) (length b) e

-- ---- what the rest begins with at a letter

not_blank : (b : ℕ) → is_ascii_alphabetic b ≡ true → is_blank b ≡ false
not_blank b e = go (b == 32) refl (b == 9) refl where
  go : (x : Bool) → (b == 32) ≡ x → (y : Bool) → (b == 9) ≡ y → (x || y) ≡ false
  go true p y q = let no : is_ascii_alphabetic 32 ≡ true = ap is_ascii_alphabetic (sym (eqb-true b 32 p)) ∙ e in absurd cc
  go false p true q = let no : is_ascii_alphabetic 9 ≡ true = ap is_ascii_alphabetic (sym (eqb-true b 9 q)) ∙ e in absurd cc
  go false p false q = refl

pub at_letter : (rest : List ℕ) → is_ascii_alphabetic (slice_index rest 0) ≡ true → front_of rest ≡ letter_front rest
unfolding front_of
at_letter rest e = rw (not_blank (slice_index rest 0) e, e) refl

some_keyword : (rest : List ℕ) → 0 < longest_length keywords rest → letter_front rest ≡ keyword_front (take (longest_length keywords rest) rest)
unfolding letter_front
some_keyword rest some = rw (lt-ltb 0 (longest_length keywords rest) some) refl

taken_keyword : (rest : List ℕ) → is_ascii_alphabetic (slice_index rest 0) ≡ true → 0 < longest_length keywords rest → (k : Keyword) × (word : List ℕ) × IsTaken rest k word
taken_keyword rest letter some = go (attains keywords rest 0) where
  go : (longest_length keywords rest ≡ 0) ⊎ Attained keywords rest (longest_length keywords rest) → (k : Keyword) × (word : List ℕ) × IsTaken rest k word
  go (inl none) = absurd (omega (arith, some, none))
  go (inr a) =
      let bytes : List ℕ = take (longest_length keywords rest) rest in
      let cut : take (length a.entry.1) rest ≡ bytes = ap (λ n. take n rest) a.long in
      let inside : length bytes ≡ longest_length keywords rest = length-take-le (longest_length keywords rest) rest (longest_within keywords rest) in
      let long : length bytes ≡ length a.entry.1 = inside ∙ sym a.long in
      let spells : is_word a.entry.1 bytes ≡ true = both (length bytes == length a.entry.1) (is_at_front a.entry.1 bytes) (same_length bytes a.entry.1 long) (subst (λ (x : List ℕ). is_at_front a.entry.1 x ≡ true) cut (stands_taken a.entry.1 rest a.there)) in
      let f = found keywords bytes a.place a.entry a.inside a.at spells in
      let whole : length bytes ≡ length f.entry.1 = eqb-true (length bytes) (length f.entry.1) (and_left (length bytes == length f.entry.1) (is_at_front f.entry.1 bytes) f.word) in
      let same : take (length f.entry.1) rest ≡ bytes = ap (λ n. take n rest) (sym whole ∙ inside) in (
        f.entry.0,
        f.entry.1,
        record {
          listed = f.listed;
          there = stands_back f.entry.1 rest (longest_length keywords rest) (and_right (length bytes == length f.entry.1) (is_at_front f.entry.1 bytes) f.word);
          longest = sym whole ∙ inside;
          spelled = ap keyword_of same ∙ ap (λ (x : Option (Keyword × List ℕ)). option_map (λ entry. entry.0) x) f.is;
          front = at_letter rest letter ∙ some_keyword rest some ∙ ap keyword_front (sym same);
        },
      )

pub longest_taken : LongestIsTaken
longest_taken = record { none_longer = longest_is_most keywords; taken = taken_keyword }

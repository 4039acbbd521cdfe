-- A blank after a token changes nothing of the token.
use Rattle.std.proofs.Common.{◌≡◌, ℕ, ◌+◌, ◌<◌, ◌≤◌, Bool, true, false, List, [], ◌∷◌, ◌++◌, length, take, refl, sym, ap, ◌∙◌, subst, arith, ltb-true, ltb-false, inl, inr}
use Rattle.std.specs.Prelude.{◌⊎◌, ◌==◌, ◌&&◌, ◌||◌, not, nat_lt, max, if◌then◌else◌, slice_index, fold, codes}
use Rattle.std.specs.Char.{is_ascii_digit, to_ascii_uppercase, is_ascii_alphabetic}
use Rattle.std.specs.List.{list_all}
use Rattle.std.proofs.lemmas.Bool.{eqb-true, false_from_ne_true}
use Rattle.std.proofs.Math.Seq.{get_or-append_seam}
use Rattle.std.proofs.lemmas.List.{take-append-le, get_or_append_left, length-take-le}
use Rattle.basic_tree.specs.Words.{keywords, signs}
use Rattle.basic_tree.specs.Tokens.{is_blank, is_type_mark, is_at_front, is_word, longest_length, keyword_front, name_end, name_front, begins_function, letter_front, sign_front}
use Rattle.basic_tree.specs.declared.tokens.TokenKind.{TokenKind}
use Rattle.basic_tree.specs.declared.tokens.TokenKind.TheVariants as kind
use Rattle.basic_tree.specs.declared.tokens.Cause.TheVariants as cause
use Rattle.basic_tree.specs.declared.tokens.Front.{Front}
use Rattle.basic_tree.specs.declared.tokens.Front.TheVariants as front
use Rattle.basic_tree.proofs.FrontLemmas.{longest_within, at_least, longest_grows}

-- no letter of the word is the byte
abbrev pub lacks : ℕ → List ℕ → Bool
lacks g word = list_all (λ letter. not (to_ascii_uppercase g == letter)) word

abbrev pub all_lack : {W : Type 0} → ℕ → List (W × List ℕ) → Bool
all_lack g table = list_all (λ entry. lacks g entry.1) table

pub first_of : (a b : Bool) → (a && b) ≡ true → a ≡ true
first_of true b e = refl
first_of false b e = absurd (cc)

pub second_of : (a b : Bool) → (a && b) ≡ true → b ≡ true
second_of true b e = e
second_of false b e = absurd (cc)

pub denied : (a : Bool) → not a ≡ true → a ≡ false
denied true e = absurd (cc)
denied false e = refl

-- the byte is in no word, so whether the bytes begin with a word is decided before the byte
stands_same : (g : ℕ) (word x y : List ℕ) → lacks g word ≡ true → (is_at_front word (x ++ y) ≡ true → length word ≤ length x) → is_at_front word (x ++ g ∷ y) ≡ is_at_front word (x ++ y)
stands_same g [] x y free fits = refl
stands_same g (letter ∷ word) [] y free fits =
    let other : (to_ascii_uppercase g == letter) ≡ false = denied (to_ascii_uppercase g == letter) (first_of _ _ free) in
    let never : is_at_front (letter ∷ word) y ≡ false = false_from_ne_true _ (λ e. let le = fits e in absurd (omega arith)) in
    ap (λ c. c && is_at_front word y) other ∙ sym never
stands_same g (letter ∷ word) (b ∷ x) y free fits =
    go (to_ascii_uppercase b == letter) fits (λ inner. stands_same g word x y (second_of (not (to_ascii_uppercase g == letter)) (lacks g word) free) inner) where
      go : (t : Bool) → ((t && is_at_front word (x ++ y)) ≡ true → length (letter ∷ word) ≤ length (b ∷ x)) → ((is_at_front word (x ++ y) ≡ true → length word ≤ length x) → is_at_front word (x ++ g ∷ y) ≡ is_at_front word (x ++ y)) → (t && is_at_front word (x ++ g ∷ y)) ≡ (t && is_at_front word (x ++ y))
      go true inner again = again (λ e. let le = inner e in omega arith)
      go false inner again = refl

-- the same for the longest word of a table
longest_from_same : {W : Type 0} (g : ℕ) (table : List (W × List ℕ)) (x y : List ℕ) (n : ℕ) → all_lack g table ≡ true → fold (λ longest word. if is_at_front word.1 (x ++ y) then max longest (length word.1) else longest) n table ≤ length x → fold (λ longest word. if is_at_front word.1 (x ++ g ∷ y) then max longest (length word.1) else longest) n table ≡ fold (λ longest word. if is_at_front word.1 (x ++ y) then max longest (length word.1) else longest) n table
longest_from_same g [] x y n free small = refl
longest_from_same {W} g (entry ∷ table) x y n free small =
    let m : ℕ = if is_at_front entry.1 (x ++ y) then max n (length entry.1) else n in
    let grown = longest_grows table (x ++ y) m in
    let fits : is_at_front entry.1 (x ++ y) ≡ true → length entry.1 ≤ length x =
    λ e. let le : length entry.1 ≤ m = at_least (length entry.1) (is_at_front entry.1 (x ++ y)) (max n (length entry.1)) n (λ _. omega arith) (λ no_more. absurd (cc)) in omega arith in
    let same : is_at_front entry.1 (x ++ g ∷ y) ≡ is_at_front entry.1 (x ++ y) = stands_same g entry.1 x y (first_of (lacks g entry.1) (all_lack g table) free) fits in
    ap (λ b. fold (λ longest word. if is_at_front word.1 (x ++ g ∷ y) then max longest (length word.1) else longest) (if b then max n (length entry.1) else n) table) same
    ∙ longest_from_same g table x y m (second_of (lacks g entry.1) (all_lack g table) free) small

longest_same : {W : Type 0} (g : ℕ) (table : List (W × List ℕ)) (x y : List ℕ) → all_lack g table ≡ true → longest_length table (x ++ y) ≤ length x → longest_length table (x ++ g ∷ y) ≡ longest_length table (x ++ y)
longest_same g table x y free small = longest_from_same g table x y 0 free small

pub byte_same : (g : ℕ) (x y : List ℕ) (i : ℕ) → i < length x → slice_index (x ++ g ∷ y) i ≡ slice_index (x ++ y) i
byte_same g x y i lt = get_or_append_left x (g ∷ y) 0 i lt ∙ sym (get_or_append_left x y 0 i lt)

pub front_same : (g : ℕ) (x y : List ℕ) (n : ℕ) → n ≤ length x → take n (x ++ g ∷ y) ≡ take n (x ++ y)
front_same g x y n le = take-append-le n x (g ∷ y) le ∙ sym (take-append-le n x y le)

-- ---- choices that result in a token

-- which way a choice went
pub went : (b : Bool) (u v t : Front) → (if b then u else v) ≡ t → ((b ≡ true) × (u ≡ t)) ⊎ ((b ≡ false) × (v ≡ t))
went true u v t h = inl (refl, h)
went false u v t h = inr (refl, h)

pub took : (b : Bool) (u v t : Front) → b ≡ true → u ≡ t → (if b then u else v) ≡ t
took b u v t e h = ap (λ c. if c then u else v) e ∙ h

pub passed : (b : Bool) (u v t : Front) → b ≡ false → v ≡ t → (if b then u else v) ≡ t
passed b u v t e h = ap (λ c. if c then u else v) e ∙ h

keyword_len : (word : List ℕ) (k : TokenKind) (len : ℕ) → keyword_front word ≡ front.Token k len → length word ≡ len
keyword_len word k len h = go (is_word (codes "REM") word) (is_word (codes "DATA") word) h where
  go : (r d : Bool) → (if r then front.Comment else (if d then front.Data else front.Token kind.Keyword (length word))) ≡ front.Token k len → length word ≡ len
  go true d h' = absurd (cc)
  go false true h' = absurd (cc)
  go false false h' = cc

-- a byte that is in no word, no name and no number
pub record Gap (g : ℕ) : Type 0 where
  pub in_keywords : all_lack g keywords ≡ true
  pub in_signs : all_lack g signs ≡ true
  pub in_fn : lacks g (codes "FN") ≡ true
  pub letter : is_ascii_alphabetic g ≡ false
  pub digit : is_ascii_digit g ≡ false
  pub point : (g == 46) ≡ false
  pub exponent : (to_ascii_uppercase g == 69) ≡ false
  pub plus : (g == 43) ≡ false
  pub minus : (g == 45) ≡ false
  pub percent : (g == 37) ≡ false

-- a blank is such a byte
pub blank_is_gap : (g : ℕ) → is_blank g ≡ true → Gap g
unfolding keywords signs
blank_is_gap g e = go (g == 32) (g == 9) refl refl e where
  space : Gap 32
  space = record { in_keywords = refl; in_signs = refl; in_fn = refl; letter = refl; digit = refl; point = refl; exponent = refl; plus = refl; minus = refl; percent = refl }

  tab : Gap 9
  tab = record { in_keywords = refl; in_signs = refl; in_fn = refl; letter = refl; digit = refl; point = refl; exponent = refl; plus = refl; minus = refl; percent = refl }

  go : (s t : Bool) → (g == 32) ≡ s → (g == 9) ≡ t → (s || t) ≡ true → Gap g
  go true t is_space is_tab h = subst Gap (sym (eqb-true g 32 is_space)) space
  go false true is_space is_tab h = subst Gap (sym (eqb-true g 9 is_tab)) tab
  go false false is_space is_tab h = absurd (cc)

-- a sign stays
pub sign_stays : (g : ℕ) (x y : List ℕ) (k : TokenKind) (len : ℕ) → Gap g → len ≤ length x → sign_front (x ++ y) ≡ front.Token k len → sign_front (x ++ g ∷ y) ≡ front.Token k len
unfolding sign_front
sign_stays g x y k len gap le h = go (went (nat_lt 0 (longest_length signs (x ++ y))) (front.Token kind.Sign (longest_length signs (x ++ y))) (front.Refused cause.StrayByte) (front.Token k len) h) where
  go : ((nat_lt 0 (longest_length signs (x ++ y)) ≡ true) × (front.Token kind.Sign (longest_length signs (x ++ y)) ≡ front.Token k len)) ⊎ ((nat_lt 0 (longest_length signs (x ++ y)) ≡ false) × (front.Refused cause.StrayByte ≡ front.Token k len)) → (if nat_lt 0 (longest_length signs (x ++ g ∷ y)) then front.Token kind.Sign (longest_length signs (x ++ g ∷ y)) else front.Refused cause.StrayByte) ≡ front.Token k len
  go (inl w) =
      let is : longest_length signs (x ++ y) ≡ len = cc in
      let same = longest_same g signs x y gap.in_signs (omega arith) in
      ap (λ n. if nat_lt 0 n then front.Token kind.Sign n else front.Refused cause.StrayByte) same ∙ h
  go (inr w) = let never : front.Refused cause.StrayByte ≡ front.Token k len = w.1 in absurd (cc)

-- ---- names and keywords

name_is : (own k : TokenKind) (end len : ℕ) (rest : List ℕ) → name_front own end rest ≡ front.Token k len → end + 1 ≡ len
name_is own k end len rest h = go (is_type_mark (slice_index rest end)) h where
  go : (m : Bool) → (if m then front.Token own (end + 1) else front.Refused cause.FloatingName) ≡ front.Token k len → end + 1 ≡ len
  go true h' = cc
  go false h' = absurd (cc)

end_above : (letter : ℕ) (rest : List ℕ) → letter + 1 ≤ name_end letter rest
end_above letter rest = at_least (letter + 1) (is_ascii_digit (slice_index rest (letter + 1))) (letter + 2) (letter + 1) (λ _. omega arith) (λ _. omega arith)

name_stays : (g : ℕ) (x y : List ℕ) (own k : TokenKind) (letter len : ℕ) → len ≤ length x → name_front own (name_end letter (x ++ y)) (x ++ y) ≡ front.Token k len → name_front own (name_end letter (x ++ g ∷ y)) (x ++ g ∷ y) ≡ front.Token k len
name_stays g x y own k letter len le h =
    let is : name_end letter (x ++ y) + 1 ≡ len = name_is own k (name_end letter (x ++ y)) len (x ++ y) h in
    let above = end_above letter (x ++ y) in
    let same_end : name_end letter (x ++ g ∷ y) ≡ name_end letter (x ++ y) = ap (λ b. if is_ascii_digit b then letter + 2 else letter + 1) (byte_same g x y (letter + 1) (omega arith)) in
    let same_mark = byte_same g x y (name_end letter (x ++ y)) (omega arith) in
    ap (λ n. name_front own n (x ++ g ∷ y)) same_end
    ∙ ap (λ b. if is_type_mark b then front.Token own (name_end letter (x ++ y) + 1) else front.Refused cause.FloatingName) same_mark
    ∙ h

and_false : (a : Bool) → (a && false) ≡ false
and_false true = refl
and_false false = refl

-- whether the rest begins with FN and a letter is as before
function_same : (g : ℕ) (x y : List ℕ) → Gap g → 2 < length x → begins_function (x ++ g ∷ y) ≡ begins_function (x ++ y)
function_same g x y gap lt =
    ap (λ s. s && is_ascii_alphabetic (slice_index (x ++ g ∷ y) 2)) (stands_same g (codes "FN") x y gap.in_fn (λ _. omega arith))
    ∙ ap (λ b. is_at_front (codes "FN") (x ++ y) && is_ascii_alphabetic b) (byte_same g x y 2 lt)

function_stays_away : (g : ℕ) (x y : List ℕ) → Gap g → 2 ≤ length x → begins_function (x ++ y) ≡ false → begins_function (x ++ g ∷ y) ≡ false
function_stays_away g x y gap le e = go (nat_lt 2 (length x)) refl where
  go : (b : Bool) → nat_lt 2 (length x) ≡ b → begins_function (x ++ g ∷ y) ≡ false
  go true more = function_same g x y gap (ltb-true 2 (length x) more) ∙ e
  go false more =
      let most = ltb-false 2 (length x) more in
      let two : length x ≡ 2 = omega arith in
      let there : slice_index (x ++ g ∷ y) 2 ≡ g = ap (λ n. slice_index (x ++ g ∷ y) n) (sym two) ∙ get_or-append_seam x g y 0 in
      ap (λ b. is_at_front (codes "FN") (x ++ g ∷ y) && is_ascii_alphabetic b) there
      ∙ ap (λ b. is_at_front (codes "FN") (x ++ g ∷ y) && b) gap.letter
      ∙ and_false (is_at_front (codes "FN") (x ++ g ∷ y))

-- the two names, or a keyword
abbrev names_front : List ℕ → Front
names_front rest = if begins_function rest then name_front kind.FnName (name_end 2 rest) rest else name_front kind.Variable (name_end 0 rest) rest

names_stay : (g : ℕ) (x y : List ℕ) (k : TokenKind) (len : ℕ) → Gap g → len ≤ length x → names_front (x ++ y) ≡ front.Token k len → names_front (x ++ g ∷ y) ≡ front.Token k len
names_stay g x y k len gap le h = go (went (begins_function (x ++ y)) (name_front kind.FnName (name_end 2 (x ++ y)) (x ++ y)) (name_front kind.Variable (name_end 0 (x ++ y)) (x ++ y)) (front.Token k len) h) where
  go : ((begins_function (x ++ y) ≡ true) × (name_front kind.FnName (name_end 2 (x ++ y)) (x ++ y) ≡ front.Token k len)) ⊎ ((begins_function (x ++ y) ≡ false) × (name_front kind.Variable (name_end 0 (x ++ y)) (x ++ y) ≡ front.Token k len)) → names_front (x ++ g ∷ y) ≡ front.Token k len
  go (inl w) =
      let is = name_is kind.FnName k (name_end 2 (x ++ y)) len (x ++ y) w.1 in
      let above = end_above 2 (x ++ y) in
      took (begins_function (x ++ g ∷ y)) (name_front kind.FnName (name_end 2 (x ++ g ∷ y)) (x ++ g ∷ y)) (name_front kind.Variable (name_end 0 (x ++ g ∷ y)) (x ++ g ∷ y)) (front.Token k len) (function_same g x y gap (omega arith) ∙ w.0) (name_stays g x y kind.FnName k 2 len le w.1)
  go (inr w) =
      let is = name_is kind.Variable k (name_end 0 (x ++ y)) len (x ++ y) w.1 in
      let above = end_above 0 (x ++ y) in
      passed (begins_function (x ++ g ∷ y)) (name_front kind.FnName (name_end 2 (x ++ g ∷ y)) (x ++ g ∷ y)) (name_front kind.Variable (name_end 0 (x ++ g ∷ y)) (x ++ g ∷ y)) (front.Token k len) (function_stays_away g x y gap (omega arith) w.0) (name_stays g x y kind.Variable k 0 len le w.1)

pub letter_stays : (g : ℕ) (x y : List ℕ) (k : TokenKind) (len : ℕ) → Gap g → len ≤ length x → letter_front (x ++ y) ≡ front.Token k len → letter_front (x ++ g ∷ y) ≡ front.Token k len
unfolding letter_front
letter_stays g x y k len gap le h = go (went (nat_lt 0 (longest_length keywords (x ++ y))) (keyword_front (take (longest_length keywords (x ++ y)) (x ++ y))) (names_front (x ++ y)) (front.Token k len) h) where
  go : ((nat_lt 0 (longest_length keywords (x ++ y)) ≡ true) × (keyword_front (take (longest_length keywords (x ++ y)) (x ++ y)) ≡ front.Token k len)) ⊎ ((nat_lt 0 (longest_length keywords (x ++ y)) ≡ false) × (names_front (x ++ y) ≡ front.Token k len)) → (if nat_lt 0 (longest_length keywords (x ++ g ∷ y)) then keyword_front (take (longest_length keywords (x ++ g ∷ y)) (x ++ g ∷ y)) else names_front (x ++ g ∷ y)) ≡ front.Token k len
  go (inl w) =
      let is = keyword_len (take (longest_length keywords (x ++ y)) (x ++ y)) k len w.1 in
      let taken = length-take-le (longest_length keywords (x ++ y)) (x ++ y) (longest_within keywords (x ++ y)) in
      let same = longest_same g keywords x y gap.in_keywords (omega arith) in
      took (nat_lt 0 (longest_length keywords (x ++ g ∷ y))) (keyword_front (take (longest_length keywords (x ++ g ∷ y)) (x ++ g ∷ y))) (names_front (x ++ g ∷ y)) (front.Token k len)
      (ap (nat_lt 0) same ∙ w.0)
      (ap (λ n. keyword_front (take n (x ++ g ∷ y))) same ∙ ap keyword_front (front_same g x y (longest_length keywords (x ++ y)) (omega arith)) ∙ w.1)
  go (inr w) =
      let none = ltb-false 0 (longest_length keywords (x ++ y)) w.0 in
      let same = longest_same g keywords x y gap.in_keywords (omega arith) in
      passed (nat_lt 0 (longest_length keywords (x ++ g ∷ y))) (keyword_front (take (longest_length keywords (x ++ g ∷ y)) (x ++ g ∷ y))) (names_front (x ++ g ∷ y)) (front.Token k len)
      (ap (nat_lt 0) same ∙ w.0)
      (names_stay g x y k len gap le w.1)

-- Bytes that spell names, with what may follow them.
use Rattle.std.proofs.Common.{◌≡◌, ℕ, ◌<◌, ◌≤◌, Bool, true, false, List, [], ◌∷◌, length, take, refl, ap, ◌∙◌, arith, lt-ltb}
use Rattle.std.specs.Prelude.{◌==◌, ◌&&◌, ◌||◌, not, nat_lt, nat_le, max, if◌then◌else◌, slice_index, fold, Option, Some, None, codes}
use Rattle.std.specs.Char.{is_ascii_digit, is_ascii_alphabetic, to_ascii_uppercase}
use Rattle.std.proofs.lemmas.Bool.{ne_eqb, leb-true, le-leb}
use Rattle.basic_tree.specs.declared.names.Name.{Name}
use Rattle.basic_tree.specs.declared.tokens.TokenKind.TheVariants as kind
use Rattle.basic_tree.specs.declared.tokens.Front.{Front}
use Rattle.basic_tree.specs.Words.{keywords}
use Rattle.basic_tree.specs.Tokens.{is_at_front, longest_length, keyword_front, name_end, name_front, begins_function, letter_front, front_of}
use Rattle.basic_tree.specs.SpellingWords.{Named, FnNamed}
use Rattle.basic_tree.specs.ReadableWords.{IsSpelledName}
use Rattle.basic_tree.proofs.KeywordLemmas.{and_left, and_right, at_letter}
use Rattle.basic_tree.proofs.TableSpelling.{SpelledWord}

-- ---- capital letters

capital_same : (l : ℕ) → l ≤ 90 → to_ascii_uppercase l ≡ l
capital_same l high = rw (lt-ltb l 97 (omega (arith, high))) refl

capital_alphabetic : (l : ℕ) → 65 ≤ l → l ≤ 90 → is_ascii_alphabetic l ≡ true
capital_alphabetic l low high = rw (le-leb 65 l low, le-leb l 90 high) refl

digit_below : (d : ℕ) → is_ascii_digit d ≡ true → d < 65
digit_below d e = omega (arith, leb-true d 57 (and_right (nat_le 48 d) (nat_le d 57) e))

-- ---- the rest begins with no word of a table

-- all words of the table pass the test
abbrev every : {W : Type 0} → (List ℕ → Bool) → List (W × List ℕ) → Bool
every test [] = true
every test (entry ∷ table) = test entry.1 && every test table

none_from : {W : Type 0} (test : List ℕ → Bool) (rest : List ℕ) → ((word : List ℕ) → test word ≡ true → is_at_front word rest ≡ false) → (table : List (W × List ℕ)) (n : ℕ) → every test table ≡ true → fold (λ longest word. if is_at_front word.1 rest then max longest (length word.1) else longest) n table ≡ n
none_from test rest fails [] n e = refl
none_from test rest fails (entry ∷ table) n e =
    ap (λ b. fold (λ longest word. if is_at_front word.1 rest then max longest (length word.1) else longest) (if b then max n (length entry.1) else n) table) (fails entry.1 (and_left (test entry.1) (every test table) e))
    ∙ none_from test rest fails table n (and_right (test entry.1) (every test table) e)

and_false : (a b : Bool) → b ≡ false → (a && b) ≡ false
and_false true b e = e
and_false false b e = refl

-- the byte is no letter, so it is in no word
no_letter : (c y : ℕ) → c < 65 → nat_le 65 y ≡ true → (to_ascii_uppercase c == y) ≡ false
no_letter c y low e = ap (λ x. x == y) (capital_same c (omega (arith, low))) ∙ ne_eqb c y (λ same. omega (arith, low, same, leb-true 65 y e))

-- ---- names of variables

abbrev second_is_letter : List ℕ → Bool
second_is_letter (x ∷ y ∷ word) = nat_le 65 y
second_is_letter other = false

no_second : (word : List ℕ) (l c : ℕ) (more : List ℕ) → second_is_letter word ≡ true → c < 65 → is_at_front word (l ∷ c ∷ more) ≡ false
no_second [] l c more e low = absurd cc
no_second (x ∷ []) l c more e low = absurd cc
no_second (x ∷ (y ∷ word)) l c more e low =
    and_false (to_ascii_uppercase l == x) ((to_ascii_uppercase c == y) && is_at_front word more) (ap (λ b. b && is_at_front word more) (no_letter c y low e))

second_letters : every second_is_letter keywords ≡ true
unfolding keywords
second_letters = refl

abbrev by_length : List ℕ → ℕ → Bool → Front
by_length rest len function =
    if nat_lt 0 len then keyword_front (take len rest)
    else (if function then name_front kind.FnName (name_end 2 rest) rest
    else name_front kind.Variable (name_end 0 rest) rest)

by_letters : (rest : List ℕ) → letter_front rest ≡ by_length rest (longest_length keywords rest) (begins_function rest)
unfolding letter_front
by_letters rest = refl

variable_front : (l c : ℕ) (more : List ℕ) → 65 ≤ l → l ≤ 90 → c < 65 → front_of (l ∷ c ∷ more) ≡ name_front kind.Variable (name_end 0 (l ∷ c ∷ more)) (l ∷ c ∷ more)
variable_front l c more low high below =
    let rest : List ℕ = l ∷ c ∷ more in
    let none : longest_length keywords rest ≡ 0 = none_from second_is_letter rest (λ word e. no_second word l c more e below) keywords 0 second_letters in
    let other : begins_function rest ≡ false = ap (λ b. b && is_ascii_alphabetic (slice_index rest 2)) (no_second (codes "FN") l c more refl below) in
    at_letter rest (capital_alphabetic l low high) ∙ by_letters rest
    ∙ ap (λ len. by_length rest len (begins_function rest)) none
    ∙ ap (λ b. by_length rest 0 b) other

abbrev name : ℕ → Option ℕ → Bool → Name
name l d text = record { letter = l; digit = d; text = text }

variable_spelled : (l : ℕ) (d : Option ℕ) (text : Bool) → IsSpelledName (name l d text) → SpelledWord (Named (name l d text))
variable_spelled l None true h = record {
  bytes = l ∷ 36 ∷ [];
  sort = kind.Variable;
  some = omega arith;
  front = λ rest. variable_front l 36 (32 ∷ rest) h.0 h.1 (omega arith);
  word = ap (λ x. Named (name x None true)) (capital_same l h.1);
}
variable_spelled l None false h = record {
  bytes = l ∷ 37 ∷ [];
  sort = kind.Variable;
  some = omega arith;
  front = λ rest. variable_front l 37 (32 ∷ rest) h.0 h.1 (omega arith);
  word = ap (λ x. Named (name x None false)) (capital_same l h.1);
}
variable_spelled l (Some d) true h = record {
  bytes = l ∷ d ∷ 36 ∷ [];
  sort = kind.Variable;
  some = omega arith;
  front = λ rest. variable_front l d (36 ∷ 32 ∷ rest) h.0 h.1 (digit_below d h.2) ∙ ap (λ b. name_front kind.Variable (if b then 2 else 1) (l ∷ d ∷ 36 ∷ 32 ∷ rest)) h.2;
  word = ap (λ x. Named (name x (if is_ascii_digit d then Some d else None) true)) (capital_same l h.1) ∙ ap (λ b. Named (name l (if b then Some d else None) true)) h.2;
}
variable_spelled l (Some d) false h = record {
  bytes = l ∷ d ∷ 37 ∷ [];
  sort = kind.Variable;
  some = omega arith;
  front = λ rest. variable_front l d (37 ∷ 32 ∷ rest) h.0 h.1 (digit_below d h.2) ∙ ap (λ b. name_front kind.Variable (if b then 2 else 1) (l ∷ d ∷ 37 ∷ 32 ∷ rest)) h.2;
  word = ap (λ x. Named (name x (if is_ascii_digit d then Some d else None) false)) (capital_same l h.1) ∙ ap (λ b. Named (name l (if b then Some d else None) false)) h.2;
}

pub named_spelled : (n : Name) → IsSpelledName n → SpelledWord (Named n)
named_spelled n h = variable_spelled n.letter n.digit n.text h

-- ---- names of functions

-- a word that begins with FN has a letter in the fourth place
abbrev fourth_is_letter : List ℕ → Bool
fourth_is_letter (x ∷ y ∷ z ∷ v ∷ word) = not ((70 == x) && (78 == y)) || nat_le 65 v
fourth_is_letter (x ∷ y ∷ word) = not ((70 == x) && (78 == y))
fourth_is_letter other = false

apart : (a b s : Bool) → not (a && b) ≡ true → (a && (b && s)) ≡ false
apart true true s e = absurd cc
apart true false s e = refl
apart false b s e = refl

apart_or : (a b t s : Bool) → (not (a && b) || t) ≡ true → (t ≡ true → s ≡ false) → (a && (b && s)) ≡ false
apart_or true true true s e f = f refl
apart_or true true false s e f = absurd cc
apart_or true false t s e f = refl
apart_or false b t s e f = refl

no_fourth : (word : List ℕ) (l c : ℕ) (more : List ℕ) → fourth_is_letter word ≡ true → c < 65 → is_at_front word (70 ∷ 78 ∷ l ∷ c ∷ more) ≡ false
no_fourth [] l c more e low = absurd cc
no_fourth (x ∷ []) l c more e low = absurd cc
no_fourth (x ∷ (y ∷ [])) l c more e low = apart (70 == x) (78 == y) true e
no_fourth (x ∷ (y ∷ (z ∷ []))) l c more e low = apart (70 == x) (78 == y) ((to_ascii_uppercase l == z) && true) e
no_fourth (x ∷ (y ∷ (z ∷ (v ∷ word)))) l c more e low =
    apart_or (70 == x) (78 == y) (nat_le 65 v) ((to_ascii_uppercase l == z) && ((to_ascii_uppercase c == v) && is_at_front word more)) e
    (λ at. and_false (to_ascii_uppercase l == z) ((to_ascii_uppercase c == v) && is_at_front word more) (ap (λ b. b && is_at_front word more) (no_letter c v low at)))

fourth_letters : every fourth_is_letter keywords ≡ true
unfolding keywords
fourth_letters = refl

function_front : (l c : ℕ) (more : List ℕ) → 65 ≤ l → l ≤ 90 → c < 65 → front_of (70 ∷ 78 ∷ l ∷ c ∷ more) ≡ name_front kind.FnName (name_end 2 (70 ∷ 78 ∷ l ∷ c ∷ more)) (70 ∷ 78 ∷ l ∷ c ∷ more)
function_front l c more low high below =
    let rest : List ℕ = 70 ∷ 78 ∷ l ∷ c ∷ more in
    let none : longest_length keywords rest ≡ 0 = none_from fourth_is_letter rest (λ word e. no_fourth word l c more e below) keywords 0 fourth_letters in
    at_letter rest refl ∙ by_letters rest
    ∙ ap (λ len. by_length rest len (begins_function rest)) none
    ∙ ap (λ b. by_length rest 0 b) (capital_alphabetic l low high)

function_spelled : (l : ℕ) (d : Option ℕ) (text : Bool) → IsSpelledName (name l d text) → SpelledWord (FnNamed (name l d text))
function_spelled l None true h = record {
  bytes = 70 ∷ 78 ∷ l ∷ 36 ∷ [];
  sort = kind.FnName;
  some = omega arith;
  front = λ rest. function_front l 36 (32 ∷ rest) h.0 h.1 (omega arith);
  word = ap (λ x. FnNamed (name x None true)) (capital_same l h.1);
}
function_spelled l None false h = record {
  bytes = 70 ∷ 78 ∷ l ∷ 37 ∷ [];
  sort = kind.FnName;
  some = omega arith;
  front = λ rest. function_front l 37 (32 ∷ rest) h.0 h.1 (omega arith);
  word = ap (λ x. FnNamed (name x None false)) (capital_same l h.1);
}
function_spelled l (Some d) true h = record {
  bytes = 70 ∷ 78 ∷ l ∷ d ∷ 36 ∷ [];
  sort = kind.FnName;
  some = omega arith;
  front = λ rest. function_front l d (36 ∷ 32 ∷ rest) h.0 h.1 (digit_below d h.2) ∙ ap (λ b. name_front kind.FnName (if b then 4 else 3) (70 ∷ 78 ∷ l ∷ d ∷ 36 ∷ 32 ∷ rest)) h.2;
  word = ap (λ x. FnNamed (name x (if is_ascii_digit d then Some d else None) true)) (capital_same l h.1) ∙ ap (λ b. FnNamed (name l (if b then Some d else None) true)) h.2;
}
function_spelled l (Some d) false h = record {
  bytes = 70 ∷ 78 ∷ l ∷ d ∷ 37 ∷ [];
  sort = kind.FnName;
  some = omega arith;
  front = λ rest. function_front l d (37 ∷ 32 ∷ rest) h.0 h.1 (digit_below d h.2) ∙ ap (λ b. name_front kind.FnName (if b then 4 else 3) (70 ∷ 78 ∷ l ∷ d ∷ 37 ∷ 32 ∷ rest)) h.2;
  word = ap (λ x. FnNamed (name x (if is_ascii_digit d then Some d else None) false)) (capital_same l h.1) ∙ ap (λ b. FnNamed (name l (if b then Some d else None) false)) h.2;
}

pub fn_named_spelled : (n : Name) → IsSpelledName n → SpelledWord (FnNamed n)
fn_named_spelled n h = function_spelled n.letter n.digit n.text h

-- What a line has at a letter and at a digit, by what the tests before found.
use Rattle.std.proofs.Common.{◌≡◌, ℕ, ◌+◌, ◌<◌, ◌≤◌, Bool, true, false, List, take, drop, sym, ap, ◌∙◌, lt-ltb}
use Rattle.std.proofs.lemmas.Bool.{le-ltb, eq-eqb, ne_eqb}
use Rattle.std.specs.Prelude.{◌==◌, min, nat_lt, if◌then◌else◌, slice_index}
use Rattle.std.specs.Char.{is_ascii_digit}
use Rattle.std.specs.List.{prefix_len}
use Rattle.std.specs.Str.Parse.{digits_value}
use Rattle.basic_values.specs.declared.limits.TheConstants.{MOST_NUMBER}
use Rattle.basic_tree.specs.Words.{keywords}
use Rattle.basic_tree.specs.Tokens.{longest_length, keyword_front, name_end, name_front, begins_function, letter_front, is_floating, digit_front}
use Rattle.basic_tree.specs.declared.tokens.TokenKind.TheVariants as kind
use Rattle.basic_tree.specs.declared.tokens.Cause.TheVariants as cause
use Rattle.basic_tree.specs.declared.tokens.Front.{Front}
use Rattle.basic_tree.specs.declared.tokens.Front.TheVariants as front

-- a choice whose test is known
chosen : {b : Bool} (x y : Front) → b ≡ true → (if b then x else y) ≡ x
chosen x y is = ap (λ (it : Bool). if it then x else y) is

passed : {b : Bool} (x y : Front) → b ≡ false → (if b then x else y) ≡ y
passed x y is = ap (λ (it : Bool). if it then x else y) is

module _ (rest : List ℕ) where
  abbrev function : Front
  function = name_front kind.FnName (name_end 2 rest) rest

  abbrev variable : Front
  variable = name_front kind.Variable (name_end 0 rest) rest

  abbrev name : Front
  name = if begins_function rest then function else variable

  -- at a letter, by the length of the longest keyword
  pub letter_keyword : (n : ℕ) → n ≡ longest_length keywords rest → 0 < n → letter_front rest ≡ keyword_front (take n rest)
  unfolding letter_front
  letter_keyword n at some =
      ap (λ m. if nat_lt 0 m then keyword_front (take m rest) else name) (sym at) ∙ chosen _ _ (lt-ltb 0 n some)

  letter_name : longest_length keywords rest ≤ 0 → letter_front rest ≡ name
  unfolding letter_front
  letter_name none = passed _ _ (le-ltb 0 _ none)

  pub letter_function : longest_length keywords rest ≤ 0 → begins_function rest ≡ true → letter_front rest ≡ function
  letter_function none begins = letter_name none ∙ chosen _ _ begins

  pub letter_variable : longest_length keywords rest ≤ 0 → begins_function rest ≡ false → letter_front rest ≡ variable
  letter_variable none begins = letter_name none ∙ passed _ _ begins

  module _ (n : ℕ) (at : n ≡ prefix_len is_ascii_digit rest) where
    abbrev literal : Front
    literal = front.Token kind.Literal (if slice_index rest n == 37 then n + 1 else n)

    abbrev number : Front
    number = if nat_lt MOST_NUMBER (digits_value 10 (take n rest)) then front.Refused cause.NumberTooWide else literal

    -- at a digit, by the number of digits
    digit_by : digit_front rest ≡ (if is_floating (drop n rest) then front.Refused cause.FloatingLiteral else number)
    unfolding digit_front
    digit_by = ap (λ m. if is_floating (drop m rest) then front.Refused cause.FloatingLiteral else (if nat_lt MOST_NUMBER (digits_value 10 (take m rest)) then front.Refused cause.NumberTooWide else front.Token kind.Literal (if slice_index rest m == 37 then m + 1 else m))) (sym at)

    pub digit_floating : is_floating (drop n rest) ≡ true → digit_front rest ≡ front.Refused cause.FloatingLiteral
    digit_floating floats = digit_by ∙ chosen _ _ floats

    pub digit_wide : is_floating (drop n rest) ≡ false → MOST_NUMBER < digits_value 10 (take n rest) → digit_front rest ≡ front.Refused cause.NumberTooWide
    digit_wide whole wide = digit_by ∙ passed _ _ whole ∙ chosen _ _ (lt-ltb MOST_NUMBER _ wide)

    digit_literal : is_floating (drop n rest) ≡ false → digits_value 10 (take n rest) ≤ MOST_NUMBER → digit_front rest ≡ literal
    digit_literal whole fits = digit_by ∙ passed _ _ whole ∙ passed _ _ (le-ltb MOST_NUMBER _ fits)

    pub digit_percent : is_floating (drop n rest) ≡ false → digits_value 10 (take n rest) ≤ MOST_NUMBER → slice_index rest n ≡ 37 → digit_front rest ≡ front.Token kind.Literal (n + 1)
    digit_percent whole fits percent = digit_literal whole fits ∙ ap (λ (b : Bool). front.Token kind.Literal (if b then n + 1 else n)) (eq-eqb _ _ percent)

    pub digit_plain : is_floating (drop n rest) ≡ false → digits_value 10 (take n rest) ≤ MOST_NUMBER → (slice_index rest n ≡ 37 → ⊥) → digit_front rest ≡ front.Token kind.Literal n
    digit_plain whole fits other = digit_literal whole fits ∙ ap (λ (b : Bool). front.Token kind.Literal (if b then n + 1 else n)) (ne_eqb _ _ other)

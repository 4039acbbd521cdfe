-- What the rest of a line begins with lies in the rest.
use Rattle.std.proofs.Common.{◌≡◌, ℕ, zero, suc, ◌+◌, ◌<◌, ◌≤◌, Bool, true, false, List, [], ◌∷◌, length, take, drop, refl, sym, ap, ◌∙◌, subst, arith, ltb-true, length-take, length-drop}
use Rattle.std.specs.Prelude.{map, Contains, slice_index_or, ◌==◌, ◌&&◌, nat_lt, max, if◌then◌else◌, slice_index, position, fold, codes, Option, Some, None}
use Rattle.std.specs.Char.{is_ascii_digit, to_ascii_uppercase, is_ascii_alphabetic}
use Rattle.std.specs.List.{prefix_len}
use Rattle.std.specs.Str.Parse.{digits_value}
use Rattle.std.proofs.lemmas.Bool.{eqb-true}
use Rattle.std.proofs.lemmas.List.Quantifiers.{position-Some}
use Rattle.std.proofs.lemmas.List.Sums.{prefix_len-le-length}
use Rattle.basic_tree.specs.Words.{keywords, signs}
use Rattle.basic_tree.specs.Tokens.{is_blank, is_quote, is_type_mark, is_at_front, is_word, longest_length, keyword_front, name_end, name_front, begins_function, letter_front, is_floating, digit_front, closed_front, quote_front, sign_front, front_of}
use Rattle.basic_tree.specs.TokenLaws.{LiesIn}
use Rattle.basic_tree.specs.declared.tokens.TokenKind.{TokenKind}
use Rattle.basic_tree.specs.declared.tokens.TokenKind.TheVariants as kind
use Rattle.basic_tree.specs.declared.tokens.Cause.TheVariants as cause
use Rattle.basic_tree.specs.declared.tokens.Front.{Front}
use Rattle.basic_tree.specs.declared.tokens.Front.TheVariants as front

and_right : (a b : Bool) → (a && b) ≡ true → b ≡ true
and_right true b e = e
and_right false b e = absurd (cc)

and_left : (a b : Bool) → (a && b) ≡ true → a ≡ true
and_left true b e = refl
and_left false b e = absurd (cc)

-- a number has a bound if both sides of the choice have it
at_most : (most : ℕ) (b : Bool) (x y : ℕ) → (b ≡ true → x ≤ most) → (b ≡ false → y ≤ most) → (if b then x else y) ≤ most
at_most most true x y first second = first refl
at_most most false x y first second = second refl

-- what the rest begins with lies in it
record Within (f : Front) (rest : List ℕ) : Type 0 where
  pub fits : LiesIn f rest

chosen : (b : Bool) (x y : Front) (rest : List ℕ) → (b ≡ true → Within x rest) → (b ≡ false → Within y rest) → Within (if b then x else y) rest
chosen true x y rest first second = first refl
chosen false x y rest first second = second refl

-- the two lengths that a literal can have
chosen_length : (b : Bool) (m n : ℕ) (rest : List ℕ) → (b ≡ true → Within (front.Token kind.Literal m) rest) → (b ≡ false → Within (front.Token kind.Literal n) rest) → Within (front.Token kind.Literal (if b then m else n)) rest
chosen_length true m n rest first second = first refl
chosen_length false m n rest first second = second refl

-- a word that the rest begins with is no longer than the rest
pub stands_within : (word rest : List ℕ) → is_at_front word rest ≡ true → length word ≤ length rest
stands_within [] rest e = omega arith
stands_within (letter ∷ word) [] e = absurd (cc)
stands_within (letter ∷ word) (b ∷ rest) e = omega (arith, stands_within word rest (and_right (to_ascii_uppercase b == letter) (is_at_front word rest) e))

-- nor is the longest word of a table
longest_from : {W : Type 0} (table : List (W × List ℕ)) (rest : List ℕ) (n : ℕ) → n ≤ length rest → fold (λ longest word. if is_at_front word.1 rest then max longest (length word.1) else longest) n table ≤ length rest
longest_from [] rest n le = le
longest_from (entry ∷ table) rest n le =
    longest_from table rest _
    (at_most (length rest) (is_at_front entry.1 rest) (max n (length entry.1)) n (λ e. omega (arith, stands_within entry.1 rest e)) (λ e. le))

pub longest_within : {W : Type 0} (table : List (W × List ℕ)) (rest : List ℕ) → longest_length table rest ≤ length rest
longest_within table rest = longest_from table rest 0 (omega arith)

-- the end of a name is before the end of the line
mark_within : (rest : List ℕ) (i : ℕ) → is_type_mark (slice_index rest i) ≡ true → i < length rest
mark_within [] zero e = absurd (cc)
mark_within [] (suc i) e = absurd (cc)
mark_within (b ∷ rest) zero e = omega arith
mark_within (b ∷ rest) (suc i) e = omega (arith, mark_within rest i e)

percent_within : (rest : List ℕ) (i : ℕ) → (slice_index rest i == 37) ≡ true → i < length rest
percent_within [] zero e = absurd (cc)
percent_within [] (suc i) e = absurd (cc)
percent_within (b ∷ rest) zero e = omega arith
percent_within (b ∷ rest) (suc i) e = omega (arith, percent_within rest i e)

four_letters : (bytes : List ℕ) → is_word (codes "DATA") bytes ≡ true → length bytes ≡ 4
four_letters bytes e = eqb-true (length bytes) 4 (and_left (length bytes == 4) (is_at_front (codes "DATA") bytes) e)

keyword_fits : (word rest : List ℕ) → 0 < length word → length word ≤ length rest → Within (keyword_front word) rest
keyword_fits word rest some within =
    chosen (is_word (codes "REM") word) front.Comment (if is_word (codes "DATA") word then front.Data else front.Token kind.Keyword (length word)) rest (λ e. record { fits = tt })
    (λ _. chosen (is_word (codes "DATA") word) front.Data (front.Token kind.Keyword (length word)) rest
    (λ e. record { fits = omega (arith, four_letters word e) })
    (λ e. record { fits = (some, within) }))

name_fits : (k : TokenKind) (end : ℕ) (rest : List ℕ) → Within (name_front k end rest) rest
name_fits k end rest =
    chosen (is_type_mark (slice_index rest end)) (front.Token k (end + 1)) (front.Refused cause.FloatingName) rest
    (λ e. let within = mark_within rest end e in record { fits = (omega arith, omega arith) })
    (λ e. record { fits = tt })

letter_fits : (rest : List ℕ) → 0 < length rest → Within (letter_front rest) rest
unfolding letter_front
letter_fits rest nonempty =
    let len = longest_length keywords rest in
    let function = name_front kind.FnName (name_end 2 rest) rest in
    let variable = name_front kind.Variable (name_end 0 rest) rest in
    chosen (nat_lt 0 len) (keyword_front (take len rest)) (if begins_function rest then function else variable) rest
    (λ e. let some : 0 < len = ltb-true _ _ e in keyword_fits (take len rest) rest (omega (arith, length-take len rest)) (omega (arith, length-take len rest)))
    (λ _. chosen (begins_function rest) function variable rest (λ e. name_fits kind.FnName (name_end 2 rest) rest) (λ e. name_fits kind.Variable (name_end 0 rest) rest))

run_not_empty : (rest : List ℕ) → is_ascii_digit (slice_index rest 0) ≡ true → 0 < prefix_len is_ascii_digit rest
run_not_empty [] e = absurd (cc)
run_not_empty (b ∷ rest) e = subst (λ d. 0 < (if d then 1 + prefix_len is_ascii_digit rest else 0)) (sym e) (omega arith)

digit_fits : (rest : List ℕ) → is_ascii_digit (slice_index rest 0) ≡ true → Within (digit_front rest) rest
unfolding digit_front
digit_fits rest digit =
    let len = prefix_len is_ascii_digit rest in
    let some = run_not_empty rest digit in
    let within = prefix_len-le-length is_ascii_digit rest in
    let literal = front.Token kind.Literal (if slice_index rest len == 37 then len + 1 else len) in
    let wide = nat_lt 32767 (digits_value 10 (take len rest)) in
    chosen (is_floating (drop len rest)) (front.Refused cause.FloatingLiteral) (if wide then front.Refused cause.NumberTooWide else literal) rest (λ e. record { fits = tt })
    (λ _. chosen wide (front.Refused cause.NumberTooWide) literal rest (λ e. record { fits = tt })
    (λ _. chosen_length (slice_index rest len == 37) (len + 1) len rest
    (λ e. let more = percent_within rest len e in record { fits = (omega arith, omega arith) })
    (λ e. record { fits = (some, within) })))

quote_fits : (rest : List ℕ) → Within (quote_front rest) rest
unfolding quote_front
quote_fits rest = go (position (λ b. b == slice_index rest 0) (drop 1 rest)) refl where
  go : (found : Option ℕ) → position (λ b. b == slice_index rest 0) (drop 1 rest) ≡ found → Within (closed_front found) rest
  go None e = record { fits = tt }
  go (Some i) e =
      let within = (position-Some (λ b. b == slice_index rest 0) (drop 1 rest) i 0 e).0 in
      record { fits = (omega arith, omega (arith, length-drop 1 rest)) }

sign_fits : (rest : List ℕ) → Within (sign_front rest) rest
unfolding sign_front
sign_fits rest =
    let len = longest_length signs rest in
    chosen (nat_lt 0 len) (front.Token kind.Sign len) (front.Refused cause.StrayByte) rest (λ e. record { fits = (ltb-true _ _ e, longest_within signs rest) }) (λ e. record { fits = tt })

-- a token has at least one byte, and lies in the rest of the line
pub front_fits : (rest : List ℕ) → 0 < length rest → LiesIn (front_of rest) rest
unfolding front_of
front_fits rest nonempty =
    let first = slice_index rest 0 in
    let sign = sign_front rest in
    let comment = if first == 33 then front.Comment else sign in
    let quoted = if is_quote first then quote_front rest else comment in
    let number = if is_ascii_digit first then digit_front rest else quoted in
    let letter = if is_ascii_alphabetic first then letter_front rest else number in
    let here : Within (front_of rest) rest =
    chosen (is_blank first) front.Blank letter rest (λ e. record { fits = tt })
    (λ _. chosen (is_ascii_alphabetic first) (letter_front rest) number rest (λ e. letter_fits rest nonempty)
    (λ _. chosen (is_ascii_digit first) (digit_front rest) quoted rest (λ e. digit_fits rest e)
    (λ _. chosen (is_quote first) (quote_front rest) comment rest (λ e. quote_fits rest)
    (λ _. chosen (first == 33) front.Comment sign rest (λ e. record { fits = tt })
    (λ _. sign_fits rest))))) in
    here.fits

-- the largest length so far does not fall
pub at_least : (least : ℕ) (b : Bool) (x y : ℕ) → (b ≡ true → least ≤ x) → (b ≡ false → least ≤ y) → least ≤ (if b then x else y)
at_least least true x y first second = first refl
at_least least false x y first second = second refl

pub longest_grows : {W : Type 0} (table : List (W × List ℕ)) (rest : List ℕ) (n : ℕ) → n ≤ fold (λ longest word. if is_at_front word.1 rest then max longest (length word.1) else longest) n table
longest_grows [] rest n = omega arith
longest_grows (entry ∷ table) rest n =
    let m : ℕ = if is_at_front entry.1 rest then max n (length entry.1) else n in
    let step : n ≤ m = at_least n (is_at_front entry.1 rest) (max n (length entry.1)) n (λ e. omega arith) (λ e. omega arith) in
    omega (arith, longest_grows table rest m)

most_from : {W : Type 0} (table : List (W × List ℕ)) (word rest : List ℕ) (n k : ℕ) → k < length (map (λ entry. entry.1) table) → slice_index_or (map (λ entry. entry.1) table) k word ≡ word → is_at_front word rest ≡ true → length word ≤ fold (λ longest entry. if is_at_front entry.1 rest then max longest (length entry.1) else longest) n table
most_from [] word rest n k inside at e = absurd (omega arith)
most_from (entry ∷ table) word rest n zero inside at e =
    let here : is_at_front entry.1 rest ≡ true = ap (λ w. is_at_front w rest) at ∙ e in
    let same : length entry.1 ≡ length word = ap length at in
    let m : ℕ = if is_at_front entry.1 rest then max n (length entry.1) else n in
    let step : length word ≤ m = at_least (length word) (is_at_front entry.1 rest) (max n (length entry.1)) n (λ _. omega arith) (λ no. absurd (cc)) in
    omega (arith, longest_grows table rest m)
most_from (entry ∷ table) word rest n (suc k) inside at e = most_from table word rest _ k (omega arith) at e

-- no word of a table that the rest begins with is longer than the longest
pub longest_is_most : {W : Type 0} (table : List (W × List ℕ)) (word rest : List ℕ) → Contains (map (λ entry. entry.1) table) word → is_at_front word rest ≡ true → length word ≤ longest_length table rest
longest_is_most table word rest inside e = most_from table word rest 0 inside.0 inside.1 inside.2 e

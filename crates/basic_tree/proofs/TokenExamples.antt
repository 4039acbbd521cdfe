-- Lines and their tokens, computed.
use Rattle.std.proofs.Common.{◌≡◌, ℕ, List, [], ◌∷◌, Ok, Err, refl}
use Rattle.std.specs.Prelude.{codes}
use Rattle.basic_tree.specs.Words.{keywords, signs}
use Rattle.basic_tree.specs.Tokens.{Lexeme, Reading, letter_front, digit_front, quote_front, sign_front, front_of, items_from, tokens_from, tokens_of}
use Rattle.basic_tree.specs.declared.tokens.TokenKind.{TokenKind}
use Rattle.basic_tree.specs.declared.tokens.TokenKind.TheVariants as kind
use Rattle.basic_tree.specs.declared.tokens.Cause.{Cause}
use Rattle.basic_tree.specs.declared.tokens.Cause.TheVariants as cause

abbrev token : TokenKind → ℕ → List ℕ → Lexeme
token k start bytes = record { kind = k; start = start; bytes = bytes }

-- the line is rejected at this place
abbrev refused : ℕ → Cause → Reading
refused place why = Err (record { place = place; cause = why })

for_without_blanks : tokens_of (codes "FORI%=1TO3") ≡ Ok (token kind.Keyword 0 (codes "FOR") ∷ token kind.Variable 3 (codes "I%") ∷ token kind.Sign 5 (codes "=") ∷ token kind.Literal 6 (codes "1") ∷ token kind.Keyword 7 (codes "TO") ∷ token kind.Literal 9 (codes "3") ∷ [])
unfolding keywords signs letter_front digit_front quote_front sign_front front_of items_from tokens_from
for_without_blanks = refl

goto_is_one_word : tokens_of (codes "GOTO 10") ≡ Ok (token kind.Keyword 0 (codes "GOTO") ∷ token kind.Literal 5 (codes "10") ∷ [])
unfolding keywords signs letter_front digit_front quote_front sign_front front_of items_from tokens_from
goto_is_one_word = refl

go_to_is_two_words : tokens_of (codes "GO TO 10") ≡ Ok (token kind.Keyword 0 (codes "GO") ∷ token kind.Keyword 3 (codes "TO") ∷ token kind.Literal 6 (codes "10") ∷ [])
unfolding keywords signs letter_front digit_front quote_front sign_front front_of items_from tokens_from
go_to_is_two_words = refl

small_letters : tokens_of (codes "print a1$") ≡ Ok (token kind.Keyword 0 (codes "print") ∷ token kind.Variable 6 (codes "a1$") ∷ [])
unfolding keywords signs letter_front digit_front quote_front sign_front front_of items_from tokens_from
small_letters = refl

function_names : tokens_of (codes "LEFT$(FNA2%(1%),MIDB$)") ≡ Ok (token kind.Keyword 0 (codes "LEFT$") ∷ token kind.Sign 5 (codes "(") ∷ token kind.FnName 6 (codes "FNA2%") ∷ token kind.Sign 11 (codes "(") ∷ token kind.Literal 12 (codes "1%") ∷ token kind.Sign 14 (codes ")") ∷ token kind.Sign 15 (codes ",") ∷ token kind.Keyword 16 (codes "MID") ∷ token kind.Variable 19 (codes "B$") ∷ token kind.Sign 21 (codes ")") ∷ [])
unfolding keywords signs letter_front digit_front quote_front sign_front front_of items_from tokens_from
function_names = refl

fnend_is_a_word : tokens_of (codes "FNEND") ≡ Ok (token kind.Keyword 0 (codes "FNEND") ∷ [])
unfolding keywords signs letter_front digit_front quote_front sign_front front_of items_from tokens_from
fnend_is_a_word = refl

double_quotes_hold_single : tokens_of (34 ∷ 105 ∷ 116 ∷ 39 ∷ 115 ∷ 34 ∷ []) ≡ Ok (token kind.Quoted 0 (34 ∷ 105 ∷ 116 ∷ 39 ∷ 115 ∷ 34 ∷ []) ∷ [])
unfolding keywords signs letter_front digit_front quote_front sign_front front_of items_from tokens_from
double_quotes_hold_single = refl

single_quotes_hold_double : tokens_of (39 ∷ 115 ∷ 97 ∷ 121 ∷ 32 ∷ 34 ∷ 39 ∷ 43 ∷ 65 ∷ 36 ∷ []) ≡ Ok (token kind.Quoted 0 (39 ∷ 115 ∷ 97 ∷ 121 ∷ 32 ∷ 34 ∷ 39 ∷ []) ∷ token kind.Sign 7 (codes "+") ∷ token kind.Variable 8 (codes "A$") ∷ [])
unfolding keywords signs letter_front digit_front quote_front sign_front front_of items_from tokens_from
single_quotes_hold_double = refl

comment : tokens_of (codes "A%! B") ≡ Ok (token kind.Variable 0 (codes "A%") ∷ [])
unfolding keywords signs letter_front digit_front quote_front sign_front front_of items_from tokens_from
comment = refl

remark : tokens_of (65 ∷ 37 ∷ 92 ∷ 82 ∷ 69 ∷ 77 ∷ 65 ∷ 82 ∷ 75 ∷ 32 ∷ 34 ∷ []) ≡ Ok (token kind.Variable 0 (codes "A%") ∷ token kind.Sign 2 (92 ∷ []) ∷ [])
unfolding keywords signs letter_front digit_front quote_front sign_front front_of items_from tokens_from
remark = refl

items : tokens_of (68 ∷ 65 ∷ 84 ∷ 65 ∷ 32 ∷ 49 ∷ 44 ∷ 34 ∷ 97 ∷ 44 ∷ 98 ∷ 34 ∷ 44 ∷ 33 ∷ 32 ∷ 82 ∷ 69 ∷ 77 ∷ []) ≡ Ok (token kind.Keyword 0 (codes "DATA") ∷ token kind.DataItem 4 (codes " 1") ∷ token kind.DataItem 7 (34 ∷ 97 ∷ 44 ∷ 98 ∷ 34 ∷ []) ∷ token kind.DataItem 13 (codes "! REM") ∷ [])
unfolding keywords signs letter_front digit_front quote_front sign_front front_of items_from tokens_from
items = refl

items_in_single_quotes : tokens_of (68 ∷ 65 ∷ 84 ∷ 65 ∷ 32 ∷ 97 ∷ 39 ∷ 98 ∷ 44 ∷ 34 ∷ 44 ∷ 99 ∷ []) ≡ Ok (token kind.Keyword 0 (codes "DATA") ∷ token kind.DataItem 4 (32 ∷ 97 ∷ 39 ∷ 98 ∷ 44 ∷ 34 ∷ 44 ∷ 99 ∷ []) ∷ [])
unfolding keywords signs letter_front digit_front quote_front sign_front front_of items_from tokens_from
items_in_single_quotes = refl

no_items_are_one_empty_item : tokens_of (codes "DATA") ≡ Ok (token kind.Keyword 0 (codes "DATA") ∷ token kind.DataItem 4 [] ∷ [])
unfolding keywords signs letter_front digit_front quote_front sign_front front_of items_from tokens_from
no_items_are_one_empty_item = refl

comma_ends_an_item : tokens_of (codes "data,") ≡ Ok (token kind.Keyword 0 (codes "data") ∷ token kind.DataItem 4 [] ∷ token kind.DataItem 5 [] ∷ [])
unfolding keywords signs letter_front digit_front quote_front sign_front front_of items_from tokens_from
comma_ends_an_item = refl

greatest_number : tokens_of (codes "32767") ≡ Ok (token kind.Literal 0 (codes "32767") ∷ [])
unfolding keywords signs letter_front digit_front quote_front sign_front front_of items_from tokens_from
greatest_number = refl

leading_zeros : tokens_of (codes "0000000001%") ≡ Ok (token kind.Literal 0 (codes "0000000001%") ∷ [])
unfolding keywords signs letter_front digit_front quote_front sign_front front_of items_from tokens_from
leading_zeros = refl

digit_behind_percent : tokens_of (codes "1%2") ≡ Ok (token kind.Literal 0 (codes "1%") ∷ token kind.Literal 2 (codes "2") ∷ [])
unfolding keywords signs letter_front digit_front quote_front sign_front front_of items_from tokens_from
digit_behind_percent = refl

longest_sign : tokens_of (codes "2**3<=>4==5*") ≡ Ok (token kind.Literal 0 (codes "2") ∷ token kind.Sign 1 (codes "**") ∷ token kind.Literal 3 (codes "3") ∷ token kind.Sign 4 (codes "<=") ∷ token kind.Sign 6 (codes ">") ∷ token kind.Literal 7 (codes "4") ∷ token kind.Sign 8 (codes "==") ∷ token kind.Literal 10 (codes "5") ∷ token kind.Sign 11 (codes "*") ∷ [])
unfolding keywords signs letter_front digit_front quote_front sign_front front_of items_from tokens_from
longest_sign = refl

no_exponent : tokens_of (codes "1ELSE 2E%") ≡ Ok (token kind.Literal 0 (codes "1") ∷ token kind.Keyword 1 (codes "ELSE") ∷ token kind.Literal 6 (codes "2") ∷ token kind.Variable 7 (codes "E%") ∷ [])
unfolding keywords signs letter_front digit_front quote_front sign_front front_of items_from tokens_from
no_exponent = refl

nothing : tokens_of [] ≡ Ok ([])
unfolding keywords signs letter_front digit_front quote_front sign_front front_of items_from tokens_from
nothing = refl

blanks : tokens_of (32 ∷ 9 ∷ 32 ∷ []) ≡ Ok ([])
unfolding keywords signs letter_front digit_front quote_front sign_front front_of items_from tokens_from
blanks = refl

floating_name : tokens_of (codes "A%=BC%") ≡ refused 3 cause.FloatingName
unfolding keywords signs letter_front digit_front quote_front sign_front front_of items_from tokens_from
floating_name = refl

floating_name_with_digits : tokens_of (codes "A12%") ≡ refused 0 cause.FloatingName
unfolding keywords signs letter_front digit_front quote_front sign_front front_of items_from tokens_from
floating_name_with_digits = refl

floating_function_name : tokens_of (codes "FNA") ≡ refused 0 cause.FloatingName
unfolding keywords signs letter_front digit_front quote_front sign_front front_of items_from tokens_from
floating_function_name = refl

total_is_to_and_a_name : tokens_of (codes "TOTAL%") ≡ refused 2 cause.FloatingName
unfolding keywords signs letter_front digit_front quote_front sign_front front_of items_from tokens_from
total_is_to_and_a_name = refl

floating_literal : tokens_of (codes "A%=1.5") ≡ refused 3 cause.FloatingLiteral
unfolding keywords signs letter_front digit_front quote_front sign_front front_of items_from tokens_from
floating_literal = refl

exponent : tokens_of (codes "1E5") ≡ refused 0 cause.FloatingLiteral
unfolding keywords signs letter_front digit_front quote_front sign_front front_of items_from tokens_from
exponent = refl

exponent_in_small_letters : tokens_of (codes "1e5") ≡ refused 0 cause.FloatingLiteral
unfolding keywords signs letter_front digit_front quote_front sign_front front_of items_from tokens_from
exponent_in_small_letters = refl

signed_exponent : tokens_of (codes "1E+5") ≡ refused 0 cause.FloatingLiteral
unfolding keywords signs letter_front digit_front quote_front sign_front front_of items_from tokens_from
signed_exponent = refl

exponent_behind_percent : tokens_of (codes "1%E5") ≡ refused 2 cause.FloatingName
unfolding keywords signs letter_front digit_front quote_front sign_front front_of items_from tokens_from
exponent_behind_percent = refl

point_behind_percent : tokens_of (codes "1%.5") ≡ refused 2 cause.StrayByte
unfolding keywords signs letter_front digit_front quote_front sign_front front_of items_from tokens_from
point_behind_percent = refl

point : tokens_of (codes ".5") ≡ refused 0 cause.StrayByte
unfolding keywords signs letter_front digit_front quote_front sign_front front_of items_from tokens_from
point = refl

number_too_wide : tokens_of (codes " 32768") ≡ refused 1 cause.NumberTooWide
unfolding keywords signs letter_front digit_front quote_front sign_front front_of items_from tokens_from
number_too_wide = refl

open_string : tokens_of (65 ∷ 36 ∷ 61 ∷ 39 ∷ 88 ∷ 34 ∷ []) ≡ refused 3 cause.OpenString
unfolding keywords signs letter_front digit_front quote_front sign_front front_of items_from tokens_from
open_string = refl

stray_byte : tokens_of (codes "A%=?") ≡ refused 3 cause.StrayByte
unfolding keywords signs letter_front digit_front quote_front sign_front front_of items_from tokens_from
stray_byte = refl

first_place_wins : tokens_of (49 ∷ 46 ∷ 53 ∷ 43 ∷ 34 ∷ 88 ∷ []) ≡ refused 0 cause.FloatingLiteral
unfolding keywords signs letter_front digit_front quote_front sign_front front_of items_from tokens_from
first_place_wins = refl

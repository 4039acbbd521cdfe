-- Expressions read by the machine, computed.
use Rattle.std.proofs.Common.{◌≡◌, ℕ, zero, suc, true, false, List, [], ◌∷◌, None, Ok, Err, refl}
use Rattle.std.specs.Prelude.{codes}
use Rattle.basic_tree.specs.declared.names.Name.{Name}
use Rattle.basic_tree.specs.declared.tokens.Keyword.TheVariants as keyword
use Rattle.basic_tree.specs.declared.tokens.Sign.TheVariants as sign
use Rattle.basic_tree.specs.declared.expressions.Operator.TheVariants as operator
use Rattle.basic_tree.specs.declared.expressions.Relation.TheVariants as relation
use Rattle.basic_tree.specs.declared.expressions.Function.TheVariants as function
use Rattle.basic_tree.specs.declared.kinds.Want.{Want}
use Rattle.basic_tree.specs.declared.kinds.Want.TheVariants as want
use Rattle.basic_tree.specs.Words.{keywords, signs}
use Rattle.basic_tree.specs.Tokens.{Reading, letter_front, digit_front, quote_front, sign_front, front_of, items_from, tokens_from, tokens_of}
use Rattle.basic_tree.specs.SpellingWords.{Word, Key, Punctuation, Number, words_of, most_levels}
use Rattle.basic_tree.specs.Trees.{Literal, Variable, FunctionOf, Call, Negative, Not, Operation, Comparison, NoTrees, AndTrees}
use Rattle.grammar_machine.specs.MachineStack.{Term, Level, loosest}
use Rattle.grammar_machine.specs.MachineRun.{Wrong, TooDeep, MachineOutcome, run}

-- the words of a line's bytes; none if the line is rejected
abbrev words_in : Reading → List Word
words_in (Ok tokens) = words_of tokens
words_in (Err refusal) = []

-- what the machine reads of a line if an expression is expected
abbrev reading : Want → List ℕ → MachineOutcome
reading w bytes = run most_levels (words_in (tokens_of bytes)) (Level loosest w ∷ []) []

abbrev number_name : ℕ → Name
number_name letter = record { letter = letter; digit = None; text = false }

abbrev text_name : ℕ → Name
text_name letter = record { letter = letter; digit = None; text = true }

a_sum : reading want.Number (codes "2%+3%") ≡ Ok (Term (Operation (Literal 2) operator.Plus (Literal 3)) ∷ [], [])
unfolding keywords signs letter_front digit_front quote_front sign_front front_of items_from tokens_from run
a_sum = refl

powers_and_signs : reading want.Number (codes "-A%^-B%^C%") ≡ Ok (Term (Negative (Operation (Operation (Variable (number_name 65)) operator.Power (Negative (Variable (number_name 66)))) operator.Power (Variable (number_name 67)))) ∷ [], [])
unfolding keywords signs letter_front digit_front quote_front sign_front front_of items_from tokens_from run
powers_and_signs = refl

from_the_left : reading want.Number (codes "A%-B%-C%*D%/E%") ≡ Ok (Term (Operation (Operation (Variable (number_name 65)) operator.Minus (Variable (number_name 66))) operator.Minus (Operation (Operation (Variable (number_name 67)) operator.Times (Variable (number_name 68))) operator.Divided (Variable (number_name 69)))) ∷ [], [])
unfolding keywords signs letter_front digit_front quote_front sign_front front_of items_from tokens_from run
from_the_left = refl

not_and_relations : reading want.Either (codes "NOT A%=1% OR B%") ≡ Ok (Term (Operation (Not (Comparison (Variable (number_name 65)) relation.Equal (Literal 1))) operator.Or (Variable (number_name 66))) ∷ [], [])
unfolding keywords signs letter_front digit_front quote_front sign_front front_of items_from tokens_from run
not_and_relations = refl

texts_compared : reading want.Number (codes "A$+B$=C$") ≡ Ok (Term (Comparison (Operation (Variable (text_name 65)) operator.Plus (Variable (text_name 66))) relation.Equal (Variable (text_name 67))) ∷ [], [])
unfolding keywords signs letter_front digit_front quote_front sign_front front_of items_from tokens_from run
texts_compared = refl

a_text_ends_before_a_relation : reading want.Text (codes "A$=B$") ≡ Ok (Term (Variable (text_name 65)) ∷ [], words_in (tokens_of (codes "=B$")))
unfolding keywords signs letter_front digit_front quote_front sign_front front_of items_from tokens_from run
a_text_ends_before_a_relation = refl

a_function_of_three : reading want.Text (codes "MID(A$,2%,LEN(B$))") ≡ Ok (Term (FunctionOf function.Mid (AndTrees (Variable (text_name 65)) (AndTrees (Literal 2) (AndTrees (FunctionOf function.Len (AndTrees (Variable (text_name 66)) NoTrees)) NoTrees)))) ∷ [], [])
unfolding keywords signs letter_front digit_front quote_front sign_front front_of items_from tokens_from run
a_function_of_three = refl

calls : reading want.Either (codes "FNA%(1%,B$)+FNC%") ≡ Ok (Term (Operation (Call (number_name 65) (AndTrees (Literal 1) (AndTrees (Variable (text_name 66)) NoTrees))) operator.Plus (Call (number_name 67) NoTrees)) ∷ [], [])
unfolding keywords signs letter_front digit_front quote_front sign_front front_of items_from tokens_from run
calls = refl

a_sum_without_an_end : reading want.Either (codes "1%+") ≡ Err (Wrong [])
unfolding keywords signs letter_front digit_front quote_front sign_front front_of items_from tokens_from run
a_sum_without_an_end = refl

a_third_dimension : reading want.Either (codes "A%(1%,2%,3%)") ≡ Err (Wrong (words_in (tokens_of (codes ",3%)"))))
unfolding keywords signs letter_front digit_front quote_front sign_front front_of items_from tokens_from run
a_third_dimension = refl

a_number_of_a_text : reading want.Either (codes "LEN(5%)") ≡ Err (Wrong (words_in (tokens_of (codes "5%)"))))
unfolding keywords signs letter_front digit_front quote_front sign_front front_of items_from tokens_from run
a_number_of_a_text = refl

-- a string may begin a relation, so nothing is wrong before the end
a_text_alone : reading want.Number (codes "A$") ≡ Err (Wrong [])
unfolding keywords signs letter_front digit_front quote_front sign_front front_of items_from tokens_from run
a_text_alone = refl

a_subscript_that_is_a_text : reading want.Text (codes "C$(A$)") ≡ Err (Wrong (words_in (tokens_of (codes ")"))))
unfolding keywords signs letter_front digit_front quote_front sign_front front_of items_from tokens_from run
a_subscript_that_is_a_text = refl

not_behind_a_sum : reading want.Number (codes "1%+NOT 2%") ≡ Err (Wrong (words_in (tokens_of (codes "NOT 2%"))))
unfolding keywords signs letter_front digit_front quote_front sign_front front_of items_from tokens_from run
not_behind_a_sum = refl

no_arguments : reading want.Either (codes "FNA%()") ≡ Err (Wrong (words_in (tokens_of (codes ")"))))
unfolding keywords signs letter_front digit_front quote_front sign_front front_of items_from tokens_from run
no_arguments = refl

an_argument_too_few : reading want.Either (codes "LEFT(A$)") ≡ Err (Wrong (words_in (tokens_of (codes ")"))))
unfolding keywords signs letter_front digit_front quote_front sign_front front_of items_from tokens_from run
an_argument_too_few = refl

an_argument_too_many : reading want.Either (codes "LEN(A$,1%)") ≡ Err (Wrong (words_in (tokens_of (codes ",1%)"))))
unfolding keywords signs letter_front digit_front quote_front sign_front front_of items_from tokens_from run
an_argument_too_many = refl

a_sign_before_not : reading want.Either (codes "-NOT 2%") ≡ Err (Wrong (words_in (tokens_of (codes "NOT 2%"))))
unfolding keywords signs letter_front digit_front quote_front sign_front front_of items_from tokens_from run
a_sign_before_not = refl

a_sum_of_both_kinds : reading want.Either (codes "1%+A$") ≡ Err (Wrong (words_in (tokens_of (codes "A$"))))
unfolding keywords signs letter_front digit_front quote_front sign_front front_of items_from tokens_from run
a_sum_of_both_kinds = refl

-- ---- nesting

abbrev in_parentheses : ℕ → List Word → List Word
in_parentheses zero rest = rest
in_parentheses (suc n) rest = Punctuation sign.Opening ∷ in_parentheses n rest

-- the 65th parenthesis is rejected
sixty_five_parentheses : run most_levels (in_parentheses 65 (Number 1 ∷ [])) (Level loosest want.Number ∷ []) [] ≡ Err (TooDeep (Punctuation sign.Opening ∷ Number 1 ∷ []))
unfolding run
sixty_five_parentheses = refl

-- within 64 parentheses LEN is taken, and its parenthesis is rejected
a_function_in_parentheses : run most_levels (in_parentheses 64 (Key keyword.Len ∷ Punctuation sign.Opening ∷ [])) (Level loosest want.Number ∷ []) [] ≡ Err (TooDeep (Punctuation sign.Opening ∷ []))
unfolding run
a_function_in_parentheses = refl

-- if another word follows LEN, that word is wrong
a_function_without_arguments : run most_levels (in_parentheses 64 (Key keyword.Len ∷ Number 1 ∷ [])) (Level loosest want.Number ∷ []) [] ≡ Err (Wrong (Number 1 ∷ []))
unfolding run
a_function_without_arguments = refl

-- Which trees are lines, and which are too deep, computed.
use Rattle.std.proofs.Common.{◌≡◌, ℕ, zero, suc, true, false, [], ◌∷◌, Some, None, refl, arith}
use Rattle.basic_tree.specs.declared.names.Name.{Name}
use Rattle.basic_tree.specs.declared.expressions.Operator.TheVariants as operator
use Rattle.basic_tree.specs.declared.expressions.Relation.TheVariants as relation
use Rattle.basic_tree.specs.declared.expressions.Function.TheVariants as function
use Rattle.basic_tree.specs.SpellingWords.{words, too_deep}
use Rattle.basic_tree.specs.Trees.{Tree, Literal, Quoted, Variable, Element, FunctionOf, Parenthesized, Negative, Not, Operation, Comparison, NoTrees, AndTrees, Value, If, LineClause, StatementClause, NoElse, Else, StatementTree, IfThen, Modified, Data, Print, Stop, Chain, LineTree}
use Rattle.basic_tree.specs.SpellingExpressions.{steps_of, IsTree}
use Rattle.basic_tree.specs.ReadableWords.{AreReadable}
use Rattle.basic_tree.specs.SpellingStatements.{line_steps, IsAdmissible}

abbrev alone : StatementTree → LineTree
alone s = record { first = Some s; others = [] }

abbrev number_name : ℕ → Name
number_name letter = record { letter = letter; digit = None; text = false }

abbrev text_name : ℕ → Name
text_name letter = record { letter = letter; digit = None; text = true }

-- ---- lines, and what is not a line

a_sum : IsAdmissible (alone (Print None [] (Some (Value (Operation (Literal 2) operator.Plus (Literal 3))))))
a_sum = grind arith

else_of_the_nearest_if : IsAdmissible (alone (IfThen (Variable (number_name 65)) (StatementClause (IfThen (Variable (number_name 66)) (LineClause 10) (Else (LineClause 20)))) NoElse))
else_of_the_nearest_if = grind arith

else_of_the_outer_if : IsAdmissible (alone (IfThen (Variable (number_name 65)) (StatementClause (IfThen (Variable (number_name 66)) (LineClause 10) NoElse)) (Else (LineClause 20)))) → ⊥
else_of_the_outer_if = grind arith

a_line_behind_a_text : IsAdmissible (alone (Chain (Element (text_name 65) (AndTrees (Literal 5) NoTrees)) (Some (record { word = false; number = Parenthesized (Literal 6) }))))
a_line_behind_a_text = grind arith

a_line_behind_a_name : IsAdmissible (alone (Chain (Variable (text_name 65)) (Some (record { word = false; number = Parenthesized (Literal 5) })))) → ⊥
a_line_behind_a_name = grind arith

a_line_with_a_sign : IsAdmissible (alone (Chain (Variable (text_name 65)) (Some (record { word = false; number = Negative (Literal 5) })))) → ⊥
a_line_with_a_sign = grind arith

a_line_with_a_sign_behind_the_word : IsAdmissible (alone (Chain (Variable (text_name 65)) (Some (record { word = true; number = Negative (Literal 5) }))))
a_line_with_a_sign_behind_the_word = grind arith

-- ---- what bytes can spell

a_readable_sum : AreReadable (words (line_steps (alone (Print None [] (Some (Value (Operation (Variable (number_name 65)) operator.Plus (Literal 3))))))))
a_readable_sum = grind arith

items_behind_data : AreReadable (words (line_steps (alone (Data ((49 ∷ []) ∷ (50 ∷ []) ∷ [])))))
items_behind_data = grind arith

a_statement_behind_data : AreReadable (words (line_steps (record { first = Some (Data ((49 ∷ []) ∷ [])); others = Some Stop ∷ [] }))) → ⊥
a_statement_behind_data = grind arith

-- ---- precedence of operators

powers_from_the_left : IsTree (Operation (Operation (Variable (number_name 65)) operator.Power (Variable (number_name 66))) operator.Power (Variable (number_name 67)))
powers_from_the_left = grind arith

powers_from_the_right : IsTree (Operation (Variable (number_name 65)) operator.Power (Operation (Variable (number_name 66)) operator.Power (Variable (number_name 67)))) → ⊥
powers_from_the_right = grind arith

a_sign_behind_a_power : IsTree (Operation (Operation (Variable (number_name 65)) operator.Power (Negative (Variable (number_name 66)))) operator.Power (Variable (number_name 67)))
a_sign_behind_a_power = grind arith

a_sum_of_a_relation : IsTree (Operation (Variable (number_name 65)) operator.Plus (Comparison (Variable (number_name 66)) relation.Equal (Variable (number_name 67)))) → ⊥
a_sum_of_a_relation = grind arith

not_behind_a_sum : IsTree (Operation (Variable (number_name 65)) operator.Plus (Not (Variable (number_name 66)))) → ⊥
not_behind_a_sum = grind arith

a_third_dimension : IsTree (Element (number_name 65) (AndTrees (Literal 1) (AndTrees (Literal 2) (AndTrees (Literal 3) NoTrees)))) → ⊥
a_third_dimension = grind arith

-- ---- nesting

abbrev in_parentheses : ℕ → Tree → Tree
in_parentheses zero t = t
in_parentheses (suc n) t = Parenthesized (in_parentheses n t)

abbrev in_ifs : ℕ → StatementTree → StatementTree
in_ifs zero s = s
in_ifs (suc n) s = IfThen (Literal 1) (StatementClause (in_ifs n s)) NoElse

abbrev with_modifiers : ℕ → StatementTree → StatementTree
with_modifiers zero s = s
with_modifiers (suc n) s = Modified (with_modifiers n s) (If (Literal 1))

sixty_four_parentheses : too_deep (steps_of (in_parentheses 64 (Literal 1))) ≡ None
sixty_four_parentheses = refl

sixty_five_parentheses : too_deep (steps_of (in_parentheses 65 (Literal 1))) ≡ Some 64
sixty_five_parentheses = refl

-- the word NOT after 64 parentheses opens the nesting level
not_in_parentheses : too_deep (steps_of (in_parentheses 64 (Not (Literal 1)))) ≡ Some 64
not_in_parentheses = refl

-- LEN is in nesting level 64, and its parenthesis opens the next
a_function_in_parentheses : too_deep (steps_of (in_parentheses 64 (FunctionOf function.Len (AndTrees (Quoted []) NoTrees)))) ≡ Some 65
a_function_in_parentheses = refl

-- IF, a number and THEN: the 65th THEN is the word at 194
sixty_five_ifs : too_deep (line_steps (alone (in_ifs 65 Stop))) ≡ Some 194
sixty_five_ifs = refl

sixty_four_ifs : too_deep (line_steps (alone (in_ifs 64 Stop))) ≡ None
sixty_four_ifs = refl

-- STOP, and IF and a number for each: the 65th IF is the word at 129
sixty_five_modifiers : too_deep (line_steps (alone (with_modifiers 65 Stop))) ≡ Some 129
sixty_five_modifiers = refl

sixty_four_modifiers : too_deep (line_steps (alone (with_modifiers 64 Stop))) ≡ None
sixty_four_modifiers = refl

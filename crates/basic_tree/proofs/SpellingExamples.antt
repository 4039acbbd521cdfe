-- Lines and what spells them, computed: the words of the bytes are those of the tree.
use Rattle.std.proofs.Common.{◌≡◌, ℕ, true, false, List, [], ◌∷◌, Some, None, Ok, Err, refl}
use Rattle.std.specs.Prelude.{codes}
use Rattle.basic_tree.specs.declared.names.Name.{Name}
use Rattle.basic_tree.specs.declared.expressions.Operator.TheVariants as operator
use Rattle.basic_tree.specs.declared.expressions.Relation.TheVariants as relation
use Rattle.basic_tree.specs.declared.expressions.Function.TheVariants as function
use Rattle.basic_tree.specs.declared.parts.Separator.TheVariants as separator
use Rattle.basic_tree.specs.declared.parts.OpenFor.TheVariants as purpose
use Rattle.basic_tree.specs.Words.{keywords, signs}
use Rattle.basic_tree.specs.Tokens.{Reading, letter_front, digit_front, quote_front, sign_front, front_of, items_from, tokens_from, tokens_of}
use Rattle.basic_tree.specs.SpellingWords.{Word, words_of, words}
use Rattle.basic_tree.specs.Trees.{Literal, Quoted, Variable, Element, FunctionOf, Call, Parenthesized, Negative, Not, Operation, Comparison, NoTrees, AndTrees, Value, Tab, If, ForModifier, LineClause, StatementClause, NoElse, Else, StatementTree, IfThen, Modified, For, Data, DimFile, Def, Let, Result as ResultOf, Print, Input, Goto, Gosub, OnErrorGoto, Stop, Chain, Open, Field, Zero, Product, Scaled, Transposed, PrintUsing, MatRead, MatPrint, MatLet}
use Rattle.basic_tree.specs.SpellingStatements.{line_steps}

-- the words of a line's bytes; none if the line is rejected
abbrev words_in : Reading → List Word
words_in (Ok tokens) = words_of tokens
words_in (Err refusal) = []

-- the words of a line of one statement
abbrev alone : StatementTree → List Word
alone s = words (line_steps (record { first = Some s; others = [] }))

abbrev number_name : ℕ → Name
number_name letter = record { letter = letter; digit = None; text = false }

abbrev text_name : ℕ → Name
text_name letter = record { letter = letter; digit = None; text = true }

prints_a_sum : words_in (tokens_of (codes "PRINT 2%+3%")) ≡ alone (Print None [] (Some (Value (Operation (Literal 2) operator.Plus (Literal 3)))))
unfolding keywords signs letter_front digit_front quote_front sign_front front_of items_from tokens_from
prints_a_sum = refl

counts_without_blanks : words_in (tokens_of (codes "FORI%=1TO3")) ≡ alone (For (number_name 73) (Literal 1) (Literal 3) None)
unfolding keywords signs letter_front digit_front quote_front sign_front front_of items_from tokens_from
counts_without_blanks = refl

-- the rightmost modifier is outermost
modifiers_from_the_right : words_in (tokens_of (codes "PRINT I%; FOR I%=1% TO 3% IF I%=0%")) ≡ alone (Modified (Modified (Print None (record { printed = Value (Variable (number_name 73)); separator = separator.Semicolon } ∷ []) None) (ForModifier (number_name 73) (Literal 1) (Literal 3) None)) (If (Comparison (Variable (number_name 73)) relation.Equal (Literal 0))))
unfolding keywords signs letter_front digit_front quote_front sign_front front_of items_from tokens_from
modifiers_from_the_right = refl

-- ELSE is that of the nearest IF
chooses_the_nearest_if : words_in (tokens_of (codes "IF A% THEN IF B% THEN 10 ELSE 20")) ≡ alone (IfThen (Variable (number_name 65)) (StatementClause (IfThen (Variable (number_name 66)) (LineClause 10) (Else (LineClause 20)))) NoElse)
unfolding keywords signs letter_front digit_front quote_front sign_front front_of items_from tokens_from
chooses_the_nearest_if = refl

answers_a_call : words_in (tokens_of (codes "IF N%<2% THEN FNF%=1% ELSE FNF%=N%*FNF%(N%-1%)")) ≡ alone (IfThen (Comparison (Variable (number_name 78)) relation.Less (Literal 2)) (StatementClause (ResultOf (number_name 70) (Literal 1))) (Else (StatementClause (ResultOf (number_name 70) (Operation (Variable (number_name 78)) operator.Times (Call (number_name 70) (AndTrees (Operation (Variable (number_name 78)) operator.Minus (Literal 1)) NoTrees)))))))
unfolding keywords signs letter_front digit_front quote_front sign_front front_of items_from tokens_from
answers_a_call = refl

compares_texts : words_in (tokens_of (80 ∷ 82 ∷ 73 ∷ 78 ∷ 84 ∷ 32 ∷ 34 ∷ 65 ∷ 66 ∷ 34 ∷ 61 ∷ 34 ∷ 65 ∷ 66 ∷ 32 ∷ 32 ∷ 34 ∷ 59 ∷ 32 ∷ 34 ∷ 65 ∷ 66 ∷ 34 ∷ 61 ∷ 61 ∷ 39 ∷ 65 ∷ 66 ∷ 39 ∷ [])) ≡ alone (Print None (record { printed = Value (Comparison (Quoted (codes "AB")) relation.Equal (Quoted (codes "AB  "))); separator = separator.Semicolon } ∷ []) (Some (Value (Comparison (Quoted (codes "AB")) relation.Same (Quoted (codes "AB"))))))
unfolding keywords signs letter_front digit_front quote_front sign_front front_of items_from tokens_from
compares_texts = refl

fields_a_buffer : words_in (tokens_of (codes "FIELD #1%,4% AS B$,6% AS C$")) ≡ alone (Field (Literal 1) (record { width = Literal 4; name = (text_name 66) } ∷ record { width = Literal 6; name = (text_name 67) } ∷ []))
unfolding keywords signs letter_front digit_front quote_front sign_front front_of items_from tokens_from
fields_a_buffer = refl

shapes_a_file : words_in (tokens_of (codes "DIM #1%, S$(3%)=512%")) ≡ alone (DimFile 1 (record { shape = record { name = (text_name 83); first = 3; second = None }; size = Some 512 } ∷ []))
unfolding keywords signs letter_front digit_front quote_front sign_front front_of items_from tokens_from
shapes_a_file = refl

-- two statements, and CHAIN of a program without a line
sends_and_chains : words_in (tokens_of (88 ∷ 36 ∷ 61 ∷ 83 ∷ 89 ∷ 83 ∷ 40 ∷ 67 ∷ 72 ∷ 82 ∷ 36 ∷ 40 ∷ 56 ∷ 37 ∷ 41 ∷ 43 ∷ 34 ∷ 72 ∷ 73 ∷ 34 ∷ 41 ∷ 32 ∷ 58 ∷ 32 ∷ 67 ∷ 72 ∷ 65 ∷ 73 ∷ 78 ∷ 32 ∷ 34 ∷ 66 ∷ 34 ∷ [])) ≡ words (line_steps (record { first = Some (Let false ((Variable (text_name 88)) ∷ []) (FunctionOf function.Sys (AndTrees (Operation (FunctionOf function.Chr (AndTrees (Literal 8) NoTrees)) operator.Plus (Quoted (codes "HI"))) NoTrees))); others = Some (Chain (Quoted (codes "B")) None) ∷ [] }))
unfolding keywords signs letter_front digit_front quote_front sign_front front_of items_from tokens_from
sends_and_chains = refl

-- the parenthesis after a name opens its subscripts
takes_an_element : words_in (tokens_of (codes "CHAIN A$ (5)")) ≡ alone (Chain (Element (text_name 65) (AndTrees (Literal 5) NoTrees)) None)
unfolding keywords signs letter_front digit_front quote_front sign_front front_of items_from tokens_from
takes_an_element = refl

-- the parenthesis after an element begins the number
takes_a_line : words_in (tokens_of (codes "CHAIN A$(5) (6)")) ≡ alone (Chain (Element (text_name 65) (AndTrees (Literal 5) NoTrees)) (Some (record { word = false; number = Parenthesized (Literal 6) })))
unfolding keywords signs letter_front digit_front quote_front sign_front front_of items_from tokens_from
takes_a_line = refl

opens_a_file : words_in (tokens_of (79 ∷ 80 ∷ 69 ∷ 78 ∷ 32 ∷ 34 ∷ 65 ∷ 34 ∷ 32 ∷ 70 ∷ 79 ∷ 82 ∷ 32 ∷ 73 ∷ 78 ∷ 80 ∷ 85 ∷ 84 ∷ 32 ∷ 65 ∷ 83 ∷ 32 ∷ 70 ∷ 73 ∷ 76 ∷ 69 ∷ 32 ∷ 35 ∷ 49 ∷ 37 ∷ 44 ∷ 32 ∷ 82 ∷ 69 ∷ 67 ∷ 79 ∷ 82 ∷ 68 ∷ 83 ∷ 73 ∷ 90 ∷ 69 ∷ 32 ∷ 53 ∷ 49 ∷ 50 ∷ 37 ∷ 44 ∷ 32 ∷ 77 ∷ 79 ∷ 68 ∷ 69 ∷ 32 ∷ 49 ∷ 37 ∷ [])) ≡ alone (Open (Quoted (codes "A")) purpose.Input true (Literal 1) (Some (Literal 512)) None (Some (Literal 1)))
unfolding keywords signs letter_front digit_front quote_front sign_front front_of items_from tokens_from
opens_a_file = refl

-- a sign after `^` belongs to the atom after it
powers_and_signs : words_in (tokens_of (codes "PRINT -A%**-B%^C%")) ≡ alone (Print None [] (Some (Value (Negative (Operation (Operation (Variable (number_name 65)) operator.Power (Negative (Variable (number_name 66)))) operator.Power (Variable (number_name 67)))))))
unfolding keywords signs letter_front digit_front quote_front sign_front front_of items_from tokens_from
powers_and_signs = refl

not_and_relations : words_in (tokens_of (codes "PRINT NOT A%=1% OR B%")) ≡ alone (Print None [] (Some (Value (Operation (Not (Comparison (Variable (number_name 65)) relation.Equal (Literal 1))) operator.Or (Variable (number_name 66))))))
unfolding keywords signs letter_front digit_front quote_front sign_front front_of items_from tokens_from
not_and_relations = refl

goes_in_two_words : words_in (tokens_of (79 ∷ 78 ∷ 32 ∷ 69 ∷ 82 ∷ 82 ∷ 79 ∷ 82 ∷ 32 ∷ 71 ∷ 79 ∷ 84 ∷ 79 ∷ 32 ∷ 48 ∷ 58 ∷ 32 ∷ 71 ∷ 79 ∷ 32 ∷ 84 ∷ 79 ∷ 32 ∷ 49 ∷ 48 ∷ 48 ∷ 32 ∷ 92 ∷ 32 ∷ 103 ∷ 111 ∷ 115 ∷ 117 ∷ 98 ∷ 32 ∷ 55 ∷ [])) ≡ words (line_steps (record { first = Some (OnErrorGoto (Some 0)); others = Some (Goto true 100) ∷ Some (Gosub false 7) ∷ [] }))
unfolding keywords signs letter_front digit_front quote_front sign_front front_of items_from tokens_from
goes_in_two_words = refl

defines_a_function : words_in (tokens_of (codes "DEF FNA1$(X%,Y$)=Y$")) ≡ alone (Def (record { letter = 65; digit = Some 49; text = true }) ((number_name 88) ∷ (text_name 89) ∷ []) (Some (Variable (text_name 89))))
unfolding keywords signs letter_front digit_front quote_front sign_front front_of items_from tokens_from
defines_a_function = refl

asks_with_a_prompt : words_in (tokens_of (73 ∷ 78 ∷ 80 ∷ 85 ∷ 84 ∷ 32 ∷ 34 ∷ 78 ∷ 34 ∷ 59 ∷ 78 ∷ 37 ∷ 44 ∷ 32 ∷ 65 ∷ 36 ∷ 40 ∷ 49 ∷ 37 ∷ 44 ∷ 50 ∷ 37 ∷ 41 ∷ [])) ≡ alone (Input None (Some (record { text = codes "N"; separator = separator.Semicolon })) ((Variable (number_name 78)) ∷ Element (text_name 65) (AndTrees (Literal 1) (AndTrees (Literal 2) NoTrees)) ∷ []))
unfolding keywords signs letter_front digit_front quote_front sign_front front_of items_from tokens_from
asks_with_a_prompt = refl

prints_on_a_channel : words_in (tokens_of (codes "PRINT #1%,TAB(5%);ERL,")) ≡ alone (Print (Some (record { number = Literal 1; comma = true })) (record { printed = Tab (Literal 5); separator = separator.Semicolon } ∷ record { printed = Value (FunctionOf function.Erl NoTrees); separator = separator.Comma } ∷ []) None)
unfolding keywords signs letter_front digit_front quote_front sign_front front_of items_from tokens_from
prints_on_a_channel = refl

keeps_items : words_in (tokens_of (68 ∷ 65 ∷ 84 ∷ 65 ∷ 32 ∷ 49 ∷ 44 ∷ 32 ∷ 34 ∷ 97 ∷ 44 ∷ 98 ∷ 34 ∷ [])) ≡ alone (Data (codes " 1" ∷ (32 ∷ 34 ∷ 97 ∷ 44 ∷ 98 ∷ 34 ∷ []) ∷ []))
unfolding keywords signs letter_front digit_front quote_front sign_front front_of items_from tokens_from
keeps_items = refl

nothing_between_separators : words_in (tokens_of (codes "::STOP")) ≡ words (line_steps (record { first = None; others = None ∷ Some Stop ∷ [] }))
unfolding keywords signs letter_front digit_front quote_front sign_front front_of items_from tokens_from
nothing_between_separators = refl

an_empty_line : words_in (tokens_of (codes "")) ≡ words (line_steps (record { first = None; others = [] }))
unfolding keywords signs letter_front digit_front quote_front sign_front front_of items_from tokens_from
an_empty_line = refl

prints_by_a_format : words_in (tokens_of (codes "PRINT USING '##',1%;2%,A$;")) ≡ alone (PrintUsing None (Quoted (codes "##")) (record { value = Literal 1; separator = separator.Semicolon } ∷ record { value = Literal 2; separator = separator.Comma } ∷ record { value = Variable (text_name 65); separator = separator.Semicolon } ∷ []) None)
unfolding keywords signs letter_front digit_front quote_front sign_front front_of items_from tokens_from
prints_by_a_format = refl

prints_by_a_format_on_a_channel : words_in (tokens_of (codes "PRINT #1%,USING F$,B%")) ≡ alone (PrintUsing (Some (Literal 1)) (Variable (text_name 70)) [] (Some (Variable (number_name 66))))
unfolding keywords signs letter_front digit_front quote_front sign_front front_of items_from tokens_from
prints_by_a_format_on_a_channel = refl

reads_matrices : words_in (tokens_of (codes "MAT READ A%,B%")) ≡ alone (MatRead (number_name 65 ∷ number_name 66 ∷ []))
unfolding keywords signs letter_front digit_front quote_front sign_front front_of items_from tokens_from
reads_matrices = refl

prints_a_matrix : words_in (tokens_of (codes "MAT PRINT A%;")) ≡ alone (MatPrint (number_name 65) (Some separator.Semicolon))
unfolding keywords signs letter_front digit_front quote_front sign_front front_of items_from tokens_from
prints_a_matrix = refl

makes_zeros_without_blanks : words_in (tokens_of (codes "MATA%=ZER")) ≡ alone (MatLet (number_name 65) Zero)
unfolding keywords signs letter_front digit_front quote_front sign_front front_of items_from tokens_from
makes_zeros_without_blanks = refl

multiplies_matrices : words_in (tokens_of (codes "MAT A%=B%*C%")) ≡ alone (MatLet (number_name 65) (Product (number_name 66) (number_name 67)))
unfolding keywords signs letter_front digit_front quote_front sign_front front_of items_from tokens_from
multiplies_matrices = refl

scales_a_matrix : words_in (tokens_of (codes "MAT A%=(2%)*B%")) ≡ alone (MatLet (number_name 65) (Scaled (Literal 2) (number_name 66)))
unfolding keywords signs letter_front digit_front quote_front sign_front front_of items_from tokens_from
scales_a_matrix = refl

transposes_in_small_letters : words_in (tokens_of (codes "mat a%=trn(b%)")) ≡ alone (MatLet (number_name 65) (Transposed (number_name 66)))
unfolding keywords signs letter_front digit_front quote_front sign_front front_of items_from tokens_from
transposes_in_small_letters = refl

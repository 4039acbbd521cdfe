-- The tables of the grammar: operators with their precedence, relations, and functions with their
-- arguments.
use Rattle.std.specs.Prelude.{ℕ, Bool, true, false, List, [], ◌∷◌}
use Rattle.basic_tree.specs.declared.tokens.Keyword.{Keyword}
use Rattle.basic_tree.specs.declared.tokens.Keyword.TheVariants as keyword
use Rattle.basic_tree.specs.declared.tokens.Sign.{Sign}
use Rattle.basic_tree.specs.declared.tokens.Sign.TheVariants as sign
use Rattle.basic_tree.specs.declared.expressions.Operator.{Operator}
use Rattle.basic_tree.specs.declared.expressions.Operator.TheVariants as operator
use Rattle.basic_tree.specs.declared.expressions.Relation.{Relation}
use Rattle.basic_tree.specs.declared.expressions.Relation.TheVariants as relation
use Rattle.basic_tree.specs.declared.expressions.Function.{Function}
use Rattle.basic_tree.specs.declared.expressions.Function.TheVariants as function
use Rattle.basic_tree.specs.declared.kinds.Want.{Want}
use Rattle.basic_tree.specs.declared.kinds.Want.TheVariants as want
use Rattle.basic_tree.specs.SpellingWords.{Word, Key, Punctuation}

-- ---- precedence: a higher precedence level binds less tightly; atoms have precedence level 0

abbrev pub sign_level : ℕ
sign_level = 2

abbrev pub relation_level : ℕ
relation_level = 5

abbrev pub not_level : ℕ
not_level = 6

abbrev pub operator_level : Operator → ℕ
operator_level operator.Power = 1
operator_level operator.Times = 3
operator_level operator.Divided = 3
operator_level operator.Plus = 4
operator_level operator.Minus = 4
operator_level operator.And = 7
operator_level operator.Or = 8
operator_level operator.Xor = 9
operator_level operator.Imp = 10
operator_level operator.Eqv = 11

abbrev pub operator_word : Operator → Word
operator_word operator.Power = Punctuation sign.Caret
operator_word operator.Times = Punctuation sign.Star
operator_word operator.Divided = Punctuation sign.Slash
operator_word operator.Plus = Punctuation sign.Plus
operator_word operator.Minus = Punctuation sign.Minus
operator_word operator.And = Key keyword.And
operator_word operator.Or = Key keyword.Or
operator_word operator.Xor = Key keyword.Xor
operator_word operator.Imp = Key keyword.Imp
operator_word operator.Eqv = Key keyword.Eqv

-- whether an operator is allowed between two strings; all are allowed between two numbers
abbrev pub joins_texts : Operator → Bool
joins_texts operator.Plus = true
joins_texts other = false

abbrev pub relation_sign : Relation → Sign
relation_sign relation.Equal = sign.Equal
relation_sign relation.Same = sign.Same
relation_sign relation.Less = sign.Less
relation_sign relation.Greater = sign.Greater
relation_sign relation.LessOrEqual = sign.LessOrEqual
relation_sign relation.GreaterOrEqual = sign.GreaterOrEqual
relation_sign relation.Different = sign.Different

-- ---- the functions of the language

abbrev pub function_keyword : Function → Keyword
function_keyword function.Len = keyword.Len
function_keyword function.Ascii = keyword.Ascii
function_keyword function.Left = keyword.Left
function_keyword function.Right = keyword.Right
function_keyword function.Mid = keyword.Mid
function_keyword function.Instr = keyword.Instr
function_keyword function.Chr = keyword.Chr
function_keyword function.Space = keyword.Space
function_keyword function.StringOf = keyword.StringOf
function_keyword function.Num1 = keyword.Num1
function_keyword function.Num = keyword.Num
function_keyword function.Val = keyword.Val
function_keyword function.CvtToText = keyword.CvtToText
function_keyword function.CvtToNumber = keyword.CvtToNumber
function_keyword function.Swap = keyword.Swap
function_keyword function.Abs = keyword.Abs
function_keyword function.Sgn = keyword.Sgn
function_keyword function.Xlate = keyword.Xlate
function_keyword function.Pos = keyword.Pos
function_keyword function.Err = keyword.Err
function_keyword function.Erl = keyword.Erl
function_keyword function.Recount = keyword.Recount
function_keyword function.Sys = keyword.Sys

abbrev pub arguments_of : Function → List Want
arguments_of function.Len = want.Text ∷ []
arguments_of function.Ascii = want.Text ∷ []
arguments_of function.Left = want.Text ∷ want.Number ∷ []
arguments_of function.Right = want.Text ∷ want.Number ∷ []
arguments_of function.Mid = want.Text ∷ want.Number ∷ want.Number ∷ []
arguments_of function.Instr = want.Number ∷ want.Text ∷ want.Text ∷ []
arguments_of function.Chr = want.Number ∷ []
arguments_of function.Space = want.Number ∷ []
arguments_of function.StringOf = want.Number ∷ want.Number ∷ []
arguments_of function.Num1 = want.Number ∷ []
arguments_of function.Num = want.Number ∷ []
arguments_of function.Val = want.Text ∷ []
arguments_of function.CvtToText = want.Number ∷ []
arguments_of function.CvtToNumber = want.Text ∷ []
arguments_of function.Swap = want.Number ∷ []
arguments_of function.Abs = want.Number ∷ []
arguments_of function.Sgn = want.Number ∷ []
arguments_of function.Xlate = want.Text ∷ want.Text ∷ []
arguments_of function.Pos = want.Number ∷ []
arguments_of function.Err = []
arguments_of function.Erl = []
arguments_of function.Recount = []
arguments_of function.Sys = want.Text ∷ []

-- whether a function gives a string
abbrev pub gives_text : Function → Bool
gives_text function.Left = true
gives_text function.Right = true
gives_text function.Mid = true
gives_text function.Chr = true
gives_text function.Space = true
gives_text function.StringOf = true
gives_text function.Num1 = true
gives_text function.Num = true
gives_text function.CvtToText = true
gives_text function.Xlate = true
gives_text function.Sys = true
gives_text other = false

-- Which operator, relation or function a word is.
use denote.Enum.Bare.{sameb}
use Rattle.std.specs.Prelude.{Bool, Option, Some, None}
use Rattle.basic_tree.specs.declared.tokens.Keyword.{Keyword}
use Rattle.basic_tree.specs.declared.tokens.Keyword.TheVariants as keyword
use Rattle.basic_tree.specs.declared.tokens.Sign.{Sign}
use Rattle.basic_tree.specs.declared.tokens.Sign.TheVariants as sign
use Rattle.basic_tree.specs.declared.expressions.Operator.{Operator}
use Rattle.basic_tree.specs.declared.expressions.Operator.TheVariants as operator
use Rattle.basic_tree.specs.declared.expressions.Relation.{Relation}
use Rattle.basic_tree.specs.declared.expressions.Relation.TheVariants as relation
use Rattle.basic_tree.specs.declared.expressions.Function.{Function}
use Rattle.basic_tree.specs.declared.expressions.Function.TheVariants as function
use Rattle.basic_tree.specs.contracts.tokens.Keyword.{the_type as the_keywords}
use Rattle.basic_tree.specs.contracts.tokens.Sign.{the_type as the_signs}
use Rattle.basic_tree.specs.SpellingWords.{Word, Key, Punctuation}

abbrev pub sign_operator : Sign → Option Operator
sign_operator sign.Caret = Some operator.Power
sign_operator sign.Star = Some operator.Times
sign_operator sign.Slash = Some operator.Divided
sign_operator sign.Plus = Some operator.Plus
sign_operator sign.Minus = Some operator.Minus
sign_operator other = None

abbrev pub key_operator : Keyword → Option Operator
key_operator keyword.And = Some operator.And
key_operator keyword.Or = Some operator.Or
key_operator keyword.Xor = Some operator.Xor
key_operator keyword.Imp = Some operator.Imp
key_operator keyword.Eqv = Some operator.Eqv
key_operator other = None

abbrev pub operator_of : Word → Option Operator
operator_of (Punctuation s) = sign_operator s
operator_of (Key k) = key_operator k
operator_of other = None

abbrev pub sign_relation : Sign → Option Relation
sign_relation sign.Equal = Some relation.Equal
sign_relation sign.Same = Some relation.Same
sign_relation sign.Less = Some relation.Less
sign_relation sign.Greater = Some relation.Greater
sign_relation sign.LessOrEqual = Some relation.LessOrEqual
sign_relation sign.GreaterOrEqual = Some relation.GreaterOrEqual
sign_relation sign.Different = Some relation.Different
sign_relation other = None

abbrev pub relation_of : Word → Option Relation
relation_of (Punctuation s) = sign_relation s
relation_of other = None

abbrev pub function_of : Keyword → Option Function
function_of keyword.Len = Some function.Len
function_of keyword.Ascii = Some function.Ascii
function_of keyword.Left = Some function.Left
function_of keyword.Right = Some function.Right
function_of keyword.Mid = Some function.Mid
function_of keyword.Instr = Some function.Instr
function_of keyword.Chr = Some function.Chr
function_of keyword.Space = Some function.Space
function_of keyword.StringOf = Some function.StringOf
function_of keyword.Num1 = Some function.Num1
function_of keyword.Num = Some function.Num
function_of keyword.Val = Some function.Val
function_of keyword.CvtToText = Some function.CvtToText
function_of keyword.CvtToNumber = Some function.CvtToNumber
function_of keyword.Swap = Some function.Swap
function_of keyword.Abs = Some function.Abs
function_of keyword.Sgn = Some function.Sgn
function_of keyword.Xlate = Some function.Xlate
function_of keyword.Pos = Some function.Pos
function_of keyword.Err = Some function.Err
function_of keyword.Erl = Some function.Erl
function_of keyword.Recount = Some function.Recount
function_of keyword.Sys = Some function.Sys
function_of other = None

-- two signs, or two keywords, are the same: the derived `==`
abbrev pub is_same_sign : Sign → Sign → Bool
is_same_sign s t = sameb the_signs s t

abbrev pub is_same_keyword : Keyword → Keyword → Bool
is_same_keyword k l = sameb the_keywords k l

-- Which trees are expressions, and the words that spell each.
use Rattle.std.specs.Prelude.{◌≡◌, ℕ, ◌<◌, ◌≤◌, Bool, true, false, not, ◌||◌, List, [], ◌∷◌, ◌++◌}
use Rattle.basic_values.specs.declared.limits.TheConstants.{MOST_NUMBER}
use Rattle.basic_tree.specs.declared.tokens.Keyword.TheVariants as keyword
use Rattle.basic_tree.specs.declared.tokens.Sign.{Sign}
use Rattle.basic_tree.specs.declared.tokens.Sign.TheVariants as sign
use Rattle.basic_tree.specs.declared.expressions.Operator.{Operator}
use Rattle.basic_tree.specs.declared.expressions.Operator.TheVariants as operator
use Rattle.basic_tree.specs.declared.kinds.Want.{Want}
use Rattle.basic_tree.specs.declared.kinds.Want.TheVariants as want
use Rattle.basic_tree.specs.SpellingWords.{Word, Key, Punctuation, Named, FnNamed, Number, Quotation, LevelStep, Plain, Opens, Closes, words}
use Rattle.basic_tree.specs.Trees.{Tree, Literal, Quoted, Variable, Element, FunctionOf, Call, Parenthesized, Negative, Positive, Not, Operation, Comparison, Trees, NoTrees, AndTrees}
use Rattle.basic_tree.specs.GrammarTables.{sign_level, relation_level, not_level, operator_level, operator_word, joins_texts, relation_sign, function_keyword, arguments_of, gives_text}

-- ---- spelling

abbrev pub mark : Sign → LevelStep
mark s = Plain (Punctuation s)

-- the words of an expression. All parentheses, signs and NOT open a level of nesting
abbrev mutual
  pub steps_of : Tree → List LevelStep
  steps_of (Literal n) = Plain (Number n) ∷ []
  steps_of (Quoted text) = Plain (Quotation text) ∷ []
  steps_of (Variable name) = Plain (Named name) ∷ []
  steps_of (Element name subscripts) = Plain (Named name) ∷ list_steps subscripts
  steps_of (FunctionOf f arguments) = Plain (Key (function_keyword f)) ∷ list_steps arguments
  steps_of (Call name arguments) = Plain (FnNamed name) ∷ list_steps arguments
  steps_of (Parenthesized a) = Opens (Punctuation sign.Opening) ∷ (steps_of a ++ mark sign.Closing ∷ Closes ∷ [])
  steps_of (Negative a) = Opens (Punctuation sign.Minus) ∷ (steps_of a ++ Closes ∷ [])
  steps_of (Positive a) = Opens (Punctuation sign.Plus) ∷ (steps_of a ++ Closes ∷ [])
  steps_of (Not a) = Opens (Key keyword.Not) ∷ (steps_of a ++ Closes ∷ [])
  steps_of (Operation a o b) = steps_of a ++ Plain (operator_word o) ∷ steps_of b
  steps_of (Comparison a r b) = steps_of a ++ mark (relation_sign r) ∷ steps_of b

  -- a list in parentheses; nothing if it is empty
  pub list_steps : Trees → List LevelStep
  list_steps NoTrees = []
  list_steps (AndTrees a more) = Opens (Punctuation sign.Opening) ∷ (steps_of a ++ more_steps more)

  pub more_steps : Trees → List LevelStep
  more_steps NoTrees = mark sign.Closing ∷ Closes ∷ []
  more_steps (AndTrees a more) = mark sign.Comma ∷ (steps_of a ++ more_steps more)

-- ---- kinds

-- whether an expression gives a string; if not, it gives a number
abbrev pub is_text : Tree → Bool
is_text (Quoted text) = true
is_text (Variable name) = name.text
is_text (Element name subscripts) = name.text
is_text (FunctionOf f arguments) = gives_text f
is_text (Call name arguments) = name.text
is_text (Parenthesized a) = is_text a
is_text (Operation a o b) = is_text a
is_text other = false

-- an expression is of the expected kind
abbrev pub Fits : Want → Tree → Type 0
Fits want.Number t = is_text t ≡ false
Fits want.Text t = is_text t ≡ true
Fits want.Either t = Unit {0}

-- what is expected: a string or a number
abbrev pub want_of : Bool → Want
want_of true = want.Text
want_of false = want.Number

-- ---- precedence

abbrev pub level_of : Tree → ℕ
level_of (Negative a) = sign_level
level_of (Positive a) = sign_level
level_of (Not a) = not_level
level_of (Operation a o b) = operator_level o
level_of (Comparison a r b) = relation_level
level_of atom = 0

-- what may follow `^`: signs and one atom
abbrev pub is_exponent : Tree → Bool
is_exponent (Negative a) = is_exponent a
is_exponent (Positive a) = is_exponent a
is_exponent (Not a) = false
is_exponent (Operation a o b) = false
is_exponent (Comparison a r b) = false
is_exponent atom = true

-- operators of one precedence level group from the left: the right operand binds more tightly
abbrev pub IsRight : Operator → Tree → Type 0
IsRight operator.Power b = is_exponent b ≡ true
IsRight o b = level_of b < operator_level o

-- ---- the trees that are expressions

-- there are as many arguments as expected, each of its kind
abbrev pub Fill : List Want → Trees → Type 0
Fill [] NoTrees = Unit {0}
Fill [] (AndTrees a more) = ⊥
Fill (w ∷ ws) NoTrees = ⊥
Fill (w ∷ ws) (AndTrees a more) = Fits w a × Fill ws more

-- one or two numbers: there is no third subscript
abbrev pub AreSubscripts : Trees → Type 0
AreSubscripts NoTrees = ⊥
AreSubscripts (AndTrees a NoTrees) = Fits want.Number a
AreSubscripts (AndTrees a (AndTrees b more)) = Fill (want.Number ∷ want.Number ∷ []) (AndTrees a (AndTrees b more))

abbrev mutual
  pub IsTree : Tree → Type 0
  IsTree (Literal n) = n ≤ MOST_NUMBER
  IsTree (Quoted text) = Unit {0}
  IsTree (Variable name) = Unit {0}
  IsTree (Element name subscripts) = AreTrees subscripts × AreSubscripts subscripts
  IsTree (FunctionOf f arguments) = AreTrees arguments × Fill (arguments_of f) arguments
  IsTree (Call name arguments) = AreTrees arguments
  IsTree (Parenthesized a) = IsTree a
  IsTree (Negative a) = IsTree a × (level_of a ≤ sign_level) × Fits want.Number a
  IsTree (Positive a) = IsTree a × (level_of a ≤ sign_level) × Fits want.Number a
  IsTree (Not a) = IsTree a × (level_of a ≤ not_level) × Fits want.Number a
  IsTree (Operation a o b) = IsTree a × IsTree b × (level_of a ≤ operator_level o) × IsRight o b × (is_text b ≡ is_text a) × ((not (is_text a) || joins_texts o) ≡ true)
  IsTree (Comparison a r b) = IsTree a × IsTree b × (level_of a ≤ relation_level) × (level_of b < relation_level) × (is_text b ≡ is_text a)

  pub AreTrees : Trees → Type 0
  AreTrees NoTrees = Unit {0}
  AreTrees (AndTrees a more) = IsTree a × AreTrees more

-- the words are those of an expression of the expected kind
pub record IsExpr (w : Want) (spelled : List Word) (t : Tree) : Type 0 where
  pub tree : IsTree t
  pub kind : Fits w t
  pub spelling : spelled ≡ words (steps_of t)

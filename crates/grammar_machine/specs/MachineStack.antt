-- What is still expected after the words so far, as a stack of symbols, and the trees made so far.
-- It serves proofs only.
use Rattle.std.specs.Prelude.{ℕ, ◌+◌, List, [], ◌∷◌, ◌++◌, ◌&&◌, nat_lt, Bool, Option, Some}
use Rattle.std.specs.Int.{is_power_of_two}
use Rattle.basic_values.specs.declared.limits.TheConstants.{MOST_NUMBER}
use Rattle.basic_tree.specs.declared.names.Name.{Name}
use Rattle.basic_tree.specs.declared.tokens.Keyword.{Keyword}
use Rattle.basic_tree.specs.declared.tokens.Sign.{Sign}
use Rattle.basic_tree.specs.declared.expressions.Operator.{Operator}
use Rattle.basic_tree.specs.declared.expressions.Relation.{Relation}
use Rattle.basic_tree.specs.declared.expressions.Function.{Function}
use Rattle.basic_tree.specs.declared.kinds.Want.{Want}
use Rattle.basic_tree.specs.declared.parts.Shape.{Shape}
use Rattle.basic_tree.specs.declared.parts.FileShape.{FileShape}
use Rattle.basic_tree.specs.SpellingWords.{Word}
use Rattle.basic_tree.specs.Trees.{Tree, Literal, Element, FunctionOf, Call, Parenthesized, Negative, Positive, Not, Operation, Comparison, Trees, NoTrees, AndTrees, ModifierTree, If, PrintItemTree, PrintChannelTree, UsingItemTree, CloseChannelTree, FieldPartTree, ClauseTree, StatementTree, Modified, End}

-- the lowest precedence, that of a whole expression
abbrev pub loosest : ℕ
loosest = 11

pub data Value : Type 0 where
  Term : Tree → Value
  -- the subscripts or arguments so far
  Several : Trees → Value
  Stated : StatementTree → Value
  Modifying : ModifierTree → Value
  -- the statements of a line so far
  Parsed : List (Option StatementTree) → Value

abbrev pub Values : Type 0
Values = List Value

-- ---- what statements expect

-- an element of a list that is separated by commas
pub data Item : Type 0 where
  TargetItem : Tree → Item
  ShapeItem : Shape → Item
  FileItem : FileShape → Item
  NameItem : Name → Item
  LineItem : ℕ → Item
  ChannelItem : CloseChannelTree → Item
  FieldItem : FieldPartTree → Item

-- which elements a list has
pub data Sequence : Type 0 where
  Targets : Want → Sequence
  Shapes : Sequence
  FileShapes : Sequence
  Parameters : Sequence
  Arrays : Sequence
  Lines : Sequence
  Channels : Sequence
  FieldParts : Sequence

-- which literals are allowed: a line number; a bound, or a line number or 0; the size of an element
pub data Limit : Type 0 where
  LineNumber : Limit
  Bound : Limit
  Size : Limit

abbrev pub within : Limit → ℕ → Bool
within LineNumber n = nat_lt 0 n && nat_lt n (MOST_NUMBER + 1)
within Bound n = nat_lt n (MOST_NUMBER + 1)
within Size n = is_power_of_two n && nat_lt 1 n && nat_lt n 513

-- what is expected of a statement, and after each of its parts
pub data Form : Type 0 where
  -- nothing more: this has been read
  Made : Value → Form
  -- a word, which may open a level of nesting
  TakeKey : Bool → Keyword → Form → Form
  TakeSign : Bool → Sign → Form → Form
  -- the closing parenthesis, which ends its nesting level
  TakeClosing : Form → Form
  -- a word and what follows it, or else the other form
  IfKey : Bool → Keyword → Form → Form → Form
  IfSign : Bool → Sign → Form → Form → Form
  ExprOf : Want → (Tree → Form) → Form
  -- an expression if its first word passes the test, or else the other form
  ExprIf : (Word → Bool) → Want → (Tree → Form) → Form → Form
  -- a variable or an element
  TargetOf : Want → (Tree → Form) → Form
  NameIn : Want → (Name → Form) → Form
  FnNameIn : (Name → Form) → Form
  LiteralIn : Limit → (ℕ → Form) → Form
  LiteralIf : Limit → (ℕ → Form) → Form → Form
  QuotedIf : (List ℕ → Form) → Form → Form
  -- an item of DATA, and more of them
  ItemIn : (List ℕ → Form) → Form
  MoreItems : List (List ℕ) → (List (List ℕ) → Form) → Form
  -- more elements, each after a comma
  MoreOf : Sequence → List Item → (List Item → Form) → Form
  -- more items of PRINT
  MorePrinted : Option PrintChannelTree → List PrintItemTree → Form
  -- more values of PRINT USING, after its channel, its format and the values so far
  MoreUsing : Option Tree → Tree → List UsingItemTree → Form
  -- what an IF runs; its nesting level ends there
  ClauseIn : (ClauseTree → Form) → Form

-- what makes a tree of the topmost values
pub data Action : Type 0 where
  MakeParenthesized : Action
  MakeNegative : Action
  MakePositive : Action
  MakeNot : Action
  MakeOperation : Operator → Action
  MakeComparison : Relation → Action
  -- one more subscript or argument
  Collect : Action
  MakeElement : Name → Action
  MakeFunction : Function → Action
  MakeCall : Name → Action
  -- a modifier after a statement
  Modify : Action
  -- one more statement of the line
  AddStatement : Action

pub data Symbol : Type 0 where
  -- an expression of a precedence level and an expected kind
  Level : ℕ → Want → Symbol
  -- more operands of a precedence level
  More : ℕ → Symbol
  -- more relations; true: the whole has to be a number
  MoreRelations : Bool → Symbol
  -- signs and an atom, after `^`
  Exponent : Symbol
  -- a sign that opens no nesting level
  Expect : Sign → Symbol
  -- the parenthesis that opens a list
  Opening : Symbol
  -- the end of a nesting level
  Close : Symbol
  Do : Action → Symbol
  -- after a name: subscripts, or none
  Subscripts : Name → Symbol
  -- a second subscript, or none
  SecondSubscript : Symbol
  -- after the name of a function of the program: arguments, or none
  Arguments : Name → Symbol
  -- more arguments, or none
  MoreArguments : Symbol
  Go : Form → Symbol
  -- after an expression, and after a statement that is a clause
  Await : (Tree → Form) → Symbol
  AwaitClause : (ClauseTree → Form) → Symbol
  -- modifiers, or none
  Modifiers : Symbol
  -- a statement of the line, or none
  OneStatement : Symbol
  -- more statements, each after a separator, or none
  MoreStatements : Symbol

-- ---- values

abbrev pub top : Values → Tree
top [] = Literal 0
top (Term t ∷ vs) = t
top (other ∷ vs) = Literal 0

abbrev pub several : Values → Trees
several [] = NoTrees
several (Several ts ∷ vs) = ts
several (other ∷ vs) = NoTrees

abbrev pub stated : Values → StatementTree
stated [] = End
stated (Stated s ∷ vs) = s
stated (other ∷ vs) = End

abbrev pub modifying : Values → ModifierTree
modifying [] = If (Literal 0)
modifying (Modifying m ∷ vs) = m
modifying (other ∷ vs) = If (Literal 0)

abbrev pub parsed : Values → List (Option StatementTree)
parsed [] = []
parsed (Parsed ss ∷ vs) = ss
parsed (other ∷ vs) = []

abbrev pub below : Values → Values
below [] = []
below (v ∷ vs) = vs

-- the same values, if there are any
abbrev pub kept : Values → Values
kept vs = Term (top vs) ∷ below vs

abbrev pub kept_several : Values → Values
kept_several vs = Several (several vs) ∷ below vs

abbrev pub kept_stated : Values → Values
kept_stated vs = Stated (stated vs) ∷ below vs

abbrev pub kept_parsed : Values → Values
kept_parsed vs = Parsed (parsed vs) ∷ below vs

-- the line's statements and one more, or none more before the next separator
abbrev pub with_statement : Option StatementTree → Values → Values
with_statement s vs = Parsed (parsed vs ++ s ∷ []) ∷ below vs

-- the trees and one more
abbrev pub with_last : Trees → Tree → Trees
with_last NoTrees t = AndTrees t NoTrees
with_last (AndTrees a more) t = AndTrees a (with_last more t)

abbrev pub made : Action → Values → Value
made MakeParenthesized vs = Term (Parenthesized (top vs))
made MakeNegative vs = Term (Negative (top vs))
made MakePositive vs = Term (Positive (top vs))
made MakeNot vs = Term (Not (top vs))
made (MakeOperation o) vs = Term (Operation (top (below vs)) o (top vs))
made (MakeComparison r) vs = Term (Comparison (top (below vs)) r (top vs))
made Collect vs = Several (with_last (several (below vs)) (top vs))
made (MakeElement name) vs = Term (Element name (several vs))
made (MakeFunction f) vs = Term (FunctionOf f (several vs))
made (MakeCall name) vs = Term (Call name (several vs))
made Modify vs = Stated (Modified (stated (below vs)) (modifying vs))
made AddStatement vs = Parsed (parsed (below vs) ++ Some (stated vs) ∷ [])

abbrev pub others : Action → Values → Values
others (MakeOperation o) vs = below (below vs)
others (MakeComparison r) vs = below (below vs)
others Collect vs = below (below vs)
others Modify vs = below (below vs)
others AddStatement vs = below (below vs)
others a vs = below vs

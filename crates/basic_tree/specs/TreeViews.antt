-- The trees of the code, without pointers.
use Rattle.std.specs.Prelude.{option_map, Option, Some, None}
use Rattle.basic_tree.specs.declared.expressions.Expr.{Expr, Held-Expr-Element-2, None', Some', Row_of-Expr, end_of-Expr, more_of-Expr}
use Rattle.basic_tree.specs.declared.expressions.Expr.TheVariants as expr
use Rattle.basic_tree.specs.declared.parts.Target.{Target}
use Rattle.basic_tree.specs.declared.parts.Target.TheVariants as target
use Rattle.basic_tree.specs.declared.parts.Printed.{Printed}
use Rattle.basic_tree.specs.declared.parts.Printed.TheVariants as printed
use Rattle.basic_tree.specs.declared.parts.Modifier.{Modifier}
use Rattle.basic_tree.specs.declared.parts.Modifier.TheVariants as modifier
use Rattle.basic_tree.specs.declared.parts.PrintItem.{PrintItem}
use Rattle.basic_tree.specs.declared.parts.PrintChannel.{PrintChannel}
use Rattle.basic_tree.specs.declared.parts.UsingItem.{UsingItem}
use Rattle.basic_tree.specs.declared.parts.MatrixValue.{MatrixValue}
use Rattle.basic_tree.specs.declared.parts.MatrixValue.TheVariants as matrix_value
use Rattle.basic_tree.specs.declared.parts.Prompt.{Prompt}
use Rattle.basic_tree.specs.declared.parts.ChainLine.{ChainLine}
use Rattle.basic_tree.specs.declared.parts.CloseChannel.{CloseChannel}
use Rattle.basic_tree.specs.declared.parts.FieldPart.{FieldPart}
use Rattle.basic_tree.specs.Trees.{Tree, Literal, Quoted, Variable, Element, FunctionOf, Call, Parenthesized, Negative, Positive, Not, Operation, Comparison, Trees, NoTrees, AndTrees, PrintedTree, Value, Tab, ModifierTree, If, Unless, While, Until, ForModifier, PrintItemTree, PrintChannelTree, UsingItemTree, MatrixTree, Zero, One, Identity, Copy, Sum, Difference, Product, Scaled, Transposed, PromptTree, ChainLineTree, CloseChannelTree, FieldPartTree}

abbrev mutual
  pub tree_of : Expr → Tree
  tree_of (expr.Literal n) = Literal n
  tree_of (expr.Quoted text) = Quoted text
  tree_of (expr.Variable name) = Variable name
  tree_of (expr.Element' name p first second) = Element name (AndTrees (tree_of first) (second_of second))
  tree_of (expr.Function' f shape arguments) = FunctionOf f (trees_of arguments)
  tree_of (expr.Call' name shape arguments) = Call name (trees_of arguments)
  tree_of (expr.Parenthesized' p a) = Parenthesized (tree_of a)
  tree_of (expr.Negative' p a) = Negative (tree_of a)
  tree_of (expr.Positive' p a) = Positive (tree_of a)
  tree_of (expr.Not' p a) = Not (tree_of a)
  tree_of (expr.Operation' p a o q b) = Operation (tree_of a) o (tree_of b)
  tree_of (expr.Relation' p a r q b) = Comparison (tree_of a) r (tree_of b)

  -- a second subscript, or none
  pub second_of : Held-Expr-Element-2 → Trees
  second_of None' = NoTrees
  second_of (Some' p a) = AndTrees (tree_of a) NoTrees

  pub trees_of : {m : _} → Row_of-Expr m → Trees
  trees_of end_of-Expr = NoTrees
  trees_of (more_of-Expr a rest) = AndTrees (tree_of a) (trees_of rest)

-- ---- parts of statements

abbrev pub subscripts_of : Expr → Option Expr → Trees
subscripts_of first None = AndTrees (tree_of first) NoTrees
subscripts_of first (Some second) = AndTrees (tree_of first) (AndTrees (tree_of second) NoTrees)

abbrev pub target_of : Target → Tree
target_of (target.Variable name) = Variable name
target_of (target.Element name first second) = Element name (subscripts_of first second)

abbrev pub printed_of : Printed → PrintedTree
printed_of (printed.Value e) = Value (tree_of e)
printed_of (printed.Tab e) = Tab (tree_of e)

abbrev pub item_of : PrintItem → PrintItemTree
item_of item = record { printed = printed_of item.printed; separator = item.separator }

abbrev pub print_channel_of : PrintChannel → PrintChannelTree
print_channel_of c = record { number = tree_of c.number; comma = c.comma }

abbrev pub using_item_of : UsingItem → UsingItemTree
using_item_of item = record { value = tree_of item.value; separator = item.separator }

abbrev pub matrix_of : MatrixValue → MatrixTree
matrix_of matrix_value.Zero = Zero
matrix_of matrix_value.One = One
matrix_of matrix_value.Identity = Identity
matrix_of (matrix_value.Copy b) = Copy b
matrix_of (matrix_value.Sum b c) = Sum b c
matrix_of (matrix_value.Difference b c) = Difference b c
matrix_of (matrix_value.Product b c) = Product b c
matrix_of (matrix_value.Scaled factor b) = Scaled (tree_of factor) b
matrix_of (matrix_value.Transposed b) = Transposed b

abbrev pub prompt_of : Prompt → PromptTree
prompt_of p = record { text = p.text; separator = p.separator }

abbrev pub chain_line_of : ChainLine → ChainLineTree
chain_line_of l = record { word = l.word; number = tree_of l.number }

abbrev pub close_channel_of : CloseChannel → CloseChannelTree
close_channel_of c = record { hash = c.hash; number = tree_of c.number }

abbrev pub field_part_of : FieldPart → FieldPartTree
field_part_of p = record { width = tree_of p.width; name = p.name }

abbrev pub modifier_of : Modifier → ModifierTree
modifier_of (modifier.If e) = If (tree_of e)
modifier_of (modifier.Unless e) = Unless (tree_of e)
modifier_of (modifier.While e) = While (tree_of e)
modifier_of (modifier.Until e) = Until (tree_of e)
modifier_of (modifier.For v start limit step) = ForModifier v (tree_of start) (tree_of limit) (option_map tree_of step)

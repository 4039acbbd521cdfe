-- The parts of the code, without pointers.
use Rattle.std.specs.Prelude.{false}
use Rattle.basic_tree.specs.StatementViews.{statement_of}
use Rattle.basic_tree.specs.Trees.{Tree, StatementTree, Goto}
use Rattle.basic_tree.specs.TreeViews.{tree_of, target_of}
use Rattle.statement_walk.specs.declared.parts.Simple.{Simple as SimplePart}
use Rattle.statement_walk.specs.declared.parts.Simple.TheVariants as simple
use Rattle.statement_walk.specs.declared.parts.Expression.{Expression as ExpressionPart}
use Rattle.statement_walk.specs.declared.parts.Expression.TheVariants as expression
use Rattle.statement_walk.specs.declared.parts.Part.{Part}
use Rattle.statement_walk.specs.declared.parts.Part.TheVariants as part
use Rattle.statement_walk.specs.Walk.{StatementPart, Simple, Expression, Loop}

abbrev pub simple_tree : SimplePart → StatementTree
simple_tree (simple.Statement s) = statement_of s.now
simple_tree (simple.Line n) = Goto false n

abbrev pub expression_tree : ExpressionPart → Tree
expression_tree (expression.Tree e) = tree_of e.now
expression_tree (expression.Target t) = target_of t.now

abbrev pub part_seen : Part → StatementPart
part_seen (part.Simple s) = Simple (simple_tree s)
part_seen (part.Expression e) = Expression (expression_tree e)
part_seen part.Loop = Loop

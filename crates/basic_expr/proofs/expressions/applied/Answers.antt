use Rattle.std.proofs.Common.{rules}
use Rattle.basic_tree.specs.declared.expressions.Expr.{the_lemmas}
use Rattle.basic_expr.proofs.Rows.{rows}
use Rattle.basic_expr.proofs.expressions.applied.Goals as goal

pub returns : goal.returns
returns c = search (rules, rows, the_lemmas)

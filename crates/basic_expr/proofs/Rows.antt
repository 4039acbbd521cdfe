-- The trees of a vector of expressions.
use Rattle.std.proofs.Common.{◌≡◌, refl, ap}
use Rattle.basic_tree.specs.declared.expressions.Expr.{Row_of-Expr, end_of-Expr, more_of-Expr, items-the_row-Expr}
use Rattle.basic_tree.specs.Trees.{AndTrees}
use Rattle.basic_tree.specs.TreeViews.{tree_of, trees_of}
use Rattle.basic_expr.specs.ParsedSymbols.{trees_in}

pub rows : (n : _) (row : Row_of-Expr n) → trees_of row ≡ trees_in (items-the_row-Expr n row)
rows _ end_of-Expr = refl
rows _ (more_of-Expr a rest) = ap (λ ts. AndTrees (tree_of a) ts) (rows _ rest)

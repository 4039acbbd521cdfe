use Rattle.std.proofs.Common.{[], ap, ◌∙◌}
use Rattle.basic_tree.specs.TreeViews.{tree_of}
use Rattle.lowering.specs.Emission.{one_more, with_expression}
use Rattle.lowering.proofs.CountLemmas.{expression_counted}
use Rattle.lowering.proofs.measured.expr_size.Goals as goal

pub returns : goal.returns
returns c =
    let part = tree_of c.args.e.now in
    c.count.ensures ∙ c.in_ok-emit_expr.ensures ∙ ap (with_expression one_more [] part) c.new-counted.ensures ∙ expression_counted [] part

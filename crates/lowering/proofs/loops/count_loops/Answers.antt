use Rattle.std.proofs.Common.{◌+◌, ap, ◌∙◌}
use Rattle.basic_tree.specs.StatementViews.{statement_of}
use Rattle.statement_walk.specs.Walk.{parts_in}
use Rattle.statement_walk.proofs.PartLaws.{summed, loop_parts}
use Rattle.lowering.proofs.loops.count_loops.Goals as goal

pub returns : goal.returns
returns c =
    c.loops.view_is ∙ c.in_ok-visit_parts.ensures ∙ summed c.args.total.now (parts_in (statement_of c.args.statement.now))
    ∙ ap (λ n. c.args.total.now + n) (loop_parts (statement_of c.args.statement.now))

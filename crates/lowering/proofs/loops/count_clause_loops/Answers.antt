use Rattle.std.proofs.Common.{◌+◌, ap, ◌∙◌}
use Rattle.basic_tree.specs.StatementViews.{clause_of}
use Rattle.statement_walk.specs.Walk.{parts_in_clause}
use Rattle.statement_walk.proofs.PartLaws.{summed, loop_parts_clause}
use Rattle.lowering.proofs.loops.count_clause_loops.Goals as goal

pub returns : goal.returns
returns c =
    c.loops.view_is ∙ c.in_ok-visit_clause.ensures ∙ summed c.args.total.now (parts_in_clause (clause_of c.args.clause.now))
    ∙ ap (λ n. c.args.total.now + n) (loop_parts_clause (clause_of c.args.clause.now))

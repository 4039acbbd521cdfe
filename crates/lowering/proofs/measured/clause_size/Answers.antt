use Rattle.std.proofs.Common.{[], ap, ◌∙◌}
use Rattle.basic_tree.specs.StatementViews.{clause_of}
use Rattle.lowering.specs.Emission.{one_more, with_clause}
use Rattle.lowering.proofs.CountLemmas.{clause_counted}
use Rattle.lowering.proofs.measured.clause_size.Goals as goal

pub returns : goal.returns
returns c =
    let part = clause_of c.args.clause.now in
    c.count.ensures ∙ c.in_ok-emit_clause.ensures ∙ ap (with_clause one_more [] 0 0 part) c.new-counted.ensures ∙ clause_counted [] 0 0 part

use Rattle.std.proofs.Common.{[], ap, ◌∙◌}
use Rattle.basic_tree.specs.StatementViews.{statement_of}
use Rattle.lowering.specs.Emission.{one_more, with_body}
use Rattle.lowering.proofs.CountLemmas.{body_counted}
use Rattle.lowering.proofs.measured.body_size.Goals as goal

pub returns : goal.returns
returns c =
    let part = statement_of c.args.statement.now in
    c.count.ensures ∙ c.in_ok-emit_body.ensures ∙ ap (with_body one_more [] 0 0 part) c.new-counted.ensures ∙ body_counted [] 0 0 part

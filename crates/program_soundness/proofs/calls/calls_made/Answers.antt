use Rattle.std.proofs.Common.{List, ◌++◌, ap, ◌∙◌}
use Rattle.basic_tree.specs.StatementViews.{statement_of}
use Rattle.program_model.specs.Parts.{CallMade}
use Rattle.statement_walk.specs.Walk.{parts_in, visited}
use Rattle.program_soundness.specs.Parts.{calls_by}
use Rattle.program_soundness.proofs.PartLemmas.{calls_are}
use Rattle.program_soundness.proofs.calls.calls_made.Goals as goal

pub returns : goal.returns
returns c =
    c.into_calls.ensures ∙ c.in_ok-visit_parts.ensures
    ∙ ap (λ (old : List CallMade). visited (λ calls part. calls ++ calls_by part) old (parts_in (statement_of c.args.statement.now))) c.new-calls.ensures
    ∙ calls_are (statement_of c.args.statement.now)

use Rattle.std.proofs.Common.{List, ◌++◌, ap, ◌∙◌}
use Rattle.basic_tree.specs.declared.names.Name.{Name}
use Rattle.basic_tree.specs.StatementViews.{statement_of}
use Rattle.statement_walk.specs.Walk.{parts_in, visited}
use Rattle.program_soundness.specs.Parts.{results_of}
use Rattle.program_soundness.proofs.PartLemmas.{results_are}
use Rattle.program_soundness.proofs.parts.results_in.Goals as goal

pub returns : goal.returns
returns c =
    c.into_names.ensures ∙ c.in_ok-visit_parts.ensures
    ∙ ap (λ (old : List Name). visited (λ names part. names ++ results_of part) old (parts_in (statement_of c.args.statement.now))) c.new-results.ensures
    ∙ results_are (statement_of c.args.statement.now)

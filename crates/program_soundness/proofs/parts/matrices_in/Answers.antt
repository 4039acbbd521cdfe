use Rattle.std.proofs.Common.{List, ◌++◌, ap, ◌∙◌}
use Rattle.basic_tree.specs.declared.names.Name.{Name}
use Rattle.basic_tree.specs.StatementViews.{statement_of}
use Rattle.statement_walk.specs.Walk.{parts_in, visited}
use Rattle.program_soundness.specs.Parts.{matrices_at}
use Rattle.program_soundness.proofs.PartLemmas.{matrices_are}
use Rattle.program_soundness.proofs.parts.matrices_in.Goals as goal

pub returns : goal.returns
returns c =
    c.into_names.ensures ∙ c.in_ok-visit_parts.ensures
    ∙ ap (λ (old : List Name). visited (λ names part. names ++ matrices_at part) old (parts_in (statement_of c.args.statement.now))) c.new-matrices.ensures
    ∙ matrices_are (statement_of c.args.statement.now)

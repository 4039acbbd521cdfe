use Rattle.std.proofs.Common.{ℕ, List, ◌++◌, ap, ◌∙◌}
use Rattle.basic_tree.specs.StatementViews.{statement_of}
use Rattle.statement_walk.specs.Walk.{parts_in, visited}
use Rattle.program_soundness.specs.Parts.{lines_by}
use Rattle.program_soundness.proofs.PartLemmas.{lines_are}
use Rattle.program_soundness.proofs.parts.lines_named.Goals as goal

pub returns : goal.returns
returns c =
    c.into_lines.ensures ∙ c.in_ok-visit_parts.ensures
    ∙ ap (λ (old : List ℕ). visited (λ lines part. lines ++ lines_by part) old (parts_in (statement_of c.args.statement.now))) c.new-named.ensures
    ∙ lines_are (statement_of c.args.statement.now)

use Rattle.std.proofs.Common.{rules, ◌∙◌, Some, arith}
use Rattle.grammar_machine.specs.MachineForms.{files_in}
use Rattle.statement_lists.proofs.ListSteps.{files_same}
use Rattle.statement_parts.proofs.Steps.{on_err}
use Rattle.statement_rows.specs.declared.piece.Piece.TheVariants as piece
use Rattle.statement_rows.specs.Pieces.{PieceRead}
use Rattle.statement_rows.specs.Slots.{FileShapesPart}
use Rattle.statement_rows.proofs.lists.file_shapes.Goals as goal

pub returns-in_err-found : goal.returns-in_err-found
returns-in_err-found c =
    let e = c.in_err-found in
    on_err (PieceRead c.args.levels c.args.words.now c.args.from piece.FileShapes) _ e.field-0.0 (search rules)
    (e.ensures.0, λ g halt is k vs. e.ensures.1 (λ items. g (Some (FileShapesPart (files_in items)))) halt is k vs)

pub returns : goal.returns
returns c = (
  (omega (arith, c.in_ok-found.ensures.0.0), c.in_ok-found.ensures.0.1),
  λ g k vs. c.in_ok-found.ensures.1 (λ items. g (Some (FileShapesPart (files_in items)))) k vs ∙ (simp files_same),
)

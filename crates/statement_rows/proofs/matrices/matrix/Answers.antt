use Rattle.std.proofs.Common.{rules, ◌∙◌, false, Some, arith}
use Rattle.statement_parts.proofs.Steps.{on_err}
use Rattle.statement_rows.specs.declared.piece.Piece.TheVariants as piece
use Rattle.statement_rows.specs.Pieces.{PieceRead}
use Rattle.statement_rows.specs.Slots.{MatrixPart}
use Rattle.statement_rows.proofs.matrices.matrix.Goals as goal

pub returns-in_err-made : goal.returns-in_err-made
returns-in_err-made c =
    let e = c.in_err-made in
    on_err (PieceRead c.args.levels c.args.words.now c.args.from piece.Matrix) _ e.field-0.0 (search rules) (
      e.ensures.0,
      λ g halt is k vs.
          c.if-if_key.ensures.stands c.args.levels false _ _ k vs
          ∙ c.if-if_key-2.ensures.stands c.args.levels false _ _ k vs
          ∙ c.if-if_key-3.ensures.stands c.args.levels false _ _ k vs
          ∙ e.ensures.1 (λ m. g (Some (MatrixPart m))) halt is k vs,
    )

pub returns : goal.returns
returns c = (
  (omega (arith, c.in_ok-made.ensures.0.0), c.in_ok-made.ensures.0.1),
  λ g k vs.
      c.if-if_key.ensures.stands c.args.levels false _ _ k vs
      ∙ c.if-if_key-2.ensures.stands c.args.levels false _ _ k vs
      ∙ c.if-if_key-3.ensures.stands c.args.levels false _ _ k vs
      ∙ c.in_ok-made.ensures.1 (λ m. g (Some (MatrixPart m))) k vs,
)

use Rattle.std.proofs.Common.{rules}
use Rattle.statement_parts.proofs.Steps.{on_err}
use Rattle.statement_rows.specs.Pieces.{RowRead}
use Rattle.statement_rows.specs.Slots.{slots_of}
use Rattle.statement_rows.proofs.RowSteps.{row_grows, row_halts, piece_next}
use Rattle.statement_rows.proofs.reader.row.Goals as goal

pub returns-in_err-end : goal.returns-in_err-end
returns-in_err-end c =
    let e = c.in_err-end in
    on_err (RowRead c.args.levels c.args.words.now c.args.from c.args.row.now) _ e.field-0.0 (search rules)
    (e.ensures.0, row_halts c.args.levels c.args.words.now c.args.from c.args.row.now _ c.pieces.next-index c.pieces.end _ e.field-0.0 c.pieces.invariant (piece_next c.args.row.now c.pieces.next-index _ (search rules)) e.ensures.1)

pub pieces-preserved : goal.pieces-preserved
pieces-preserved c =
    row_grows c.args.levels c.args.words.now c.args.from c.args.row.now _ _ c.pieces.next-index c.pieces.end _ _
    c.pieces.invariant (piece_next c.args.row.now c.pieces.next-index _ (search rules)) c.in_ok-end.ensures

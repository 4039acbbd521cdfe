use Rattle.std.proofs.Common.{rules, Some}
use Rattle.statement_parts.proofs.Steps.{on_err}
use Rattle.statement_rows.specs.declared.piece.Piece.TheVariants as piece
use Rattle.statement_rows.specs.Pieces.{PieceRead}
use Rattle.statement_rows.specs.Slots.{OptionsPart}
use Rattle.statement_rows.proofs.optional.open_options.Goals as goal

pub returns-in_err-found : goal.returns-in_err-found
returns-in_err-found c =
    let e = c.in_err-found in
    on_err (PieceRead c.args.levels c.args.words.now c.args.from piece.OpenOptions) _ e.field-0.0 (search rules)
    (e.ensures.0, λ g halt is k vs. e.ensures.1 (λ size cluster mode. g (Some (OptionsPart size cluster mode))) halt is k vs)

pub returns : goal.returns
returns c = (c.in_ok-found.ensures.0, λ g k vs. c.in_ok-found.ensures.1 (λ size cluster mode. g (Some (OptionsPart size cluster mode))) k vs)

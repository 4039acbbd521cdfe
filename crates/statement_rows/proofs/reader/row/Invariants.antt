use Rattle.statement_rows.specs.Pieces.{Rowed}
use Rattle.statement_rows.specs.Slots.{slots_of}
use Rattle.statement_rows.proofs.reader.row.Given as goal

abbrev pub invariant-pieces : goal.invariant-pieces
invariant-pieces l = Rowed l.fn.levels l.words l.fn.from l.row (slots_of l.slots) l.next-index l.end

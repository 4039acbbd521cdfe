use Rattle.std.proofs.Common.{◌≡◌, take}
use Rattle.std.specs.List.{fold}
use Rattle.terminal_line.specs.Columns.{column_behind}
use Rattle.terminal_line.proofs.columns.column_from.Given as goal

abbrev pub invariant-loop-byte : goal.invariant-loop-byte
invariant-loop-byte l = l.behind ≡ fold column_behind l.column (take l.byte-index l.bytes)

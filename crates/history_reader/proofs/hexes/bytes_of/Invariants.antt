use Rattle.std.proofs.Common.{◌≡◌, ◌++◌, length}
use Rattle.history_reader.specs.LineFields.{hex_bytes}
use Rattle.history_reader.proofs.hexes.bytes_of.Given as goal

abbrev pub invariant-loop-rest : goal.invariant-loop-rest
invariant-loop-rest l = l.bytes.items ++ hex_bytes l.rest ≡ hex_bytes l.signs

abbrev pub decreases-loop-rest : goal.decreases-loop-rest
decreases-loop-rest l = length l.rest

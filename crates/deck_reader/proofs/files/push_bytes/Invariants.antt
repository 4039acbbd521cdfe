use Rattle.std.proofs.Common.{◌≡◌, ◌++◌, length}
use Rattle.deck_model.specs.Hex.{hex_bytes}
use Rattle.deck_reader.proofs.files.push_bytes.Given as goal

abbrev pub invariant-loop-rest : goal.invariant-loop-rest
invariant-loop-rest l = l.bytes.items ++ hex_bytes l.rest ≡ l.initial.bytes.items ++ hex_bytes l.digits

abbrev pub decreases-loop-rest : goal.decreases-loop-rest
decreases-loop-rest l = length l.rest

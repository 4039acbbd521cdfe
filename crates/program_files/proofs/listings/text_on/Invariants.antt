use Rattle.std.proofs.Common.{◌≡◌, ◌==◌, take, not}
use Rattle.std.specs.Prelude.{filter}
use Rattle.program_files.proofs.listings.text_on.Given as goal

abbrev pub invariant-loop-byte : goal.invariant-loop-byte
invariant-loop-byte l = l.bytes.items ≡ filter (λ byte. not (byte == 0)) (take l.byte-index l.byte-items)

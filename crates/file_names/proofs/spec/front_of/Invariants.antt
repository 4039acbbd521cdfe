use Rattle.std.proofs.Common.{◌≡◌, take}
use Rattle.file_names.specs.Names.{squeezed}
use Rattle.file_names.proofs.spec.front_of.Given as goal

abbrev pub invariant-loop-byte : goal.invariant-loop-byte
invariant-loop-byte l = l.bytes.items ≡ take 32 (squeezed (take l.byte-index l.text))

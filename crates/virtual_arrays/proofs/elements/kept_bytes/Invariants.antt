use Rattle.std.proofs.Common.{◌≡◌, take}
use Rattle.virtual_arrays.specs.Elements.{without_zeros}
use Rattle.virtual_arrays.proofs.elements.kept_bytes.Given as goal

abbrev pub invariant-loop-place : goal.invariant-loop-place
invariant-loop-place l = without_zeros l.bytes ≡ without_zeros (take l.place l.bytes)

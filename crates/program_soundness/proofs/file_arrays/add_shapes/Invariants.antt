use Rattle.std.proofs.Common.{◌≡◌, ◌≤◌, ◌++◌, ◌^◌, drop}
use Rattle.program_model.specs.FileArrays.{arrays_from}
use Rattle.program_soundness.proofs.file_arrays.add_shapes.Given as goal

-- those so far and those to come are all
abbrev pub invariant-loop-shape : goal.invariant-loop-shape
invariant-loop-shape l = record {
  all : l.arrays.items ++ arrays_from l.channel l.behind (drop l.shape-index l.shapes) ≡ l.fn.arrays.items ++ arrays_from l.channel 0 l.shapes;
  small : l.behind ≤ 2 ^ 49;
}

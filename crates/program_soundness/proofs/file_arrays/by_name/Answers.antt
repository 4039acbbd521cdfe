use Rattle.std.proofs.Common.{arith}
use Rattle.program_soundness.proofs.FileArrayLemmas.{found_before}
use Rattle.program_soundness.proofs.file_arrays.by_name.Goals as goal

pub loop-place-preserved : goal.loop-place-preserved
loop-place-preserved c =
    found_before c.args.arrays.now c.loop-place.place c.index-arrays-place.result c.loop-place.named.entries c.insert.new.self.entries c.index-arrays-place.is (omega arith) (omega arith) c.in_ok-insert.ensures.entries c.loop-place.invariant

use Rattle.std.proofs.Common.{refl}
use Rattle.program_model.specs.FileArrays.{arrays_from}
use Rattle.program_soundness.proofs.FileArrayLemmas.{shape_added}
use Rattle.program_soundness.proofs.LoopLemmas.{ended}
use Rattle.program_soundness.proofs.file_arrays.add_shapes.Goals as goal

pub loop-shape-preserved : goal.loop-shape-preserved
loop-shape-preserved c = record {
  all = shape_added c.args.channel c.loop-shape.behind c.end_of-behind.result c.args.shapes.now c.loop-shape.shape-index _ c.array_from-array.result c.loop-shape.arrays.items c.push.new.self.items _ c.loop-shape-test.true c.array_from-array.ensures c.end_of-behind.ensures.value c.in_ok-push.ensures.items c.loop-shape.invariant.all;
  small = c.end_of-behind.ensures.small;
}

pub returns : goal.returns
returns c = ended (arrays_from c.args.channel c.loop-shape.behind) c.args.shapes.now c.loop-shape.shape-index c.loop-shape.arrays.items _ refl c.loop-shape-test.false c.loop-shape.invariant.all

use Rattle.std.proofs.Common.{◌≡◌, length, ap, arith}
use Rattle.std.specs.Prelude.{map}
use Rattle.std.proofs.lemmas.List.{length-map, with_items_is}
use Rattle.job_memory.specs.Memory.{variables_size, aside_size, forgotten_kept}
use Rattle.job_memory.proofs.RoomLemmas.{variables_size-forgotten, aside_size-forgotten}
use Rattle.job_memory.proofs.memory.Memory.forget.Goals as goal

pub invariant_of-self : goal.invariant_of-self
invariant_of-self c =
    let same : length c.forget_frames.new.frames ≡ c.self.inside.aside.len = omega (arith, ap length c.forget_frames.ensures, length-map c.as_mut_slice.result.now (map (forgotten_kept c.args.closed)), c.as_mut_slice.ensures.len) in
    record {
      counted = omega (
        arith,
        c.self.invariant.counted,
        ap variables_size c.forget_variables.ensures.entries,
        variables_size-forgotten c.args.closed c.self.inside.variables,
        ap aside_size c.forget_frames.ensures,
        aside_size-forgotten c.args.closed c.as_mut_slice.result.now,
        ap aside_size c.as_mut_slice.ensures.value,
        ap aside_size (with_items_is c.self.inside.aside c.forget_frames.new.frames same),
      );
      most = c.self.invariant.most;
      ordered = c.forget_variables.ensures.ordered;
      arrays_ordered = c.self.invariant.arrays_ordered;
    }

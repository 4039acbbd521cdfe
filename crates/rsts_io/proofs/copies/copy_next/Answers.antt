use Rattle.std.proofs.Common.{◌≡◌, length, arith, length-take}
use Rattle.rsts_io.proofs.FrontLemmas.{front_is_next}
use Rattle.rsts_io.proofs.copies.copy_next.Goals as goal

pub returns-clause-next : goal.returns-clause-next
returns-clause-next c =
    let len : length c.copy_from_slice.new.self ≡ c.min-count.result = omega (arith, length-take c.min-count.result c.args.buffer.now) in
    front_is_next c.args.bytes.now c.args.buffer.now c.copy_from_slice.new.self c.args.at c.min-count.result len c.copy_from_slice.ensures.after

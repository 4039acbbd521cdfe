use Rattle.std.proofs.Common.{subst, arith}
use Rattle.block_interlock.specs.Index.{Drops}
use Rattle.block_interlock.proofs.RunLemmas.{drops_more}
use Rattle.block_interlock.proofs.index.drop_all.Goals as goal

pub loop-place-preserved : goal.loop-place-preserved
loop-place-preserved c =
    let mid = c.loop-place.index.items in
    let new = c.drop_hold.new.index.items in
    let step = subst (λ held. Drops held mid new) c.nth.ensures c.drop_hold.ensures.drops in
    record {
      drops = drops_more c.args.run.now c.loop-place.place c.args.index.now.items mid new c.loop-place.invariant.drops step;
      room = omega (arith, c.loop-place.invariant.room, c.drop_hold.ensures.room);
    }

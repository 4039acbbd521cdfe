use Rattle.std.proofs.Common.{None, ap, ◌∙◌, subst, arith}
use Rattle.block_interlock.specs.Index.{Adds, look}
use Rattle.block_interlock.proofs.RunLemmas.{next_is_free, adds_more}
use Rattle.block_interlock.proofs.index.add_all.Goals as goal

pub add_hold-requires-clause-free : goal.add_hold-requires-clause-free
add_hold-requires-clause-free c =
    let mid = c.loop-place.index.items in
    ap (λ held. look mid held.name held.block) c.nth-held.ensures
    ∙ next_is_free c.args.run.now c.args.job c.args.channel c.loop-place.place c.args.index.now.items mid c.requires.free (omega (arith, c.loop-place-test.true)) c.loop-place.invariant.adds

pub loop-place-preserved : goal.loop-place-preserved
loop-place-preserved c =
    let mid = c.loop-place.index.items in
    let new = c.add_hold.new.index.items in
    let step = subst (λ held. Adds (record { held = held; job = c.args.job; channel = c.args.channel }) mid new) c.nth-held.ensures c.add_hold.ensures.adds in
    record {
      adds = adds_more c.args.run.now c.args.job c.args.channel c.loop-place.place c.args.index.now.items mid new c.loop-place.invariant.adds step;
      room = omega (arith, c.loop-place.invariant.room, c.add_hold.ensures.room);
    }

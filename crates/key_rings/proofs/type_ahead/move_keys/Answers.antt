use Rattle.key_rings.proofs.Waiting.{free_slot, pushes}
use Rattle.rtrb.specs.Ring.{sent}
use Rattle.key_rings.proofs.type_ahead.move_keys.Goals as goal

pub push_reserved-requires : goal.push_reserved-requires
push_reserved-requires c = (
  free_slot _ _ c.loop-waiting-test.true c.is_full.ensures.value,
  pushes (sent c.is_full.new.self) (sent c.loop-waiting.ring) c.loop-waiting.waiting.items _ _ c.in-Some.key c.is_full.ensures.looked.1 c.in-Some.ensures.items c.loop-waiting.invariant.typed c.requires.once,
)

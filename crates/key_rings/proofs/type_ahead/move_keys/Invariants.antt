use Rattle.std.proofs.Common.{◌≡◌, ◌≤◌, ◌++◌}
use Rattle.std.specs.VecDeque.{deque_len}
use Rattle.rtrb.specs.Ring.{sent, SameProducer}
use Rattle.key_rings.specs.Rings.{weight}
use Rattle.key_rings.proofs.type_ahead.move_keys.Given as goal

abbrev pub invariant-loop-waiting : goal.invariant-loop-waiting
invariant-loop-waiting l = record {
  ring : SameProducer l.initial.ring l.ring;
  typed : sent l.ring ++ l.waiting.items ≡ sent l.initial.ring ++ l.initial.waiting.items;
  weighs : l.bytes ≡ weight l.waiting.items;
  fewer : l.bytes ≤ l.initial.bytes;
}

abbrev pub decreases-loop-waiting : goal.decreases-loop-waiting
decreases-loop-waiting l = deque_len l.waiting

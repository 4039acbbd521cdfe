use Rattle.std.proofs.Common.{rules, ap}
use Rattle.monitor_gate.specs.Turns.{Hand, spare_of}
use Rattle.monitor_gate.proofs.Seats.{splits}
use Rattle.monitor_gate.proofs.table.GateTable.split.Goals as goal

pub split_seat-requires : goal.split_seat-requires
split_seat-requires c = (
  search rules,
  search rules,
  splits _ _ _ (spare_of c.args.spare.now.me.0) (ap (λ (x : Hand). x.0) c.requires.spare) c.requires.room,
)

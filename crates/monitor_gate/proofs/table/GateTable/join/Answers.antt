use Rattle.std.proofs.Common.{rules, ap}
use Rattle.monitor_gate.specs.Turns.{Hand, spare_of, pass_of}
use Rattle.monitor_gate.proofs.Seats.{joins}
use Rattle.monitor_gate.proofs.table.GateTable.join.Goals as goal

pub join_seat-requires : goal.join_seat-requires
join_seat-requires c = (
  search rules,
  search rules,
  ap (λ (x : Hand). x.1) c.requires.asks,
  search rules,
  joins _ _ _ _ _ (spare_of c.args.spare.now.me.0) (pass_of c.args.seat.me.0) (ap (λ (x : Hand). x.0) c.requires.spare)
      (ap (λ (x : Hand). x.0) c.requires.asks),
)

use Rattle.std.proofs.Common.{◌≡◌, [], ◌∷◌, List, Some, rules, sym, subst}
use Rattle.std.specs.Prelude.{Option as Maybe}
use Rattle.atomic_table.specs.Table.{opening as board_of}
use Rattle.monitor_gate.specs.declared.recorded.RecordedMonitor.{RecordedMonitor}
use Rattle.monitor_gate.specs.Turns.{Kept, first_view}
use Rattle.monitor_gate.proofs.Keeps.{begins}
use Rattle.monitor_gate.proofs.table.GateTable.new.Goals as goal

pub new-requires-2 : goal.new-requires-2
new-requires-2 c =
    let kept : RecordedMonitor = record { monitor = c.args.monitor; history = c.new.result } in
    let items : c.push_reserved.new.self.items ≡ Some kept ∷ [] = search rules in
    let empty : c.new.result.items ≡ [] = search rules in
    subst (λ (l : List (Maybe RecordedMonitor)). Kept c.of-key.result.value (board_of (0 ∷ []) l (first_view c.of-key.result.value))) (sym items)
    (begins c.of-key.result.value kept (sym c.of-key.ensures) empty)

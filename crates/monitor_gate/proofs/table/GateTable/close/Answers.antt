use Rattle.std.proofs.Common.{◌≡◌, Some, rules, ap, sym, ◌∙◌, subst}
use Rattle.std.specs.Prelude.{Option as Maybe, IsSome}
use mathlib.Core.Option.{some-injective}
use Rattle.monitor_model.specs.History.{after}
use Rattle.monitor_gate.specs.declared.recorded.RecordedMonitor.{RecordedMonitor}
use Rattle.monitor_gate.specs.OneHistory.{OneHistory}
use Rattle.monitor_gate.specs.Turns.{Hand, spare_of}
use Rattle.monitor_gate.proofs.Seats.{closes}
use Rattle.monitor_gate.proofs.table.GateTable.close.Goals as goal

pub unwrap-kept-requires : goal.unwrap-kept-requires
unwrap-kept-requires c =
    let d = closes _ _ _ (spare_of c.args.spare.me.0) _ _ (ap (λ (x : Hand). x.0) c.requires.spare) c.requires.all c.close_with-closed.ensures.values.2 in
    let is : Some d.kept ≡ c.take-slot.result = some-injective _ _ (sym d.slot ∙ c.take-slot.ensures.value) in
    subst (λ (o : Maybe RecordedMonitor). IsSome o) is (search rules)

pub returns-clause-opening : goal.returns-clause-opening
returns-clause-opening c =
    (closes _ _ _ (spare_of c.args.spare.me.0) _ _ (ap (λ (x : Hand). x.0) c.requires.spare) c.requires.all c.close_with-closed.ensures.values.2).opening_is

pub returns-clause-history : goal.returns-clause-history
returns-clause-history c =
    let d = closes _ _ _ (spare_of c.args.spare.me.0) _ _ (ap (λ (x : Hand). x.0) c.requires.spare) c.requires.all c.close_with-closed.ensures.values.2 in
    let is : Some d.kept ≡ c.take-slot.result = some-injective _ _ (sym d.slot ∙ c.take-slot.ensures.value) in
    let same : d.kept ≡ c.unwrap-kept.result = search rules in
    rw c.from_vec.ensures (subst (λ (x : RecordedMonitor). OneHistory (spare_of c.args.spare.me.0) x.history.items) same d.history)

pub returns-clause-monitor : goal.returns-clause-monitor
returns-clause-monitor c =
    let d = closes _ _ _ (spare_of c.args.spare.me.0) _ _ (ap (λ (x : Hand). x.0) c.requires.spare) c.requires.all c.close_with-closed.ensures.values.2 in
    let is : Some d.kept ≡ c.take-slot.result = some-injective _ _ (sym d.slot ∙ c.take-slot.ensures.value) in
    let same : d.kept ≡ c.unwrap-kept.result = search rules in
    rw c.from_vec.ensures (subst (λ (x : RecordedMonitor). x.monitor ≡ after c.args.self.table.shared.key.value x.history.items) same d.state)

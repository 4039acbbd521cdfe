use Rattle.std.proofs.Common.{◌≡◌, ℕ, List, [], ◌∷◌, Option, Some, None, rules, sym, ap, ◌∙◌, subst}
use Rattle.atomic_table.specs.Table.{rest}
use Rattle.monitor_gate.specs.declared.recorded.RecordedMonitor.{RecordedMonitor}
use Rattle.monitor_gate.specs.declared.views.Pass.{Pass}
use Rattle.monitor_gate.specs.declared.views.Knows.TheVariants.{HasTurn}
use Rattle.monitor_gate.specs.Turns.{pass_of, Hand, Found, HasTaken}
use Rattle.monitor_gate.proofs.Keeps.{tries}
use Rattle.monitor_gate.proofs.table.GateTable.take.Goals as goal

pub swap-requires : goal.swap-requires
swap-requires g c =
    (search rules, search rules, tries _ _ _ _ (pass_of c.args.seat.now.me.0) (c.loop.invariant.1 ∙ c.requires.asks))

pub exchange-requires : goal.exchange-requires
exchange-requires g c =
    let took = c.swap.ensures.2.0 c.if-swap-eq0.true in
    (search rules, (Some took.0, ap (λ (x : Hand). x.1) took.1 ∙ ap (λ (x : Hand). (0, Some took.0) ∷ rest x.1) (sym took.1)))

abbrev in_hand : List (ℕ × Option RecordedMonitor) → Option RecordedMonitor
in_hand [] = None
in_hand (slot ∷ slots) = slot.1

-- what was taken out is what the turn found
taken_out : (pass : Pass) (kept got : RecordedMonitor) (hand new : Hand) (out : Option RecordedMonitor) → hand ≡ (HasTurn pass kept.history.items, (0, Some kept) ∷ []) → Found pass kept → hand.1 ≡ (0, out) ∷ rest hand.1 → new ≡ (hand.0, (0, None) ∷ rest hand.1) → out ≡ Some got → HasTaken pass got new
taken_out pass kept got hand new out is found slot now some =
    let both : Some kept ≡ Some got = sym (ap (λ (h : Hand). in_hand h.1) is) ∙ ap in_hand slot ∙ some in
    let same : kept ≡ got = cc in
    subst (λ k. HasTaken pass k new) same (record {
      hand_is = now ∙ ap (λ (h : Hand). (h.0, (0, None) ∷ rest h.1)) is;
      found = found;
    })

pub returns-then-swap-eq0-clause-taken : goal.returns-then-swap-eq0-clause-taken
returns-then-swap-eq0-clause-taken g c =
    let took = c.swap.ensures.2.0 c.if-swap-eq0.true in
    let same : pass_of c.loop.seat.me.0 ≡ pass_of c.args.seat.now.me.0 = ap (λ (x : Hand). pass_of x.0) c.loop.invariant.1 in
    subst (λ pass. HasTaken pass c.unwrap.result c.exchange.new.seat.me) same
    (taken_out (pass_of c.loop.seat.me.0) took.0 c.unwrap.result c.swap.new.seat.me c.exchange.new.seat.me c.exchange.result took.1 took.2 c.exchange.ensures.2 c.exchange.ensures.3 c.unwrap.ensures)

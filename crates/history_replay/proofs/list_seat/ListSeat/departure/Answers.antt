use Rattle.std.proofs.Common.{◌≡◌, [], length, refl, sym, ap, ◌∙◌, subst, arith, eqb-true, eq-eqb}
use Rattle.std.proofs.lemmas.Bool.{both_ways}
use Rattle.std.proofs.lemmas.List.{nil_from_length}
use Rattle.history_replay.specs.Lists.{Listed, part, heard, DepartsHere}
use Rattle.history_replay.proofs.ListSteps.{heard_all, departs_here}
use Rattle.history_replay.proofs.list_seat.ListSeat.departure.Goals as goal
use Rattle.history_replay.proofs.list_seat.ListSeat.departure.Goals.{else-is_empty-via-then-is_empty+else-self, else-is_empty-via-else-is_empty}

pub returns-then-self : goal.returns-then-self
returns-then-self c =
    let inside = c.self.inside in
    let seat : Listed = record { history = inside.history.now; job = inside.job; given = inside.given; others = inside.others.items } in
    let none : inside.others.items ≡ [] = nil_from_length inside.others.items (omega (arith, eqb-true _ _ (sym c.is_empty.ensures ∙ c.if-is_empty.true), inside.others.ok.0)) in
    subst (λ (p : Listed). heard p ≡ part p) c.self.view_is (heard_all seat inside.next inside.later.now c.self.invariant none c.if-self.true)

pub returns : goal.returns
returns c =
    let inside = c.self.inside in
    let seat : Listed = record { history = inside.history.now; job = inside.job; given = inside.given; others = inside.others.items } in
    subst (λ (p : Listed). DepartsHere p inside.job inside.given inside.next) c.self.view_is (record {
      job_is = refl;
      position_is = c.self.invariant.next_is;
      part_at = departs_here seat inside.next inside.later.now c.self.invariant (λ none past.
          elim c.else-is_empty.branch [
            | else-is_empty-via-then-is_empty+else-self w ↦ w.if-self.false past
            | else-is_empty-via-else-is_empty w ↦
                let gone : length inside.others.items ≡ 0 = ap length none in
                both_ways _ w.if-is_empty.false (c.is_empty.ensures ∙ eq-eqb _ _ (omega (arith, gone, inside.others.ok.0)))
          ]);
    })

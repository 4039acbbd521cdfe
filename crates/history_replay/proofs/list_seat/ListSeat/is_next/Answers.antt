use Rattle.std.proofs.Common.{◌≡◌, true, [], length, Some, Decides, rules, refl, sym, ◌∙◌, subst, arith, eqb-true}
use Rattle.std.specs.Prelude.{slice_get}
use Rattle.std.proofs.lemmas.Bool.{false≢true}
use Rattle.std.proofs.lemmas.List.{nil_from_length}
use Rattle.std.proofs.lemmas.Option.{slice_get_read}
use Rattle.history_replay.specs.Lists.{Listed, IsNext}
use Rattle.history_replay.proofs.ListSteps.{next_decided, next_none}
use Rattle.history_replay.proofs.list_seat.ListSeat.is_next.Goals as goal

pub returns-in-Some : goal.returns-in-Some
returns-in-Some c =
    let inside = c.self.inside in
    let seat : Listed = record { history = inside.history.now; job = inside.job; given = inside.given; others = inside.others.items } in
    let empty : c.is_empty.result ≡ true = search rules in
    let none : inside.others.items ≡ [] = nil_from_length inside.others.items (omega (arith, eqb-true _ _ (sym c.is_empty.ensures ∙ empty), inside.others.ok.0)) in
    let entry = c.in-Some.entry.now in
    let lookup = c.in-Some.ensures.lookup in
    let is : slice_get inside.history.now inside.next ≡ Some entry = slice_get_read inside.history.now (length inside.history.now) inside.next entry refl lookup.3.0 lookup.1 in
    subst (λ (p : Listed). Decides c.same_request.result (IsNext p c.args.request.now)) c.self.view_is
    (next_decided seat inside.next inside.later.now entry c.args.request.now c.same_request.result c.self.invariant none is c.same_request.ensures)

pub returns-in-None : goal.returns-in-None
returns-in-None c =
    let inside = c.self.inside in
    let seat : Listed = record { history = inside.history.now; job = inside.job; given = inside.given; others = inside.others.items } in (
      λ t. absurd (false≢true t),
      λ is. absurd (next_none seat inside.next inside.later.now c.args.request.now c.self.invariant c.in-None.ensures.lookup.3 (subst (λ (p : Listed). IsNext p c.args.request.now) (sym c.self.view_is) is)),
    )

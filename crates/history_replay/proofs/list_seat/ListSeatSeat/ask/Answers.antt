use Rattle.std.proofs.Common.{◌<◌, length, rules, refl, sym, ap, ◌∙◌, subst, arith}
use Rattle.std.proofs.lemmas.Option.{slice_get_within, get_or_from_slice_get}
use Rattle.monitor_calls.specs.declared.calls.Entry.{Entry}
use Rattle.history_replay.specs.Lists.{Listed, IsNext}
use Rattle.history_replay.proofs.Positions.{part-le}
use Rattle.history_replay.proofs.ListSteps.{next_entry, placed_next, heard_next}
use Rattle.history_replay.proofs.list_seat.ListSeatSeat.ask.Goals as goal

pub bounds-self-inside-self-inside : goal.bounds-self-inside-self-inside
bounds-self-inside-self-inside c =
    let inside = c.self.inside in
    let seat : Listed = record { history = inside.history.now; job = inside.job; given = inside.given; others = inside.others.items } in
    let is : IsNext seat c.args.request = subst (λ (p : Listed). IsNext p c.args.request) (sym c.self.view_is) (c.is_next.ensures.0 c.if-not-is_next.false) in
    let found = next_entry seat inside.next inside.later.now c.args.request c.self.invariant is in
    slice_get_within inside.history.now inside.next found.entry found.is

pub offset_bounds-self-inside-self-inside : goal.offset_bounds-self-inside-self-inside
offset_bounds-self-inside-self-inside c =
    let inside = c.self.inside in
    let seat : Listed = record { history = inside.history.now; job = inside.job; given = inside.given; others = inside.others.items } in
    let is : IsNext seat c.args.request = subst (λ (p : Listed). IsNext p c.args.request) (sym c.self.view_is) (c.is_next.ensures.0 c.if-not-is_next.false) in
    let found = next_entry seat inside.next inside.later.now c.args.request c.self.invariant is in
    let within : inside.next < length inside.history.now = slice_get_within inside.history.now inside.next found.entry found.is in
    search rules

pub bounds-self-inside-self-inside-2 : goal.bounds-self-inside-self-inside-2
bounds-self-inside-self-inside-2 c =
    let inside = c.self.inside in
    let seat : Listed = record { history = inside.history.now; job = inside.job; given = inside.given; others = inside.others.items } in
    let is : IsNext seat c.args.request = subst (λ (p : Listed). IsNext p c.args.request) (sym c.self.view_is) (c.is_next.ensures.0 c.if-not-is_next.false) in
    let found = next_entry seat inside.next inside.later.now c.args.request c.self.invariant is in
    let within : inside.next < length inside.history.now = slice_get_within inside.history.now inside.next found.entry found.is in
    omega (arith, c.self.invariant.laters.count)

pub offset_bounds-self-inside-self-inside-2 : goal.offset_bounds-self-inside-self-inside-2
offset_bounds-self-inside-self-inside-2 c =
    let inside = c.self.inside in
    let seat : Listed = record { history = inside.history.now; job = inside.job; given = inside.given; others = inside.others.items } in
    let is : IsNext seat c.args.request = subst (λ (p : Listed). IsNext p c.args.request) (sym c.self.view_is) (c.is_next.ensures.0 c.if-not-is_next.false) in
    let found = next_entry seat inside.next inside.later.now c.args.request c.self.invariant is in
    let within : inside.next < length inside.history.now = slice_get_within inside.history.now inside.next found.entry found.is in
    let inner : inside.next < length inside.later.now = omega (arith, c.self.invariant.laters.count) in
    search rules

pub overflow_add-self : goal.overflow_add-self
overflow_add-self c =
    let inside = c.self.inside in
    let seat : Listed = record { history = inside.history.now; job = inside.job; given = inside.given; others = inside.others.items } in
    let is : IsNext seat c.args.request = subst (λ (p : Listed). IsNext p c.args.request) (sym c.self.view_is) (c.is_next.ensures.0 c.if-not-is_next.false) in
    let found = next_entry seat inside.next inside.later.now c.args.request c.self.invariant is in
    omega (arith, found.room, part-le inside.job inside.history.now, c.self.invariant.small)

pub invariant_of-self-2 : goal.invariant_of-self-2
invariant_of-self-2 c =
    let inside = c.self.inside in
    let seat : Listed = record { history = inside.history.now; job = inside.job; given = inside.given; others = inside.others.items } in
    let is : IsNext seat c.args.request = subst (λ (p : Listed). IsNext p c.args.request) (sym c.self.view_is) (c.is_next.ensures.0 c.if-not-is_next.false) in
    placed_next seat inside.next inside.later.now c.args.request c.self.invariant is

pub returns-clause-ok : goal.returns-clause-ok
returns-clause-ok c =
    let inside = c.self.inside in
    let seat : Listed = record { history = inside.history.now; job = inside.job; given = inside.given; others = inside.others.items } in
    let is : IsNext seat c.args.request = subst (λ (p : Listed). IsNext p c.args.request) (sym c.self.view_is) (c.is_next.ensures.0 c.if-not-is_next.false) in
    let found = next_entry seat inside.next inside.later.now c.args.request c.self.invariant is in
    let there = get_or_from_slice_get inside.history.now inside.next found.entry c.index-self-self.result found.is in
    rw (← c.self.view_is)
    (refl, heard_next seat inside.next inside.later.now c.args.request c.in_ok-reply.reply found.entry c.self.invariant is found.is (c.in_ok-reply.ensures ∙ ap (λ (e : Entry). e.reply) there))

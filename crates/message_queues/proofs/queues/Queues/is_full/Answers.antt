use Rattle.std.proofs.Common.{position, Some, None, sym, ap, ◌∙◌, arith}
use Rattle.std.specs.Prelude.{nat_le, bytes_eq, unwrap_or}
use Rattle.monitor_model.specs.Queues.{is_named, has_most, is_full, no_receiver}
use Rattle.message_queues.specs.declared.queues.Queue.{Queue}
use Rattle.message_queues.specs.Kept.{shown}
use Rattle.message_queues.proofs.PlaceLemmas.{is_place, first_within, find-first, find-nowhere}
use Rattle.message_queues.proofs.queues.Queues.is_full.Goals as goal

pub index-queue-requires : goal.index-queue-requires
index-queue-requires c =
    let i = c.self.inside in
    let first = is_place (is_named c.args.name.now) i.queues.items (Some c.in-Some.place) (c.in-Some.ensures ∙ ap (position (λ (q : Queue). bytes_eq q.name c.args.name.now)) c.as_slice.ensures.value) in
    omega (arith, first_within (is_named c.args.name.now) i.queues.items c.in-Some.place first, i.queues.ok.0)

pub returns-in-Some : goal.returns-in-Some
returns-in-Some c =
    let i = c.self.inside in
    let q = c.index-queue.result.now in
    let first = is_place (is_named c.args.name.now) i.queues.items (Some c.in-Some.place) (c.in-Some.ensures ∙ ap (position (λ (q : Queue). bytes_eq q.name c.args.name.now)) c.as_slice.ensures.value) in
    let found = find-first (is_named c.args.name.now) i.queues.items c.in-Some.place q first ∙ ap (λ x. Some (shown x)) (sym c.index-queue.ensures) in
    (λ j. nat_le (c.capacity.ensures.capacity j) (c.len.ensures.len j)) ∙ ap (λ o. has_most (unwrap_or o no_receiver)) (sym found) ∙ ap (λ rs. is_full rs c.args.name.now) c.self.view_is

pub returns-in-None : goal.returns-in-None
returns-in-None c =
    let i = c.self.inside in
    let none = find-nowhere (is_named c.args.name.now) i.queues.items (is_place (is_named c.args.name.now) i.queues.items None (c.in-None.ensures ∙ ap (position (λ (q : Queue). bytes_eq q.name c.args.name.now)) c.as_slice.ensures.value)) in
    ap (λ o. has_most (unwrap_or o no_receiver)) (sym none) ∙ ap (λ rs. is_full rs c.args.name.now) c.self.view_is

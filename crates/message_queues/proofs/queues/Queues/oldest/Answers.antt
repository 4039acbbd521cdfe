use Rattle.std.proofs.Common.{position, slice_get, Some, None, sym, ap, ◌∙◌, arith}
use Rattle.std.specs.Prelude.{◌==◌, unwrap_or}
use Rattle.monitor_model.specs.Queues.{is_of, no_receiver, letters_of}
use Rattle.message_queues.specs.declared.queues.Queue.{Queue}
use Rattle.message_queues.specs.Kept.{shown}
use Rattle.message_queues.proofs.PlaceLemmas.{is_place, first_within, find-first, find-nowhere}
use Rattle.message_queues.proofs.queues.Queues.oldest.Goals as goal

pub index-queue-requires : goal.index-queue-requires
index-queue-requires c =
    let i = c.self.inside in
    let first = is_place (is_of c.args.job) i.queues.items (Some c.in-Some.place) (c.in-Some.ensures ∙ ap (position (λ (q : Queue). q.job == c.args.job)) c.as_slice.ensures.value) in
    omega (arith, first_within (is_of c.args.job) i.queues.items c.in-Some.place first, i.queues.ok.0)

pub returns-in-Some : goal.returns-in-Some
returns-in-Some c =
    let i = c.self.inside in
    let q = c.index-queue.result.now in
    let first = is_place (is_of c.args.job) i.queues.items (Some c.in-Some.place) (c.in-Some.ensures ∙ ap (position (λ (q : Queue). q.job == c.args.job)) c.as_slice.ensures.value) in
    let found = find-first (is_of c.args.job) i.queues.items c.in-Some.place q first ∙ ap (λ x. Some (shown x)) (sym c.index-queue.ensures) in
    c.front.ensures ∙ ap (λ o. slice_get (unwrap_or o no_receiver).letters 0) (sym found) ∙ ap (λ rs. slice_get (letters_of rs c.args.job) 0) c.self.view_is

pub returns-in-None : goal.returns-in-None
returns-in-None c =
    let i = c.self.inside in
    let none = find-nowhere (is_of c.args.job) i.queues.items (is_place (is_of c.args.job) i.queues.items None (c.in-None.ensures ∙ ap (position (λ (q : Queue). q.job == c.args.job)) c.as_slice.ensures.value)) in
    ap (λ o. slice_get (unwrap_or o no_receiver).letters 0) (sym none) ∙ ap (λ rs. slice_get (letters_of rs c.args.job) 0) c.self.view_is

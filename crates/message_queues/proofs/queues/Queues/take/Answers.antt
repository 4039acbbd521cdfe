use Rattle.std.proofs.Common.{◌≡◌, ℕ, List, drop, get_or, refl, set, position, slice_get, Some, None, sym, ap, ◌∙◌, subst, arith}
use Rattle.std.specs.Prelude.{◌==◌, unwrap_or}
use Rattle.circular_buffer.specs.Buffer.{buffer}
use Rattle.monitor_model.specs.Queues.{AreQueues, is_of, no_receiver, receiver_of, letters_of, without_oldest, receive}
use Rattle.monitor_model.proofs.QueueLemmas.{queues-receive}
use Rattle.message_queues.specs.declared.queues.Queue.{Queue}
use Rattle.message_queues.specs.Kept.{shown, shown_all}
use Rattle.message_queues.proofs.PlaceLemmas.{IsFirst, is_place, first_within, find-first, find-nowhere, change-first, change-nowhere}
use Rattle.message_queues.proofs.queues.Queues.take.Goals as goal

-- a queue whose oldest letter was taken
popped : (qs : List Queue) (i job : ℕ) (q w : Queue) → IsFirst (is_of job) qs i → q ≡ get_or qs i q → w.name ≡ q.name → w.job ≡ q.job → w.letters ≡ buffer (drop 1 q.letters.items) q.letters.capacity → shown_all (set qs i w) ≡ receive (shown_all qs) job
popped qs i job q w first read name of letters =
    change-first (is_of job) without_oldest qs i q w first
    ((λ j. record { name = name j; job = of j; most = (letters j).capacity; letters = (letters j).items }) ∙ ap (λ x. without_oldest (shown x)) read)

pub index_mut-queue-requires : goal.index_mut-queue-requires
index_mut-queue-requires c =
    let i = c.self.inside in
    let first = is_place (is_of c.args.job) i.queues.items (Some c.in-Some.place) (c.in-Some.ensures ∙ ap (position (λ (q : Queue). q.job == c.args.job)) c.as_slice.ensures.value) in
    omega (arith, first_within (is_of c.args.job) i.queues.items c.in-Some.place first, i.queues.ok.0)

pub invariant_of-self : goal.invariant_of-self
invariant_of-self c =
    let i = c.self.inside in
    let q = c.index_mut-queue.result.now in
    let w : Queue = record { name = q.name; job = q.job; letters = c.pop_front.new.self } in
    let first = is_place (is_of c.args.job) i.queues.items (Some c.in-Some.place) (c.in-Some.ensures ∙ ap (position (λ (q : Queue). q.job == c.args.job)) c.as_slice.ensures.value) in
    subst AreQueues (sym (popped i.queues.items c.in-Some.place c.args.job q w first c.index_mut-queue.ensures.value refl refl c.pop_front.ensures.items)) (queues-receive (shown_all i.queues.items) c.args.job c.self.invariant)

pub returns-in-Some-clause-letter : goal.returns-in-Some-clause-letter
returns-in-Some-clause-letter c =
    let i = c.self.inside in
    let q = c.index_mut-queue.result.now in
    let first = is_place (is_of c.args.job) i.queues.items (Some c.in-Some.place) (c.in-Some.ensures ∙ ap (position (λ (q : Queue). q.job == c.args.job)) c.as_slice.ensures.value) in
    let found = find-first (is_of c.args.job) i.queues.items c.in-Some.place q first ∙ ap (λ x. Some (shown x)) (sym c.index_mut-queue.ensures.value) in
    c.pop_front.ensures.value ∙ ap (λ o. slice_get (unwrap_or o no_receiver).letters 0) (sym found) ∙ ap (λ rs. slice_get (letters_of rs c.args.job) 0) c.self.view_is

pub returns-in-Some-clause-taken : goal.returns-in-Some-clause-taken
returns-in-Some-clause-taken c =
    let i = c.self.inside in
    let q = c.index_mut-queue.result.now in
    let w : Queue = record { name = q.name; job = q.job; letters = c.pop_front.new.self } in
    let first = is_place (is_of c.args.job) i.queues.items (Some c.in-Some.place) (c.in-Some.ensures ∙ ap (position (λ (q : Queue). q.job == c.args.job)) c.as_slice.ensures.value) in
    popped i.queues.items c.in-Some.place c.args.job q w first c.index_mut-queue.ensures.value refl refl c.pop_front.ensures.items ∙ ap (λ rs. receive rs c.args.job) c.self.view_is

pub returns-in-None-clause-letter : goal.returns-in-None-clause-letter
returns-in-None-clause-letter c =
    let i = c.self.inside in
    let none = find-nowhere (is_of c.args.job) i.queues.items (is_place (is_of c.args.job) i.queues.items None (c.in-None.ensures ∙ ap (position (λ (q : Queue). q.job == c.args.job)) c.as_slice.ensures.value)) in
    ap (λ o. slice_get (unwrap_or o no_receiver).letters 0) (sym none) ∙ ap (λ rs. slice_get (letters_of rs c.args.job) 0) c.self.view_is

pub returns-in-None-clause-taken : goal.returns-in-None-clause-taken
returns-in-None-clause-taken c =
    let i = c.self.inside in
    let none = find-nowhere (is_of c.args.job) i.queues.items (is_place (is_of c.args.job) i.queues.items None (c.in-None.ensures ∙ ap (position (λ (q : Queue). q.job == c.args.job)) c.as_slice.ensures.value)) in
    sym (change-nowhere (is_of c.args.job) without_oldest c.args.self.now (ap (λ rs. receiver_of rs c.args.job) (sym c.self.view_is) ∙ none))

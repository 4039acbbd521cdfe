use Rattle.std.proofs.Common.{◌≡◌, ℕ, List, ◌++◌, ◌∷◌, [], length, get_or, refl, set, position, Some, None, sym, ap, ◌∙◌, subst, arith}
use Rattle.std.proofs.lemmas.Bool.{leb-false}
use Rattle.std.specs.Prelude.{bytes_eq, is_some, unwrap_or}
use Rattle.circular_buffer.specs.Buffer.{buffer}
use Rattle.monitor_model.specs.declared.entries.Letter.{Letter}
use Rattle.monitor_model.specs.Queues.{AreQueues, is_named, no_receiver, receiver_at, has_most, is_full, with_letter, send}
use Rattle.monitor_model.proofs.QueueLemmas.{queues-send}
use Rattle.message_queues.specs.declared.queues.Queue.{Queue}
use Rattle.message_queues.specs.Kept.{shown, shown_all}
use Rattle.message_queues.proofs.PlaceLemmas.{IsFirst, is_place, first_within, find-first, find-nowhere, change-first}
use Rattle.message_queues.proofs.queues.Queues.post.Goals as goal

-- a queue that got a letter
pushed : (qs : List Queue) (i : ℕ) (name : List ℕ) (letter : Letter) (q w : Queue) → IsFirst (is_named name) qs i → q ≡ get_or qs i q → w.name ≡ q.name → w.job ≡ q.job → w.letters ≡ buffer (q.letters.items ++ letter ∷ []) q.letters.capacity → shown_all (set qs i w) ≡ send (shown_all qs) name letter
pushed qs i name letter q w first read named of letters =
    change-first (is_named name) (with_letter letter) qs i q w first
    ((λ j. record { name = named j; job = of j; most = (letters j).capacity; letters = (letters j).items }) ∙ ap (λ x. with_letter letter (shown x)) read)

pub index_mut-queue-requires : goal.index_mut-queue-requires
index_mut-queue-requires c =
    let i = c.self.inside in
    let first = is_place (is_named c.args.name.now) i.queues.items (Some c.in-Some.place) (c.in-Some.ensures ∙ ap (position (λ (q : Queue). bytes_eq q.name c.args.name.now)) c.as_slice.ensures.value) in
    omega (arith, first_within (is_named c.args.name.now) i.queues.items c.in-Some.place first, i.queues.ok.0)

pub push-requires : goal.push-requires
push-requires c =
    let i = c.self.inside in
    let q = c.index_mut-queue.result.now in
    let first = is_place (is_named c.args.name.now) i.queues.items (Some c.in-Some.place) (c.in-Some.ensures ∙ ap (position (λ (q : Queue). bytes_eq q.name c.args.name.now)) c.as_slice.ensures.value) in
    let found = find-first (is_named c.args.name.now) i.queues.items c.in-Some.place q first ∙ ap (λ x. Some (shown x)) (sym c.index_mut-queue.ensures.value) in
    leb-false q.letters.capacity (length q.letters.items) (ap (λ o. has_most (unwrap_or o no_receiver)) (sym found) ∙ ap (λ rs. is_full rs c.args.name.now) c.self.view_is ∙ c.requires.room)

pub invariant_of-self : goal.invariant_of-self
invariant_of-self c =
    let i = c.self.inside in
    let q = c.index_mut-queue.result.now in
    let w : Queue = record { name = q.name; job = q.job; letters = c.push.new.letters } in
    let first = is_place (is_named c.args.name.now) i.queues.items (Some c.in-Some.place) (c.in-Some.ensures ∙ ap (position (λ (q : Queue). bytes_eq q.name c.args.name.now)) c.as_slice.ensures.value) in
    subst AreQueues (sym (pushed i.queues.items c.in-Some.place c.args.name.now c.args.message q w first c.index_mut-queue.ensures.value refl refl c.push.ensures)) (queues-send (shown_all i.queues.items) c.args.name.now c.args.message c.self.invariant (ap (λ rs. is_full rs c.args.name.now) c.self.view_is ∙ c.requires.room))

pub returns-in-Some : goal.returns-in-Some
returns-in-Some c =
    let i = c.self.inside in
    let q = c.index_mut-queue.result.now in
    let w : Queue = record { name = q.name; job = q.job; letters = c.push.new.letters } in
    let first = is_place (is_named c.args.name.now) i.queues.items (Some c.in-Some.place) (c.in-Some.ensures ∙ ap (position (λ (q : Queue). bytes_eq q.name c.args.name.now)) c.as_slice.ensures.value) in
    pushed i.queues.items c.in-Some.place c.args.name.now c.args.message q w first c.index_mut-queue.ensures.value refl refl c.push.ensures ∙ ap (λ rs. send rs c.args.name.now c.args.message) c.self.view_is

pub returns-in_default : goal.returns-in_default
returns-in_default c =
    let i = c.self.inside in
    let none = find-nowhere (is_named c.args.name.now) i.queues.items (is_place (is_named c.args.name.now) i.queues.items None (c.in_default.ensures ∙ ap (position (λ (q : Queue). bytes_eq q.name c.args.name.now)) c.as_slice.ensures.value)) in
    absurd (let clash = ap is_some (sym none ∙ ap (λ rs. receiver_at rs c.args.name.now) c.self.view_is) ∙ c.requires.there in cc)

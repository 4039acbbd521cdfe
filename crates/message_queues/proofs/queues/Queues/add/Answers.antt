use Rattle.std.proofs.Common.{◌≡◌, [], ◌∷◌, ◌++◌, sym, ap, ◌∙◌, subst}
use Rattle.std.specs.Prelude.{◌||◌}
use Rattle.std.proofs.lemmas.List.{map-append}
use Rattle.circular_buffer.specs.Buffer.{Buffer}
use Rattle.monitor_model.specs.declared.entries.Letter.{Letter}
use Rattle.monitor_model.specs.Queues.{Receiver, AreQueues, is_receiver, has_receiver, declare}
use Rattle.monitor_model.proofs.QueueLemmas.{queues-declare}
use Rattle.message_queues.specs.declared.queues.Queue.{Queue}
use Rattle.message_queues.specs.Kept.{shown, shown_all}
use Rattle.message_queues.proofs.queues.Queues.add.Goals as goal

pub invariant_of-self-2 : goal.invariant_of-self-2
invariant_of-self-2 c =
    let i = c.self.inside in
    let w : Queue = record { name = c.args.name; job = c.args.job; letters = c.in_ok-letters.letters } in
    let shown_is : shown w ≡ record { name = c.args.name; job = c.args.job; most = c.args.most; letters = [] } = ap (λ (b : Buffer Letter). record { name = c.args.name; job = c.args.job; most = b.capacity; letters = b.items }) c.in_ok-letters.ensures in
    let all : shown_all c.push.new.self.items ≡ declare (shown_all i.queues.items) c.args.job c.args.name c.args.most = ap shown_all c.in_ok-push.ensures.items ∙ map-append shown i.queues.items (w ∷ []) ∙ ap (λ (r : Receiver). shown_all i.queues.items ++ r ∷ []) shown_is in
    let free = ap (λ rs. is_receiver rs c.args.name || has_receiver rs c.args.job) c.self.view_is ∙ c.requires.free in
    subst AreQueues (sym all) (queues-declare (shown_all i.queues.items) c.args.job c.args.name c.args.most c.self.invariant c.requires.least c.requires.most free)

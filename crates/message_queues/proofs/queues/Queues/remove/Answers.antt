use Rattle.std.proofs.Common.{sym, ap, ◌∙◌, subst}
use Rattle.monitor_model.specs.Queues.{AreQueues, drop_receiver}
use Rattle.monitor_model.proofs.QueueLemmas.{queues-drop_receiver}
use Rattle.message_queues.specs.Kept.{shown_all}
use Rattle.message_queues.proofs.PlaceLemmas.{filter-shown}
use Rattle.message_queues.proofs.queues.Queues.remove.Goals as goal

pub invariant_of-self : goal.invariant_of-self
invariant_of-self c =
    let i = c.self.inside in
    subst AreQueues (sym (ap shown_all c.drop_of.ensures ∙ filter-shown i.queues.items c.args.job)) (queues-drop_receiver (shown_all i.queues.items) c.args.job c.self.invariant)

pub returns : goal.returns
returns c =
    ap shown_all c.drop_of.ensures ∙ filter-shown c.self.inside.queues.items c.args.job ∙ ap (λ rs. drop_receiver rs c.args.job) c.self.view_is

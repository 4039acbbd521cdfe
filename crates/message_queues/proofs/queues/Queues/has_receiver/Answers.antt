use Rattle.std.proofs.Common.{position, ap, ◌∙◌}
use Rattle.std.specs.Prelude.{◌==◌}
use Rattle.monitor_model.specs.Queues.{is_of, has_receiver}
use Rattle.message_queues.specs.declared.queues.Queue.{Queue}
use Rattle.message_queues.proofs.PlaceLemmas.{is_place, is_some-place}
use Rattle.message_queues.proofs.queues.Queues.has_receiver.Goals as goal

pub returns : goal.returns
returns c =
    let i = c.self.inside in
    c.is_some.ensures ∙ is_some-place (is_of c.args.job) i.queues.items c.place_of.result (is_place (is_of c.args.job) i.queues.items c.place_of.result (c.place_of.ensures ∙ ap (position (λ (q : Queue). q.job == c.args.job)) c.as_slice.ensures.value)) ∙ ap (λ rs. has_receiver rs c.args.job) c.self.view_is

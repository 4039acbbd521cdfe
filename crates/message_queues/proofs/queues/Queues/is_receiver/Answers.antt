use Rattle.std.proofs.Common.{position, ap, ◌∙◌}
use Rattle.std.specs.Prelude.{bytes_eq}
use Rattle.monitor_model.specs.Queues.{is_named, is_receiver}
use Rattle.message_queues.specs.declared.queues.Queue.{Queue}
use Rattle.message_queues.proofs.PlaceLemmas.{is_place, is_some-place}
use Rattle.message_queues.proofs.queues.Queues.is_receiver.Goals as goal

pub returns : goal.returns
returns c =
    let i = c.self.inside in
    c.is_some.ensures ∙ is_some-place (is_named c.args.name.now) i.queues.items c.place_at.result (is_place (is_named c.args.name.now) i.queues.items c.place_at.result (c.place_at.ensures ∙ ap (position (λ (q : Queue). bytes_eq q.name c.args.name.now)) c.as_slice.ensures.value)) ∙ ap (λ rs. is_receiver rs c.args.name.now) c.self.view_is

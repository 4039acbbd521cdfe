use Rattle.std.proofs.Common.{ap, sym, ◌∙◌}
use Rattle.job_model.proofs.Follows.{follows_from, follows_is}
use Rattle.channels.specs.declared.states.ChannelState.{ChannelState}
use Rattle.channels.specs.declared.states.Waiting.TheVariants.{Nothing, Bytes, Window}
use Rattle.channels.specs.Seen.{files}
use Rattle.channels.proofs.Beside.{settles_by}
use Rattle.channels.proofs.channels.Channels.settle.Goals as goal

pub returns-in-Nothing-clause-follows : goal.returns-in-Nothing-clause-follows
returns-in-Nothing-clause-follows g c clock =
    follows_is (settles_by c.args.channel Nothing (files c.args.self.now c.args.buffers.now) (ap (λ (s : ChannelState). s.waiting) (sym c.state.ensures) ∙ c.in-Nothing.is))

pub returns-in-Bytes-clause-follows : goal.returns-in-Bytes-clause-follows
returns-in-Bytes-clause-follows g c clock =
    follows_from (settles_by c.args.channel (Bytes c.in-Bytes.count) (files c.args.self.now c.args.buffers.now) (ap (λ (s : ChannelState). s.waiting) (sym c.state.ensures) ∙ c.in-Bytes.is)) (c.store_gathered.ensures.follows clock)

pub returns-then-dirty-clause-follows : goal.returns-then-dirty-clause-follows
returns-then-dirty-clause-follows g c clock =
    follows_from (settles_by c.args.channel _ (files c.args.self.now c.args.buffers.now) (ap (λ (s : ChannelState). s.waiting) (sym c.state.ensures) ∙ c.in-Window.is ∙ ap (Window c.in-Window.block) c.if-dirty.true)) (c.store_window.ensures.follows clock)

pub returns-else-dirty-clause-follows : goal.returns-else-dirty-clause-follows
returns-else-dirty-clause-follows g c clock =
    follows_is (settles_by c.args.channel _ (files c.args.self.now c.args.buffers.now) (ap (λ (s : ChannelState). s.waiting) (sym c.state.ensures) ∙ c.in-Window.is ∙ ap (Window c.in-Window.block) c.if-dirty.false))

use Rattle.std.proofs.Common.{ap, sym, ◌∙◌}
use Rattle.job_model.proofs.Follows.{follows_is}
use Rattle.channels.specs.declared.states.ChannelState.{ChannelState}
use Rattle.channels.proofs.Calls.{follows_true, if_false}
use Rattle.channels.proofs.channels.Channels.shut_file.Goals as goal

pub returns-then-state : goal.returns-then-state
returns-then-state g c clock =
    follows_true _ _ (ap (λ (s : ChannelState). s.open_now) (sym c.state.ensures) ∙ c.if-state.true) (c.shut_on.ensures clock)

pub returns-else-state : goal.returns-else-state
returns-else-state g c clock =
    follows_is (if_false _ _ (ap (λ (s : ChannelState). s.open_now) (sym c.state.ensures) ∙ c.if-state.false))

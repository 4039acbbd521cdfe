use Rattle.std.proofs.Common.{ap, sym, ◌∙◌}
use Rattle.job_model.proofs.Follows.{follows_is}
use Rattle.channels.specs.Waiting.{is_state_due}
use Rattle.channels.proofs.Calls.{follows_true, if_false}
use Rattle.channels.proofs.channels.Channels.settle_due.Goals as goal

pub returns-then-is_due-clause-follows : goal.returns-then-is_due-clause-follows
returns-then-is_due-clause-follows g c clock =
    follows_true _ _ (ap is_state_due (sym c.state.ensures) ∙ sym c.is_due.ensures ∙ c.if-is_due.true) (c.settle.ensures.follows clock)

pub returns-else-is_due-clause-follows : goal.returns-else-is_due-clause-follows
returns-else-is_due-clause-follows g c clock =
    follows_is (if_false _ _ (ap is_state_due (sym c.state.ensures) ∙ sym c.is_due.ensures ∙ c.if-is_due.false))

use Rattle.std.proofs.Common.{[], ap, sym, ◌∙◌}
use Rattle.job_model.specs.Act.{Gives}
use Rattle.job_model.proofs.Follows.{follows_is}
use Rattle.channels.specs.declared.states.ChannelState.{ChannelState}
use Rattle.channels.specs.Files.{Files}
use Rattle.channels.specs.Windows.{is_window}
use Rattle.channels.specs.Seen.{files}
use Rattle.channels.proofs.Beside.{told_beside}
use Rattle.channels.proofs.Calls.{follows_false, if_true}
use Rattle.channels.proofs.Ended.{use_beside}
use Rattle.channels.proofs.channels.Channels.window.Goals as goal

pub returns-then-is_window : goal.returns-then-is_window
returns-then-is_window g c clock =
    let buffers = c.args.buffers.now in
    follows_is (if_true _ _ (ap (λ (s : ChannelState). is_window c.args.block s.waiting) (sym c.state.ensures) ∙ sym c.is_window.ensures ∙ c.if-is_window.true)
    ∙ ap (λ (f : Files). Gives tt f) (sym (told_beside buffers c.note_use.ensures ∙ use_beside buffers c.args.channel c.args.block c.args.writing (files c.args.self.now []))))

pub returns : goal.returns
returns g c clock =
    follows_false _ _ (ap (λ (s : ChannelState). is_window c.args.block s.waiting) (sym c.state.ensures) ∙ sym c.is_window.ensures ∙ c.if-is_window.false) (c.change_window.ensures clock)

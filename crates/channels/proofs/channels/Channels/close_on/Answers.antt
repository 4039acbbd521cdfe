use Rattle.std.proofs.Common.{ℕ, Option, refl, sym}
use Rattle.job_model.specs.Act.{◌then◌}
use Rattle.job_model.proofs.Follows.{follows_with, broken}
use Rattle.channels.specs.Files.{Files, FilesAct}
use Rattle.channels.specs.Transfers.{asks_close}
use Rattle.channels.specs.Openings.{tells_closed}
use Rattle.channels.specs.Seen.{files}
use Rattle.channels.proofs.Calls.{follows_changed}
use Rattle.channels.proofs.channels.Channels.close_on.Goals as goal

abbrev next : ℕ → Unit {0} → Files → FilesAct (Option ℕ)
next c u files = asks_close c files then λ _. tells_closed c

pub returns-in_err-settle : goal.returns-in_err-settle
returns-in_err-settle g c clock =
    broken c.in_err-settle.field-0.0 c.from_residual.result (files c.settle.new.self c.args.buffers.now) (next c.args.channel) c.from_residual.ensures.1 (c.in_err-settle.ensures.follows clock)

pub returns-in_err-ask_close : goal.returns-in_err-ask_close
returns-in_err-ask_close g c clock =
    let settled = files c.settle.new.self c.args.buffers.now in
    follows_with (next c.args.channel) (c.in_ok-settle.ensures.follows clock)
    (broken c.in_err-ask_close.field-0.0 c.from_residual-in_err-ask_close.result settled (λ _. tells_closed c.args.channel) c.from_residual-in_err-ask_close.ensures.1 (c.in_err-ask_close.ensures clock settled))

pub returns : goal.returns
returns g c clock =
    let settled = files c.settle.new.self c.args.buffers.now in
    follows_with (next c.args.channel) (c.in_ok-settle.ensures.follows clock)
    (follows_changed (λ _. tells_closed c.args.channel) (c.in_ok-ask_close.ensures clock settled) refl (sym c.note_closed.ensures))

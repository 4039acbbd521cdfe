use Rattle.std.proofs.Common.{ap}
use Rattle.job_model.proofs.Follows.{follows_from}
use Rattle.program_files.specs.Channels.{closes}
use Rattle.program_files.proofs.channels.close.Goals as goal

pub returns-in-Channel : goal.returns-in-Channel
returns-in-Channel g c clock = follows_from (ap closes c.in-Channel.is) (c.ask_done.ensures.follows clock)

pub returns-in-Printer : goal.returns-in-Printer
returns-in-Printer g c clock = follows_from (ap closes c.in-Printer.is) (c.ask_done-in-Printer.ensures.follows clock)

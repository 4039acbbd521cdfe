use Rattle.job_model.proofs.Follows.{follows_with, broken}
use Rattle.program_files.specs.declared.channels.Opened.TheVariants.{Channel}
use Rattle.program_files.specs.Channels.{closed_behind}
use Rattle.program_files.specs.Programs.{puts_from}
use Rattle.program_files.proofs.programs.write_pages.Goals as goal

pub returns-in_err-open : goal.returns-in_err-open
returns-in_err-open g c clock =
    broken c.in_err-open.field-0.0 c.from_residual.result tt (λ _ _. closed_behind Channel (puts_from 1 c.args.pages.items)) c.from_residual.ensures.1 (c.in_err-open.ensures clock)

pub returns : goal.returns
returns g c clock =
    follows_with (λ _ _. closed_behind Channel (puts_from 1 c.args.pages.items)) (c.in_ok-open.ensures clock)
    (c.close_behind.ensures c.open.new.port clock (puts_from 1 c.args.pages.items) (c.put_pages-written.ensures clock))

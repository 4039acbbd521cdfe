use Rattle.job_model.proofs.Follows.{follows_with, broken}
use Rattle.program_files.specs.Listings.{prints}
use Rattle.program_files.proofs.listings.print_block.Goals as goal

pub returns-in_err-page : goal.returns-in_err-page
returns-in_err-page g c clock = broken c.in_err-page.field-0.0 c.from_residual.result tt (λ page _. prints page) c.from_residual.ensures.1 (c.in_err-page.ensures clock)

pub returns : goal.returns
returns g c clock = follows_with (λ page _. prints page) (c.in_ok-page.ensures clock) (c.print.ensures clock)

use Rattle.job_model.proofs.Follows.{follows_with, broken}
use Rattle.program_files.specs.declared.channels.Opened.TheVariants.{Channel}
use Rattle.program_files.specs.Channels.{closed_behind}
use Rattle.program_files.specs.Listings.{prints_blocks}
use Rattle.program_files.proofs.listings.print_file.Goals as goal

pub returns-in_err-blocks : goal.returns-in_err-blocks
returns-in_err-blocks g c clock =
    broken c.in_err-blocks.field-0.0 c.from_residual.result tt (λ blocks _. closed_behind Channel (prints_blocks blocks)) c.from_residual.ensures.1 (c.in_err-blocks.ensures clock)

pub returns : goal.returns
returns g c clock =
    follows_with (λ blocks _. closed_behind Channel (prints_blocks blocks)) (c.in_ok-blocks.ensures clock)
    (c.close_behind.ensures c.open.new.port clock (prints_blocks c.in_ok-blocks.blocks) (c.print_listing-printed.ensures clock))

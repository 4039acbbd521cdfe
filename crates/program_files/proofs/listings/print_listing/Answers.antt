use Rattle.job_model.proofs.Follows.{follows_with, broken}
use Rattle.program_files.specs.declared.channels.Opened.TheVariants.{Printer}
use Rattle.program_files.specs.Channels.{closed_behind}
use Rattle.program_files.specs.Listings.{prints_from}
use Rattle.program_files.proofs.listings.print_listing.Goals as goal

pub returns-in_err-begin_listing : goal.returns-in_err-begin_listing
returns-in_err-begin_listing g c clock =
    broken c.in_err-begin_listing.field-0.0 c.from_residual.result tt (λ _ _. closed_behind Printer (prints_from 1 c.args.blocks)) c.from_residual.ensures.1 (c.in_err-begin_listing.ensures clock)

pub returns : goal.returns
returns g c clock =
    follows_with (λ _ _. closed_behind Printer (prints_from 1 c.args.blocks)) (c.in_ok-begin_listing.ensures clock)
    (c.close_behind.ensures c.begin_listing.new.port clock (prints_from 1 c.args.blocks) (c.print_blocks-printed.ensures clock))

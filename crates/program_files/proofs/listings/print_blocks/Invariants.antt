use Rattle.std.proofs.Common.{◌+◌, ◌-◌}
use Rattle.std.specs.Prelude.{Some}
use Rattle.job_model.specs.Play.{Clock}
use Rattle.job_model.specs.Follow.{Follows}
use Rattle.program_files.specs.Listings.{prints_from}
use Rattle.program_files.proofs.listings.print_blocks.Given as goal

abbrev pub invariant-loop-index : goal.invariant-loop-index
invariant-loop-index g l =
    (clock : Clock) → Follows g.P.Port.who g.P.Port.log l.fn.port l.port clock clock (prints_from 1 l.blocks) (Some (prints_from (l.index + 1) (l.blocks - l.index)))

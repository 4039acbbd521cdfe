use Rattle.std.proofs.Common.{◌-◌}
use Rattle.std.specs.Prelude.{Some}
use Rattle.job_model.specs.Play.{Clock}
use Rattle.job_model.specs.Follow.{Follows}
use Rattle.program_files.specs.Catalogs.{catalog_from}
use Rattle.program_files.proofs.catalogs.show_catalog.Given as goal

abbrev pub invariant-loop-index : goal.invariant-loop-index
invariant-loop-index g l =
    (clock : Clock) → Follows g.P.Port.who g.P.Port.log l.fn.port l.port clock clock (catalog_from l.owner 0 512 l.fn.screen) (Some (catalog_from l.owner l.index (512 - l.index) l.screen))

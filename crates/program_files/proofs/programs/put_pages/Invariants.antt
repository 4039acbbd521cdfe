use Rattle.std.proofs.Common.{◌≡◌, ◌≤◌, length}
use Rattle.std.specs.Prelude.{Some}
use Rattle.std.specs.Vec.Iter.{into_iter_items, into_iter_len}
use Rattle.job_model.specs.Play.{Clock}
use Rattle.job_model.specs.Follow.{Follows}
use Rattle.program_files.specs.Programs.{puts_from}
use Rattle.program_files.proofs.programs.put_pages.Given as goal

abbrev pub invariant-loop-page : goal.invariant-loop-page
invariant-loop-page g l = record {
  placed : l.block ≤ 16385;
  counted : into_iter_len l.page-iterator ≡ length (into_iter_items l.page-iterator);
  follows : (clock : Clock) → Follows g.P.Port.who g.P.Port.log l.fn.port l.port clock clock (puts_from 1 l.fn.pages.items) (Some (puts_from l.block (into_iter_items l.page-iterator)));
}

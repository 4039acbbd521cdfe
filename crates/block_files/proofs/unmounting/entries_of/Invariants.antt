use Rattle.std.proofs.Common.{◌≡◌, ◌++◌, drop}
use Rattle.block_files.specs.Disks.{times, total}
use Rattle.block_files.specs.Rows.{rows}
use Rattle.block_files.specs.Slots.{entries_in, AreTakenOnce}
use Rattle.block_files.proofs.unmounting.entries_of.Given as goal

-- the first files were moved, and the slots have the pages of the others
abbrev pub invariant-loop-place : goal.invariant-loop-place
invariant-loop-place l = record {
  told : l.entries.items ++ entries_in l.slots (drop l.place l.files.entries) ≡ entries_in l.initial.slots l.files.entries;
  left : AreTakenOnce l.slots (λ p. total (times p) (rows (drop l.place l.files.entries)));
}

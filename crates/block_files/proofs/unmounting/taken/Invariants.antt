use Rattle.std.proofs.Common.{◌≡◌, ◌≤◌, ℕ, None, get_or, length, map, take}
use Rattle.std.specs.Prelude.{vec_capacity}
use Rattle.block_files.specs.Disks.{times}
use Rattle.block_files.specs.Slots.{page_in}
use Rattle.block_files.proofs.unmounting.taken.Given as goal

-- the pages at the first places were taken, and no others
abbrev pub invariant-loop-place : goal.invariant-loop-place
invariant-loop-place l = record {
  pages : l.pages.items ≡ map (page_in l.initial.slots) (take l.place-index l.places);
  others : (p : ℕ) → times p (take l.place-index l.places) ≡ 0 → get_or l.slots p None ≡ get_or l.initial.slots p None;
  room : length l.places ≤ vec_capacity l.pages;
}

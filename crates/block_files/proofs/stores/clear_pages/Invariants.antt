use Rattle.std.proofs.Common.{◌≡◌, length, drop}
use Rattle.block_files.specs.Rows.{cleared}
use Rattle.block_files.proofs.stores.clear_pages.Given as goal

abbrev pub invariant-loop-place : goal.invariant-loop-place
invariant-loop-place l = record {
  rest : cleared l.pages (drop l.place-index l.places) ≡ cleared l.initial.pages l.places;
  same : length l.pages ≡ length l.initial.pages;
}

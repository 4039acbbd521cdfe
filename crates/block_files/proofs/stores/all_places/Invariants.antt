use Rattle.std.proofs.Common.{◌≡◌, ◌≤◌}
use Rattle.std.specs.Prelude.{vec_len, vec_capacity}
use Rattle.block_files.specs.Rows.{first_places}
use Rattle.block_files.proofs.stores.all_places.Given as goal

abbrev pub invariant-loop-place : goal.invariant-loop-place
invariant-loop-place l = record {
  places : l.places.items ≡ first_places l.place;
  len : vec_len l.places ≡ l.place;
  room : l.blocks ≤ vec_capacity l.places;
}

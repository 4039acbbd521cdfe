use Rattle.std.proofs.Common.{◌≡◌, drop}
use Rattle.block_files.specs.Rows.{nth_name}
use Rattle.block_files.proofs.stores.Store.nth.Given as goal

abbrev pub invariant-loop-place : goal.invariant-loop-place
invariant-loop-place l = nth_name (drop l.place l.self-inside.files.entries) l.owner l.left ≡ nth_name l.self-inside.files.entries l.owner l.index

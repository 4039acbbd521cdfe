use Rattle.std.proofs.Common.{◌≤◌}
use Rattle.std.specs.Prelude.{vec_capacity}
use Rattle.block_interlock.specs.Index.{AddsAll}
use Rattle.block_interlock.proofs.RunLemmas.{first}
use Rattle.block_interlock.proofs.index.add_all.Given as goal

abbrev pub invariant-loop-place : goal.invariant-loop-place
invariant-loop-place l = record {
  adds : AddsAll (first l.run l.place) l.job l.channel l.initial.index.items l.index.items;
  room : vec_capacity l.initial.index ≤ vec_capacity l.index;
}

use Rattle.std.proofs.Common.{◌≡◌, ℕ, map, drop, get_or, None}
use Rattle.std.specs.Prelude.{◌==◌, find, option_map}
use Rattle.loop_pairs.specs.Pairs.{pair_seen}
use Rattle.loop_pairs.proofs.tables.fors_in.Given as goal

abbrev pub invariant-loop-place : goal.invariant-loop-place
invariant-loop-place l = (m : ℕ) → get_or l.fors.items m None ≡ option_map (λ pair. pair.opening) (find (λ pair. pair.closing == m) (map pair_seen (drop l.place l.pairs)))

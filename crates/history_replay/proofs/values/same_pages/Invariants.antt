use Rattle.std.proofs.Common.{◌≡◌, ℕ, ◌<◌, List, get_or}
use Rattle.history_replay.proofs.values.same_pages.Given as goal

-- the pages so far are the same
abbrev pub invariant-loop-place : goal.invariant-loop-place
invariant-loop-place l = (k : ℕ) (other : List ℕ) → k < l.place → get_or l.a k other ≡ get_or l.b k other

use Rattle.history_replay.specs.Lists.{IsIndex}
use Rattle.history_replay.proofs.index.index_of.Given as goal

-- the index of the entries from here on
abbrev pub invariant-loop-place : goal.invariant-loop-place
invariant-loop-place l = IsIndex l.place l.jobs l.history l.first.items l.later.items

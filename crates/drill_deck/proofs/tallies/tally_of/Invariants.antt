use Rattle.std.proofs.Common.{◌≡◌, ◌+◌, ◌≤◌, drop, length}
use Rattle.drill_deck.specs.Tallies.{pages_put, last_counter, puts_in, sum_in}
use Rattle.drill_deck.proofs.tallies.tally_of.Given as goal

abbrev pub invariant-loop-entry : goal.invariant-loop-entry
invariant-loop-entry l = record {
  puts : l.puts + length (pages_put (drop l.entry-index l.history)) ≡ puts_in l.history;
  sum : last_counter l.sum (pages_put (drop l.entry-index l.history)) ≡ sum_in l.history;
  few : l.puts ≤ l.entry-index;
}

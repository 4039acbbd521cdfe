use Rattle.std.proofs.Common.{◌≡◌, ◌+◌, ◌≤◌, length, drop}
use Rattle.monitor_model.specs.Listings.{listings}
use Rattle.print_spool.proofs.listings.count_listings.Given as goal

abbrev pub invariant-loop-entry : goal.invariant-loop-entry
invariant-loop-entry l = record {
  few : l.count ≤ l.entry-index;
  all : l.count + length (listings (drop l.entry-index l.history)) ≡ length (listings l.history);
}

use Rattle.std.proofs.Common.{◌≡◌, ◌++◌, drop}
use Rattle.monitor_model.specs.Listings.{listings}
use Rattle.print_spool.specs.Printed.{listing_texts}
use Rattle.print_spool.proofs.listings.push_listings.Given as goal

abbrev pub invariant-loop-place : goal.invariant-loop-place
invariant-loop-place l =
    l.out.items ++ listing_texts l.names (listings (drop l.place l.history))
    ≡ l.initial.out.items ++ listing_texts l.names (listings l.history)

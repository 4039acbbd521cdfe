use Rattle.std.proofs.Common.{◌≡◌, ◌++◌, drop}
use Rattle.monitor_model.specs.Listings.{listing}
use Rattle.print_spool.proofs.listings.push_printed.Given as goal

abbrev pub invariant-loop-entry : goal.invariant-loop-entry
invariant-loop-entry l =
    l.out.items ++ listing l.job (drop l.entry-index l.later)
    ≡ l.initial.out.items ++ listing l.job l.later

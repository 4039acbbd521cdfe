use Rattle.std.proofs.Common.{◌≡◌, replicate}
use Rattle.monitor_calls.specs.Pages.{zeros}
use Rattle.block_files.proofs.stores.zero_pages.Given as goal

abbrev pub invariant-loop : goal.invariant-loop
invariant-loop l = l.pages.items ≡ replicate l.counter zeros

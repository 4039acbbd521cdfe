use Rattle.std.proofs.Common.{◌≡◌, ◌++◌, drop}
use Rattle.channels.specs.Transfers.{joined}
use Rattle.channels.proofs.transfers.joined.Given as goal

abbrev pub invariant-loop-page : goal.invariant-loop-page
invariant-loop-page l = joined l.pages ≡ l.bytes.items ++ joined (drop l.page-index l.pages)

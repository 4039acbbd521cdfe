use Rattle.std.proofs.Common.{◌≡◌, ◌++◌, ◌-◌}
use Rattle.channels.specs.Transfers.{pages_from}
use Rattle.channels.proofs.transfers.pages_from.Given as goal

abbrev pub invariant-loop-made : goal.invariant-loop-made
invariant-loop-made l = pages_from l.count l.fn.bytes ≡ l.pages.items ++ pages_from (l.count - l.made) l.rest

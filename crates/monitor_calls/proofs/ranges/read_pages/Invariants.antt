use Rattle.std.proofs.Common.{take}
use Rattle.std.specs.List.{AllByRecursion}
use Rattle.monitor_calls.specs.Proper.{IsPage}
use Rattle.monitor_calls.proofs.ranges.read_pages.Given as goal

-- the first pages were read
abbrev pub invariant-loop-page : goal.invariant-loop-page
invariant-loop-page l = AllByRecursion IsPage (take l.page-index l.pages)

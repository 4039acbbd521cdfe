use Rattle.std.proofs.Common.{◌≡◌, take}
use Rattle.monitor_calls.proofs.rooms.copies_of.Given as goal

-- the first pages are copied
abbrev pub invariant-loop-page : goal.invariant-loop-page
invariant-loop-page l = l.copies.items ≡ take l.page-index l.pages

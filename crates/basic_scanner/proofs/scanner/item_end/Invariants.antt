use Rattle.std.proofs.Common.{◌≡◌, ◌-◌, [], take, drop, None}
use Rattle.basic_tree.specs.Tokens.{items_from}
use Rattle.basic_scanner.proofs.scanner.item_end.Given as goal

abbrev pub invariant-loop-place : goal.invariant-loop-place
invariant-loop-place l =
    items_from l.start [] None (drop l.start l.line) ≡ items_from l.start (take (l.place - l.start) (drop l.start l.line)) l.quote (drop l.place l.line)

use Rattle.std.proofs.Common.{◌≡◌, ◌++◌, drop}
use Rattle.code_places.specs.Sums.{line_places_from}
use Rattle.code_places.proofs.placement.line_places_in.Given as goal

-- those so far and those to come are all
abbrev pub invariant-loop-text : goal.invariant-loop-text
invariant-loop-text l = l.lines.items ++ line_places_from l.places l.first (drop l.text-index l.texts) ≡ line_places_from l.places 0 l.texts

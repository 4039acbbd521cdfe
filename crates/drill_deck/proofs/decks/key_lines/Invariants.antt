use Rattle.std.proofs.Common.{◌≡◌, true, take, drop, map, length}
use Rattle.std.specs.Prelude.{nat_le}
use Rattle.std.specs.List.{list_all}
use Rattle.drill_deck.proofs.decks.key_lines.Given as goal

abbrev pub invariant-loop-line : goal.invariant-loop-line
invariant-loop-line l = record {
  kept : l.keys.items ≡ map (λ line. line.now) (take l.line-index l.lines);
  short : list_all (λ line. nat_le (length line.now) 255) (drop l.line-index l.lines) ≡ true;
}

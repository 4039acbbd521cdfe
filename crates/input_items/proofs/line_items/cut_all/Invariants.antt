use Rattle.std.proofs.Common.{◌-◌, ◌≤◌, take, drop}
use Rattle.input_items.proofs.LineItems.{Cut}
use Rattle.input_items.proofs.line_items.cut_all.Given as goal

abbrev pub invariant-loop-place : goal.invariant-loop-place
invariant-loop-place l = record {
  within : l.start ≤ l.place;
  cut : Cut l.items.items (take (l.place - l.start) (drop l.start l.line)) l.quote l.start (drop l.place l.line) l.line;
}

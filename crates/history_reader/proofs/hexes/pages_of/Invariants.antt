use Rattle.std.proofs.Common.{◌≡◌, ◌≤◌, ◌-◌, ◌++◌, length}
use Rattle.std.specs.Prelude.{◌*◌}
use Rattle.deck_model.specs.Files.{pages_of}
use Rattle.history_reader.proofs.hexes.pages_of.Given as goal

abbrev pub invariant-loop : goal.invariant-loop
invariant-loop l = record {
  taken : l.pages.items ++ pages_of (l.count - l.counter) l.left ≡ pages_of l.count l.bytes;
  left : 512 * (l.count - l.counter) ≤ length l.left;
}

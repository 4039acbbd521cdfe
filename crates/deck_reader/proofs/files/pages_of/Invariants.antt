use Rattle.std.proofs.Common.{◌≡◌, ◌-◌, ◌++◌, length}
use Rattle.std.specs.Prelude.{◌*◌}
use Rattle.deck_model.specs.Files.{pages_of}
use Rattle.deck_reader.proofs.files.pages_of.Given as goal

abbrev pub invariant-loop : goal.invariant-loop
invariant-loop l = record {
  taken : l.pages.items ++ pages_of (l.blocks - l.counter) l.left ≡ pages_of l.blocks l.bytes;
  left : length l.left ≡ 512 * (l.blocks - l.counter);
}

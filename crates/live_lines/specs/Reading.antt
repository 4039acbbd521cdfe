-- Reading a source in lines, and no further than needed.
use Rattle.std.specs.Prelude.{◌≡◌, ℕ, ◌+◌, ◌<◌, List, ◌++◌, length, Some, None}
use Rattle.basic_values.specs.Cuts.{cut}
use Rattle.rsts_io.specs.Ends.{SourceState, Rose, AreNext, IsAtEnd}
use Rattle.live_lines.specs.declared.reader.NextLine.{NextLine}
use Rattle.live_lines.specs.declared.reader.NextLine.TheVariants as next

-- these bytes were taken from the source, and come after those that were left
pub record TakenFrom (old new : SourceState) (left all : List ℕ) : Type 0 where
  pub fresh : List ℕ
  pub all_are : all ≡ left ++ fresh
  pub next : AreNext fresh old.left new.left
  pub count : new.taken ≡ old.taken + length fresh

-- what is said of the bytes that were there, and of those that are left
abbrev pub Gives : NextLine → ℕ → List ℕ → List ℕ → SourceState → SourceState → Type 0
Gives (next.Line line) limit all left old new =
    (cut 10 all ≡ Some (line.items, left)) × (new.faults ≡ old.faults)
Gives next.End limit all left old new =
    (cut 10 all ≡ None) × (left ≡ all) × IsAtEnd new.left × (new.faults ≡ old.faults)
Gives next.Fault limit all left old new =
    (cut 10 all ≡ None) × (left ≡ all) × Rose old.faults new.faults
Gives next.TooLong limit all left old new =
    (cut 10 all ≡ None) × (left ≡ all) × (limit < length all) × (new.faults ≡ old.faults)

-- The bytes of a part of a string.
use Rattle.std.specs.Prelude.{ℕ, List, take, drop}
use Rattle.basic_strings.specs.declared.cuts.Cut.{Cut}

abbrev pub part_at : Cut → List ℕ → List ℕ
part_at cut text = take cut.count (drop cut.before text)

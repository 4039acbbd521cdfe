-- A table of words, without pointers.
use Rattle.std.specs.Prelude.{ℕ, List, map}
use Rattle.std.specs.Borrow.{Bor}

abbrev pub entries : {W : Type 0} → List (W × Bor (List ℕ)) → List (W × List ℕ)
entries table = map (λ entry. (entry.0, entry.1.now)) table

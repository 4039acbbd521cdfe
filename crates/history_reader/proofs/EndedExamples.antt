-- The lines of small texts.
use Rattle.std.proofs.Common.{◌≡◌, List, [], ◌∷◌, refl}
use Rattle.std.specs.Prelude.{codes}
use Rattle.history_reader.specs.EndedLines.{ended_lines, first_ended}

lines : ended_lines (codes "AB\n\nC") ≡ codes "AB" ∷ [] ∷ []
lines = refl

first : first_ended 1 (codes "AB\n\nC") ≡ codes "AB\n"
first = refl

none : ended_lines (codes "AB") ≡ []
none = refl

all : first_ended 9 (codes "\nA\r\nB") ≡ codes "\nA\r\n"
all = refl

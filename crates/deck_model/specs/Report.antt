-- What a run writes.
use Rattle.std.specs.Prelude.{ℕ, List, [], ◌∷◌, ◌++◌, length, codes}
use Rattle.std.specs.Fmt.{decimal}

-- TERMINAL, the name, and how many bytes its screen has
abbrev pub head_line : List ℕ → List ℕ → List ℕ
head_line name screen =
    codes "TERMINAL " ++ name ++ codes " " ++ decimal (length screen) ++ codes "\n"

-- a screen after its head line, with a LF after it
abbrev pub terminal_report : List ℕ → List ℕ → List ℕ
terminal_report name screen = head_line name screen ++ (screen ++ codes "\n")

-- the terminals in their order
abbrev pub report : List (List ℕ) → List (List ℕ) → List ℕ
report [] screens = []
report (name ∷ names) [] = []
report (name ∷ names) (screen ∷ screens) = terminal_report name screen ++ report names screens

-- what a check of a good deck writes: how many accounts, files and terminals it has
abbrev pub good_line : ℕ → ℕ → ℕ → List ℕ
good_line accounts files terminals =
    codes "GOOD " ++ decimal accounts ++ codes " " ++ decimal files ++ codes " "
    ++ decimal terminals ++ codes "\n"

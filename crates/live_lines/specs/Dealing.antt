-- How lines are dealt to the keys of their terminals.
use Rattle.std.specs.Prelude.{◌≡◌, ℕ, zero, suc, ◌<◌, List, [], ◌∷◌, ◌++◌, length, Option}
use Rattle.live_lines.specs.LiveLines.{LiveLine, keys_for}

abbrev pub Key : Type 0
Key = Option (List ℕ)

-- the keys of each terminal, with one more for the terminal at this place
abbrev pub dealt : ℕ → Key → List (List Key) → List (List Key)
dealt place key [] = []
dealt zero key (keys ∷ rest) = (keys ++ key ∷ []) ∷ rest
dealt (suc place) key (keys ∷ rest) = keys ∷ dealt place key rest

-- lines one after another
abbrev pub all_dealt : List LiveLine → List (List Key) → List (List Key)
all_dealt [] terminals = terminals
all_dealt (line ∷ lines) terminals = all_dealt lines (dealt line.0 line.1 terminals)

-- the keys of the terminal at this place
abbrev pub keys_at : ℕ → List (List Key) → List Key
keys_at place [] = []
keys_at zero (keys ∷ rest) = keys
keys_at (suc place) (keys ∷ rest) = keys_at place rest

-- each terminal gets its own lines, in order, and no others
abbrev pub OwnLines : Type 0
OwnLines =
    (place : ℕ) (lines : List LiveLine) (terminals : List (List Key)) → place < length terminals
    → keys_at place (all_dealt lines terminals) ≡ keys_at place terminals ++ keys_for place lines

-- The keys of a terminal: its lines in order, and none for the end of the keys.
use Rattle.std.specs.Prelude.{◌≡◌, ℕ, ◌+◌, Bool, true, false, List, [], ◌∷◌, ◌++◌, length, Option, Some, None}
use Rattle.monitor_calls.specs.Typing.{Typing, Line, Over, Open}
use Rattle.key_rings.specs.declared.outcomes.Outcome.{Outcome}
use Rattle.key_rings.specs.declared.outcomes.Outcome.TheVariants.{InOrder, HungUp, WasOver}

abbrev pub Key : Type 0
Key = Option (List ℕ)

-- the end of the keys has not come
abbrev pub NotOver : List Key → Type 0
NotOver [] = Unit {0}
NotOver (Some line ∷ keys) = NotOver keys
NotOver (None ∷ keys) = ⊥

-- whether the end of the keys has come
abbrev pub is_over : List Key → Bool
is_over [] = false
is_over (Some line ∷ keys) = is_over keys
is_over (None ∷ keys) = true

-- whether nothing comes after the end of the keys
abbrev pub ends_once : List Key → Bool
ends_once [] = true
ends_once (Some line ∷ keys) = ends_once keys
ends_once (None ∷ []) = true
ends_once (None ∷ key ∷ keys) = false

-- the lines before the end of the keys
abbrev pub lines_of : List Key → List (List ℕ)
lines_of [] = []
lines_of (Some line ∷ keys) = line ∷ lines_of keys
lines_of (None ∷ keys) = []

-- what was typed, in the words of a port's events
abbrev pub typed_by : List Key → Typing
typed_by [] = Open
typed_by (Some line ∷ keys) = Line line (typed_by keys)
typed_by (None ∷ keys) = Over

-- how many bytes a key counts for while it waits
abbrev pub key_weight : Key → ℕ
key_weight (Some line) = 24 + length line
key_weight None = 0

abbrev pub weight : List Key → ℕ
weight [] = 0
weight (key ∷ keys) = key_weight key + weight keys

-- What typing a line does to the keys of a terminal
abbrev pub After : Outcome → List ℕ → List Key → List Key → Type 0
After InOrder line keys keys' = keys' ≡ keys ++ Some line ∷ []
After HungUp line keys keys' = keys' ≡ keys ++ None ∷ []
After WasOver line keys keys' = keys' ≡ keys

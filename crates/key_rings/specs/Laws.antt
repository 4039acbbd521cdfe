-- Laws of the keys of a terminal.
use Rattle.std.specs.Prelude.{◌≡◌, ℕ, true, List, [], ◌∷◌, ◌++◌, map, Some, None}
use Rattle.monitor_calls.specs.declared.events.Event.{Event}
use Rattle.monitor_calls.specs.Typing.{all_typed, AreTyped}
use Rattle.key_rings.specs.Rings.{Key, is_over, ends_once, lines_of, typed_by}

-- these lines, and then the end of the keys
abbrev pub ended : List (List ℕ) → List Key
ended lines = map (λ (line : List ℕ). Some line) lines ++ None ∷ []

-- keys at their end are lines and the end
abbrev pub EndedKeys : Type 0
EndedKeys =
    (keys : List Key) → ends_once keys ≡ true → is_over keys ≡ true → keys ≡ ended (lines_of keys)

-- If the keys that a job took are the first of all keys of its terminal, then its events are those
-- of a job whose lines were all known before it began
abbrev pub LiveIsBatch : Type 0
LiveIsBatch =
    (taken left : List Key) (lines : List (List ℕ)) (events : List Event)
    → taken ++ left ≡ ended lines → AreTyped (typed_by taken) events → AreTyped (all_typed lines) events

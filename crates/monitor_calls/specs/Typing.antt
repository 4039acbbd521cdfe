-- What is typed at a terminal, and how the key lines in a list of events relate to it.
use Rattle.std.specs.Prelude.{◌≡◌, ℕ, zero, suc, List, [], ◌∷◌, length, Option, Some, None}
use Rattle.monitor_calls.specs.declared.events.Event.{Event}
use Rattle.monitor_calls.specs.declared.events.Event.TheVariants.{Asked, Typed}

-- Everything that is typed at a terminal, or everything so far.
pub data Typing : Type 0 where
  -- a key line, and the keys after it
  Line : List ℕ → Typing → Typing
  -- the end of the keys, however often a line is asked for
  Over : Typing
  -- nothing more has been typed so far
  Open : Typing

-- exactly these lines
abbrev pub all_typed : List (List ℕ) → Typing
all_typed [] = Over
all_typed (line ∷ lines) = Line line (all_typed lines)

-- these lines so far
abbrev pub typed_so_far : List (List ℕ) → Typing
typed_so_far [] = Open
typed_so_far (line ∷ lines) = Line line (typed_so_far lines)

-- more may be typed
abbrev pub IsOpen : Typing → Type 0
IsOpen (Line line keys) = IsOpen keys
IsOpen Over = ⊥
IsOpen Open = Unit {0}

-- what is typed, continued by `more` if more may be typed
abbrev pub goes_on : Typing → Typing → Typing
goes_on (Line line keys) more = Line line (goes_on keys more)
goes_on Over more = Over
goes_on Open more = more

-- the number of lines
abbrev pub lines_in : Typing → ℕ
lines_in (Line line keys) = suc (lines_in keys)
lines_in Over = 0
lines_in Open = 0

-- the last key, a line or the end of the keys, leads from the first typing to the second
abbrev pub TypedOn : Typing → Option (List ℕ) → Typing → Type 0
TypedOn keys (Some line) keys' = IsOpen keys × (keys' ≡ goes_on keys (Line line Open))
TypedOn keys None keys' = keys' ≡ goes_on keys Over

-- the key lines of the events, in order; None is the end of the keys
abbrev pub keys_in : List Event → List (Option (List ℕ))
keys_in [] = []
keys_in (Asked request reply ∷ events) = keys_in events
keys_in (Typed key ∷ events) = key ∷ keys_in events

-- the first keys that are typed, at most `count`; after the last line every key is the end
abbrev pub first_keys : ℕ → Typing → List (Option (List ℕ))
first_keys zero keys = []
first_keys (suc count) (Line line keys) = Some line ∷ first_keys count keys
first_keys (suc count) Over = None ∷ first_keys count Over
first_keys (suc count) Open = []

-- the events have the first keys that are typed
abbrev pub AreTyped : Typing → List Event → Type 0
AreTyped keys events = keys_in events ≡ first_keys (length (keys_in events)) keys

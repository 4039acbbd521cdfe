-- What was taken of key lines that are all known.
use Rattle.std.specs.Prelude.{Bool, true, false, ℕ, List}
use Rattle.monitor_calls.specs.Typing.{Typing, all_typed, typed_so_far}

-- these lines, and the end of the keys if it was met
abbrev pub typed_lines : Bool → List (List ℕ) → Typing
typed_lines true lines = all_typed lines
typed_lines false lines = typed_so_far lines

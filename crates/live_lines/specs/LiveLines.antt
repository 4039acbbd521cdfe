-- Lines that are typed at terminals while a run goes on: `NAME>KEYS` types a line at a terminal, and
-- `NAME.` hangs it up.
use Rattle.std.specs.Prelude.{ℕ, ◌+◌, ◌==◌, nat_le, Bool, true, false, if◌then◌else◌, List, [], ◌∷◌, ◌++◌, length, position, Option, Some, None, bytes_eq}
use Rattle.std.specs.Borrow.{Bor}
use Rattle.basic_values.specs.Cuts.{◌>>=◌, cut}
use Rattle.basic_values.specs.declared.lists.TheConstants.{LINE_LENGTH}

-- the place of a terminal among those of the deck, and the line that is typed at it, or none if it
-- is hung up
abbrev pub LiveLine : Type 0
LiveLine = ℕ × Option (List ℕ)

-- ONE LINE

-- the place of the terminal with this name
abbrev pub place_of : List (List ℕ) → List ℕ → Option ℕ
place_of names name = position (λ other. bytes_eq other name) names

-- a name, `>`, and a key line that is not too long
unfoldable pub typed_in : List (List ℕ) → List ℕ → Option LiveLine
typed_in names text = do
  parts ← cut 62 text
  place ← place_of names parts.0
  if nat_le (length parts.1) LINE_LENGTH then Some (place, Some parts.1) else None

-- a name, and a point as the last byte
unfoldable pub hung_in : List (List ℕ) → List ℕ → Option LiveLine
hung_in names text = do
  parts ← cut 46 text
  place ← place_of names parts.0
  if bytes_eq parts.1 [] then Some (place, None) else None

abbrev pub or_else : Option LiveLine → Option LiveLine → Option LiveLine
or_else None other = other
or_else (Some line) other = Some line

-- what a line says about a terminal of these
unfoldable pub live_line : List (List ℕ) → List ℕ → Option LiveLine
live_line names text = or_else (typed_in names text) (hung_in names text)

-- a line as the reader returns it
abbrev pub key_seen : Option (Bor (List ℕ)) → Option (List ℕ)
key_seen None = None
key_seen (Some keys) = Some keys.now

abbrev pub line_seen : ℕ × Option (Bor (List ℕ)) → LiveLine
line_seen line = (line.0, key_seen line.1)

-- MANY LINES

-- the keys of the terminal at this place, in order
abbrev pub keys_for : ℕ → List LiveLine → List (Option (List ℕ))
keys_for place [] = []
keys_for place (line ∷ lines) =
    if line.0 == place then line.1 ∷ keys_for place lines else keys_for place lines

-- whether the terminal was hung up
abbrev pub has_end : List (Option (List ℕ)) → Bool
has_end [] = false
has_end (Some line ∷ keys) = has_end keys
has_end (None ∷ keys) = true

-- a line after others, unless its terminal was hung up by one of them
abbrev pub unless_hung : List LiveLine → Option LiveLine → Option LiveLine
unless_hung before None = None
unless_hung before (Some line) = if has_end (keys_for line.0 before) then None else Some line

unfoldable pub next_line : List (List ℕ) → List LiveLine → List ℕ → Option LiveLine
next_line names before text = unless_hung before (live_line names text)

-- the lines up to the first that says nothing, and the number of that one
abbrev pub onwards : List LiveLine → ℕ → Option LiveLine → (List LiveLine → List LiveLine × Option ℕ) → List LiveLine × Option ℕ
onwards before number None next = (before, Some number)
onwards before number (Some line) next = next (before ++ line ∷ [])

unfoldable pub lines_from : List (List ℕ) → List LiveLine → ℕ → List (List ℕ) → List LiveLine × Option ℕ
lines_from names before number [] = (before, None)
lines_from names before number (text ∷ texts) =
    onwards before number (next_line names before text)
    (λ after. lines_from names after (number + 1) texts)

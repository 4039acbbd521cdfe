-- The place of a string in another. Places are numbered from 1.
use Rattle.std.specs.Prelude.{ℕ, ◌+◌, ◌-◌, Bool, List, length, take, drop, ℤ, pos, unwrap_or, bytes_eq}
use Rattle.std.specs.List.{find, range_with_len}
use Rattle.basic_strings.specs.Cuts.{place_given}

-- whether the sought string is at this place of the other
abbrev pub stands_at : List ℕ → List ℕ → ℕ → Bool
stands_at text sought place = bytes_eq sought (take (length sought) (drop (place - 1) text))

-- the places from this one to the one after the string's last byte
abbrev pub places_from : ℕ → List ℕ → List ℕ
places_from place text = range_with_len place (length text + 2 - place)

-- the first place, from a given one on, at which the sought string is; 0 if there is none
unfoldable pub place_of : ℤ → List ℕ → List ℕ → ℤ
place_of from text sought =
    pos (unwrap_or (find (stands_at text sought) (places_from (place_given from) text)) 0)

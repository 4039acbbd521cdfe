-- Parts of a string by length and place. Bytes are numbered from 1.
use Rattle.std.specs.Prelude.{ℕ, ◌-◌, max, List, take, drop, ℤ, pos, negsuc}

-- a length; below 0 it counts as 0
abbrev pub length_given : ℤ → ℕ
length_given (pos n) = n
length_given (negsuc n) = 0

-- a place; below 1 it counts as 1
abbrev pub place_given : ℤ → ℕ
place_given (pos n) = max 1 n
place_given (negsuc n) = 1

-- the first bytes, as many as this number says, or all if there are fewer
abbrev pub left_of : List ℕ → ℤ → List ℕ
left_of text count = take (length_given count) text

-- the bytes from a place to the end
abbrev pub right_of : List ℕ → ℤ → List ℕ
right_of text place = drop (place_given place - 1) text

-- the bytes from a place on, as many as this number says, or all if there are fewer
abbrev pub mid_of : List ℕ → ℤ → ℤ → List ℕ
mid_of text place count = take (length_given count) (drop (place_given place - 1) text)

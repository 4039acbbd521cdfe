-- The number that a line begins with.
use Rattle.std.specs.Prelude.{ℕ, List, take, drop}
use Rattle.std.specs.Char.{is_ascii_digit}
use Rattle.std.specs.List.{prefix_len}
use Rattle.std.specs.Str.Parse.{digits_value}

-- how many digits the line begins with
abbrev pub digits_of : List ℕ → ℕ
digits_of text = prefix_len is_ascii_digit text

-- their value; leading zeros are allowed
abbrev pub number_of : List ℕ → ℕ
number_of text = digits_value 10 (take (digits_of text) text)

-- what follows them
abbrev pub rest_of : List ℕ → List ℕ
rest_of text = drop (digits_of text) text

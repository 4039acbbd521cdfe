-- What is returned of the number that a line begins with.
use Rattle.std.specs.Prelude.{◌≡◌, ◌<◌, ℕ, min, List, Option, Some, None}
use Rattle.basic_tree.specs.LineNumbers.{digits_of, number_of, rest_of}
use Rattle.line_editor.specs.declared.numbers.Numbered.{Numbered}
use Rattle.line_editor.specs.declared.numbers.TheConstants.{TOO_GREAT}

-- all numbers that no line can have are the same
abbrev pub HasNumber : List ℕ → Option Numbered → Type 0
HasNumber text (Some numbered) =
    (0 < digits_of text) × (numbered.number ≡ min (number_of text) TOO_GREAT)
    × (numbered.rest.now ≡ rest_of text)
HasNumber text None = digits_of text ≡ 0

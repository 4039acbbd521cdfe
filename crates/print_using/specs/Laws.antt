-- Laws of all formats.
use Rattle.std.specs.Prelude.{◌≡◌, ◌↔◌, ℕ, List}
use Rattle.print_using.specs.Formats.{FormatPart, IsFormatOf}
use Rattle.print_using.specs.FormatFronts.{format_parts}

-- the function that reads a format finds its parts, and there are no others
abbrev pub FormatIsReadOneWay : Type 0
FormatIsReadOneWay =
    (format : List ℕ) (parts : List FormatPart) →
    IsFormatOf parts format ↔ (parts ≡ format_parts format)

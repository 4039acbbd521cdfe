-- The values of PRINT USING, without the pointers of the code.
use Rattle.std.specs.Prelude.{ℕ, List, ℤ}
use Rattle.print_using.specs.declared.values.Using.{Using}
use Rattle.print_using.specs.declared.values.Using.TheVariants.{Number, Text}

pub data PrintedValue : Type 0 where
  PrintedNumber : ℤ → PrintedValue
  PrintedText : List ℕ → PrintedValue

-- a value, without pointers
abbrev pub printed_value : Using → PrintedValue
printed_value (Number n) = PrintedNumber n
printed_value (Text text) = PrintedText text.now

-- What PRINT USING writes.
use Rattle.std.specs.Prelude.{◌≡◌, ℕ, Bool, true, false, if◌then◌else◌, List, [], ◌∷◌, ◌++◌, Result, Ok, Err}
use Rattle.basic_values.specs.declared.errors.TheConstants.{DATA_FORMAT_ERROR}
use Rattle.basic_values.specs.declared.failures.Trouble.{Trouble}
use Rattle.basic_values.specs.declared.failures.Trouble.TheVariants.{Refused, NoMemory}
use Rattle.print_using.specs.Fields.{field_bytes}
use Rattle.print_using.specs.Formats.{FormatPart, OfByte, OfField}
use Rattle.print_using.specs.FormatFronts.{format_parts}
use Rattle.print_using.specs.Values.{PrintedValue}

-- ONE VALUE

-- what a value writes, and the parts of the format after its field; or the error
abbrev pub OneWritten : Type 0
OneWritten = Result (List ℕ × List FormatPart) ℕ

abbrev pub left_behind : List FormatPart → Result (List ℕ) ℕ → OneWritten
left_behind parts (Ok bytes) = Ok (bytes, parts)
left_behind parts (Err fault) = Err fault

abbrev pub behind_byte : ℕ → OneWritten → OneWritten
behind_byte byte (Ok one) = Ok (byte ∷ one.0, one.1)
behind_byte byte (Err fault) = Err fault

-- the bytes before the next field, and then the value in that field
abbrev pub by_next_field : List FormatPart → PrintedValue → OneWritten
by_next_field [] value = Err DATA_FORMAT_ERROR
by_next_field (OfByte byte ∷ parts) value = behind_byte byte (by_next_field parts value)
by_next_field (OfField field ∷ parts) value = left_behind parts (field_bytes field value)

abbrev pub has_field : List FormatPart → Bool
has_field [] = false
has_field (OfByte byte ∷ parts) = has_field parts
has_field (OfField field ∷ parts) = true

-- if no field is left, the format begins again after what is left
abbrev pub one_value : List FormatPart → List FormatPart → PrintedValue → OneWritten
one_value format left value =
    by_next_field (if has_field left then left else left ++ format) value

-- ALL VALUES

-- what is before the next field, or before the end
abbrev pub bytes_in_front : List FormatPart → List ℕ
bytes_in_front [] = []
bytes_in_front (OfByte byte ∷ parts) = byte ∷ bytes_in_front parts
bytes_in_front (OfField field ∷ parts) = []

abbrev pub with_front : List ℕ → Result (List ℕ) ℕ → Result (List ℕ) ℕ
with_front bytes (Ok more) = Ok (bytes ++ more)
with_front bytes (Err fault) = Err fault

abbrev pub and_behind : OneWritten → (List FormatPart → Result (List ℕ) ℕ) → Result (List ℕ) ℕ
and_behind (Ok one) more = with_front one.0 (more one.1)
and_behind (Err fault) more = Err fault

-- one value after the other, and after the last one the bytes before the next field
abbrev pub using_from : List FormatPart → List FormatPart → List PrintedValue → Result (List ℕ) ℕ
using_from format left [] = Ok (bytes_in_front left)
using_from format left (value ∷ values) =
    and_behind (one_value format left value) (λ behind. using_from format behind values)

-- THE BYTES OF PRINT USING, or the error
abbrev pub using_bytes : List ℕ → List PrintedValue → Result (List ℕ) ℕ
using_bytes format values = using_from (format_parts format) (format_parts format) values

-- and after them the end of the line
abbrev pub with_line_end : Result (List ℕ) ℕ → Result (List ℕ) ℕ
with_line_end (Ok bytes) = Ok (bytes ++ 13 ∷ 10 ∷ [])
with_line_end (Err fault) = Err fault

-- what a call returns: what is written, or the error; or memory ran out
abbrev pub AnswersWritten : Result (List ℕ) ℕ → Result (List ℕ) (Trouble ℕ) → Type 0
AnswersWritten written (Ok bytes) = written ≡ Ok bytes
AnswersWritten written (Err (Refused fault)) = written ≡ Err fault
AnswersWritten written (Err NoMemory) = Unit {0}

-- The fields of a line, each with the space after it. These definitions are right for the line of
-- an entry. For another line they may find something too, since an entry counts only if its line is
-- the one written of it. No promise of the program uses them.
use Rattle.std.specs.Prelude.{◌≡◌, ℕ, ◌+◌, ◌-◌, ◌*◌, ◌/◌, Bool, true, false, ◌==◌, nat_le, if◌then◌else◌, List, [], ◌∷◌, length, Option, Some, None, Result, Ok, Err, bytes_eq, codes, ⊤}
use Rattle.std.specs.Char.{is_ascii_digit}
use Rattle.basic_values.specs.declared.limits.TheConstants.{BLOCK_BYTES}
use Rattle.basic_values.specs.declared.texts.TheConstants.{MOST_BYTES}
use Rattle.basic_values.specs.Cuts.{◌>>=◌, behind, cut}
use Rattle.basic_values.specs.Decimals.{number_between}
use Rattle.monitor_calls.specs.declared.names.Account.{Account}
use Rattle.monitor_calls.specs.declared.files.FileName.{FileName}
use Rattle.monitor_calls.specs.declared.files.OpenKind.{OpenKind}
use Rattle.monitor_calls.specs.declared.files.OpenKind.TheVariants.{Input, Output, Either, Fresh}
use Rattle.monitor_calls.specs.Names.{is_short_text}
use Rattle.deck_model.specs.Files.{pages_of}
use Rattle.history_reader.specs.declared.failures.LineError.{LineError}
use Rattle.history_reader.specs.declared.failures.LineError.TheVariants.{Wrong, Memory}

-- what was answered, seen by view, is what reading finds, unless memory ran out
abbrev pub ReadsAs : {X Y : Type 0} → (X → Y) → Result X LineError → Option Y → Type 0
ReadsAs view (Ok x) read = read ≡ Some (view x)
ReadsAs view (Err Wrong) read = read ≡ None
ReadsAs view (Err Memory) read = ⊤

-- WORDS

abbrev pub parts_or : List ℕ → Option (List ℕ × List ℕ) → List ℕ × List ℕ
parts_or text None = (text, [])
parts_or text (Some parts) = parts

-- the first word of a text, and what comes after the space after it
unfoldable pub word_read : List ℕ → List ℕ × List ℕ
word_read text = parts_or text (cut 32 text)

-- what the first word says, and what comes after the space after it
unfoldable pub field_by : {A : Type 0} → (List ℕ → Option A) → List ℕ → Option (A × List ℕ)
field_by read text = do
  value ← read (word_read text).0
  Some (value, (word_read text).1)

-- NUMBERS AND NAMES

unfoldable pub byte_read : List ℕ → Option ℕ
byte_read text = number_between 0 255 text

unfoldable pub half_read : List ℕ → Option ℕ
half_read text = number_between 0 65535 text

unfoldable pub long_read : List ℕ → Option ℕ
long_read text = number_between 0 4294967295 text

unfoldable pub account_read : List ℕ → Option Account
account_read text = do
  parts ← cut 44 text
  project ← byte_read parts.0
  programmer ← byte_read parts.1
  Some (record { project = project; programmer = programmer })

unfoldable pub short_read : List ℕ → Option (List ℕ)
short_read text = if is_short_text text then Some text else None

-- a stem, and the extension after the first point
abbrev pub stem_of : List ℕ → Option (List ℕ × List ℕ) → List ℕ × List ℕ
stem_of text None = (text, [])
stem_of text (Some parts) = parts

unfoldable pub name_read : List ℕ → Option FileName
name_read text = do
  inside ← behind (codes "[") text
  parts ← cut 93 inside
  owner ← account_read parts.0
  stem ← short_read (stem_of parts.1 (cut 46 parts.1)).0
  extension ← short_read (stem_of parts.1 (cut 46 parts.1)).1
  Some (record { owner = owner; stem = stem; extension = extension })

unfoldable pub letters_read : List ℕ → Option (List ℕ)
letters_read text = if bytes_eq text (codes "-") then Some [] else short_read text

unfoldable pub truth_read : List ℕ → Option Bool
truth_read text =
    if bytes_eq text (codes "1") then Some true
    else if bytes_eq text (codes "0") then Some false else None

unfoldable pub kind_read : List ℕ → Option OpenKind
kind_read text =
    if bytes_eq text (codes "INPUT") then Some Input
    else if bytes_eq text (codes "OUTPUT") then Some Output
    else if bytes_eq text (codes "EITHER") then Some Either
    else if bytes_eq text (codes "FRESH") then Some Fresh else None

-- a number that a dash may replace
unfoldable pub code_read : List ℕ → Option (Option ℕ)
code_read text = if bytes_eq text (codes "-") then Some None else do
  code ← byte_read text
  Some (Some code)

unfoldable pub blocks_read : List ℕ → Option (Option ℕ)
blocks_read text = if bytes_eq text (codes "-") then Some None else do
  blocks ← half_read text
  Some (Some blocks)

-- BYTES

-- the number of a hexadecimal digit
abbrev pub sign_value : ℕ → ℕ
sign_value sign =
    if is_ascii_digit sign then sign - 48 else if nat_le 97 sign then (if nat_le sign 102 then sign - 87 else 0) else 0

-- the byte of each two signs; a last sign alone, as the dash for no bytes, has none
unfoldable pub hex_bytes : List ℕ → List ℕ
hex_bytes [] = []
hex_bytes (high ∷ []) = []
hex_bytes (high ∷ low ∷ signs) = (16 * sign_value high + sign_value low) ∷ hex_bytes signs

unfoldable pub password_read : List ℕ → Option (List ℕ)
password_read text = short_read (hex_bytes text)

unfoldable pub message_read : List ℕ → Option (List ℕ)
message_read text = if nat_le (length (hex_bytes text)) MOST_BYTES then Some (hex_bytes text) else None

unfoldable pub one_page_read : List ℕ → Option (List ℕ)
one_page_read text = if length (hex_bytes text) == BLOCK_BYTES then Some (hex_bytes text) else None

unfoldable pub page_run_read : List ℕ → Option (List (List ℕ))
page_run_read text = Some (pages_of (length (hex_bytes text) / BLOCK_BYTES) (hex_bytes text))

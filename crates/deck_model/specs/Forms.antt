-- The forms of the lines of a deck, with numbers and names of any size.
use Rattle.std.specs.Prelude.{ℕ, Bool, true, false, ◌&&◌, ◌||◌, not, ◌==◌, List, [], ◌∷◌, ◌++◌, length, Option, Some, None, unwrap_or, codes}
use Rattle.std.specs.List.{list_all}
use Rattle.std.specs.Char.{is_ascii_alphanumeric, is_ascii_digit}
use Rattle.monitor_calls.specs.Names.{is_capital_or_digit}
use Rattle.deck_model.specs.declared.versions.Version.{Version}
use Rattle.deck_model.specs.declared.versions.Version.TheVariants.{One, Two, Three}
use Rattle.deck_model.specs.Hex.{is_byte}
use Rattle.deck_model.specs.Histories.{hex_text}

-- the texts of an account's fields; a quota if the line has one
pub record AccountTexts : Type 0 where
  pub project : List ℕ
  pub programmer : List ℕ
  pub password : List ℕ
  pub limit : List ℕ
  pub quota : Option (List ℕ)

-- the texts of a file's fields; an extension if the name has a point
pub record FileTexts : Type 0 where
  pub project : List ℕ
  pub programmer : List ℕ
  pub stem : List ℕ
  pub extension : Option (List ℕ)
  pub code : List ℕ
  pub blocks : List ℕ

-- RSTS-DECK and the version; DISK and blocks; ACCOUNT and its fields; FILE and its fields; TERMINAL
-- and a name. The keys of a line, or a line of a file's text; the bytes of a block of a file; END
pub data LineForm : Type 0 where
  Heading : Version → LineForm
  Disk : List ℕ → LineForm
  Account : AccountTexts → LineForm
  File : FileTexts → LineForm
  Terminal : List ℕ → LineForm
  Keys : List ℕ → LineForm
  Block : List ℕ → LineForm
  End : LineForm

-- the first line of a version
abbrev pub heading : Version → List ℕ
heading One = codes "RSTS-DECK 1"
heading Two = codes "RSTS-DECK 2"
heading Three = codes "RSTS-DECK 3"

-- whether a version has lines of blocks
abbrev pub has_block_lines : Version → Bool
has_block_lines One = false
has_block_lines Two = false
has_block_lines Three = true

-- a space and the quota, or nothing
abbrev pub quota_text : Option (List ℕ) → List ℕ
quota_text None = []
quota_text (Some quota) = codes " " ++ quota

abbrev pub account_text : AccountTexts → List ℕ
account_text texts =
    codes "ACCOUNT " ++ (texts.project ++ codes "," ++ texts.programmer ++ codes " "
    ++ texts.password ++ codes " " ++ texts.limit ++ quota_text texts.quota)

-- a point and the extension, or nothing
abbrev pub extension_text : Option (List ℕ) → List ℕ
extension_text None = []
extension_text (Some extension) = codes "." ++ extension

abbrev pub file_text : FileTexts → List ℕ
file_text texts =
    codes "FILE [" ++ (texts.project ++ codes "," ++ texts.programmer ++ codes "]" ++ texts.stem
    ++ extension_text texts.extension ++ codes "<" ++ texts.code ++ codes "> " ++ texts.blocks)

-- the line of a form
abbrev pub line_of : LineForm → List ℕ
line_of (Heading version) = heading version
line_of (Disk blocks) = codes "DISK " ++ blocks
line_of (Account texts) = account_text texts
line_of (File texts) = file_text texts
line_of (Terminal name) = codes "TERMINAL " ++ name
line_of (Keys keys) = codes ">" ++ keys
line_of (Block bytes) = codes "=" ++ hex_text bytes
line_of End = codes "END"

-- 0, or digits without a leading zero
abbrev pub is_numeral : List ℕ → Bool
is_numeral [] = false
is_numeral (digit ∷ digits) =
    list_all is_ascii_digit (digit ∷ digits) && (not (digit == 48) || length digits == 0)

-- a numeral, or nothing
abbrev pub is_numeral_or_none : Option (List ℕ) → Bool
is_numeral_or_none None = true
is_numeral_or_none (Some text) = is_numeral text

-- capital letters and digits, or nothing
abbrev pub is_name : List ℕ → Bool
is_name text = list_all is_capital_or_digit text

-- what a file's name is made of: versions 1 and 2 have no small letters there
abbrev pub is_file_letter : Version → ℕ → Bool
is_file_letter One byte = is_capital_or_digit byte
is_file_letter Two byte = is_capital_or_digit byte
is_file_letter Three byte = is_ascii_alphanumeric byte

abbrev pub is_file_word : Version → List ℕ → Bool
is_file_word version text = list_all (is_file_letter version) text

-- whether each field of a line is a number or a name, as the version asks
abbrev pub is_formed : Version → LineForm → Bool
is_formed version (Heading other) = true
is_formed version (Disk blocks) = is_numeral blocks
is_formed version (Account texts) =
    is_numeral texts.project && is_numeral texts.programmer && is_name texts.password
    && is_numeral texts.limit && is_numeral_or_none texts.quota
is_formed version (File texts) =
    is_numeral texts.project && is_numeral texts.programmer && is_file_word version texts.stem
    && is_file_word version (unwrap_or texts.extension []) && is_numeral texts.code
    && is_numeral texts.blocks
is_formed version (Terminal name) = is_name name
is_formed version (Keys keys) = true
is_formed version (Block bytes) = list_all is_byte bytes
is_formed version End = true

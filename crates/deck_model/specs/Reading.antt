-- Reading the lines of a deck in their order. No promise of the program speaks of it.
use Rattle.std.specs.Prelude.{ℕ, ◌+◌, Bool, ◌&&◌, if◌then◌else◌, List, [], ◌∷◌, Option, Some, None, Result, Ok, Err, unwrap_or, bytes_eq, codes}
use Rattle.basic_values.specs.Cuts.{◌>>=◌, behind, cut}
use Rattle.deck_model.specs.declared.faults.DeckCause.{DeckCause}
use Rattle.deck_model.specs.declared.faults.DeckCause.TheVariants as cause
use Rattle.deck_model.specs.declared.versions.Version.{Version}
use Rattle.deck_model.specs.declared.versions.Version.TheVariants.{One, Two, Three}
use Rattle.deck_model.specs.Deck.{Deck}
use Rattle.deck_model.specs.Hex.{is_hex, hex_bytes}
use Rattle.deck_model.specs.Lines.{whole_lines, cut_line}
use Rattle.deck_model.specs.Forms.{LineForm, Heading, Disk, Account, File, Terminal, Keys, Block, End, AccountTexts, FileTexts, heading, has_block_lines, is_numeral, is_numeral_or_none, is_name, is_file_word}
use Rattle.deck_model.specs.Fronts.{Front, Nothing, Versioned, InAccounts, InFile, InTerminal, Whole, adds}
use Rattle.deck_model.specs.Refusals.{causes, first_cause, shape_cause}

-- the first of two that exists
abbrev pub or_else : {A : Type 0} → Option A → Option A → Option A
or_else None other = other
or_else (Some a) other = Some a

-- FORMS

unfoldable pub version_in : List ℕ → Option LineForm
version_in line =
    if bytes_eq line (heading One) then Some (Heading One)
    else if bytes_eq line (heading Two) then Some (Heading Two)
    else if bytes_eq line (heading Three) then Some (Heading Three) else None

unfoldable pub disk_in : List ℕ → Option LineForm
disk_in line = do
  blocks ← behind (codes "DISK ") line
  if is_numeral blocks then Some (Disk blocks) else None

-- the limit of an account's calls, and its quota after a space
abbrev pub limit_and_quota : List ℕ → Option (List ℕ × Option (List ℕ))
limit_and_quota text = do
  parts ← cut 32 text
  Some (parts.0, Some parts.1)

-- in version 1 the limit alone
abbrev pub limits_in : Version → List ℕ → Option (List ℕ × Option (List ℕ))
limits_in One text = Some (text, None)
limits_in Two text = limit_and_quota text
limits_in Three text = limit_and_quota text

-- the texts of the fields of an account
unfoldable pub texts_in : Version → List ℕ → Option AccountTexts
texts_in version line = do
  fields ← behind (codes "ACCOUNT ") line
  project ← cut 44 fields
  programmer ← cut 32 project.1
  password ← cut 32 programmer.1
  limits ← limits_in version password.1
  Some (record {
    project = project.0;
    programmer = programmer.0;
    password = password.0;
    limit = limits.0;
    quota = limits.1;
  })

unfoldable pub account_in : Version → List ℕ → Option LineForm
account_in version line = do
  texts ← texts_in version line
  if is_numeral texts.project && is_numeral texts.programmer && is_name texts.password
      && is_numeral texts.limit && is_numeral_or_none texts.quota
      then Some (Account texts) else None

-- the stem of a file's name, and its extension after the first point
abbrev pub stem_before : List ℕ → Option (List ℕ × List ℕ) → List ℕ
stem_before name None = name
stem_before name (Some parts) = parts.0

abbrev pub extension_behind : Option (List ℕ × List ℕ) → Option (List ℕ)
extension_behind None = None
extension_behind (Some parts) = Some parts.1

-- the texts of the fields of a file
unfoldable pub file_texts_in : List ℕ → Option FileTexts
file_texts_in line = do
  fields ← behind (codes "FILE [") line
  project ← cut 44 fields
  programmer ← cut 93 project.1
  name ← cut 60 programmer.1
  code ← cut 62 name.1
  blocks ← behind (codes " ") code.1
  Some (record {
    project = project.0;
    programmer = programmer.0;
    stem = stem_before name.0 (cut 46 name.0);
    extension = extension_behind (cut 46 name.0);
    code = code.0;
    blocks = blocks;
  })

abbrev pub are_file_texts : Version → FileTexts → Bool
are_file_texts version texts =
    is_numeral texts.project && is_numeral texts.programmer && is_file_word version texts.stem
    && is_file_word version (unwrap_or texts.extension []) && is_numeral texts.code
    && is_numeral texts.blocks

unfoldable pub file_in : Version → List ℕ → Option LineForm
file_in version line = do
  texts ← file_texts_in line
  if are_file_texts version texts then Some (File texts) else None

unfoldable pub terminal_in : List ℕ → Option LineForm
terminal_in line = do
  name ← behind (codes "TERMINAL ") line
  if is_name name then Some (Terminal name) else None

unfoldable pub keys_in : List ℕ → Option LineForm
keys_in line = do
  keys ← behind (codes ">") line
  Some (Keys keys)

-- the bytes of a block, in version 3
unfoldable pub block_in : Version → List ℕ → Option LineForm
block_in version line = do
  digits ← behind (codes "=") line
  if has_block_lines version && is_hex digits then Some (Block (hex_bytes digits)) else None

unfoldable pub end_in : List ℕ → Option LineForm
end_in line = if bytes_eq line (codes "END") then Some End else None

-- a form among those of accounts
unfoldable pub groups_in : Version → List ℕ → Option LineForm
groups_in version line =
    or_else (account_in version line)
    (or_else (file_in version line) (or_else (terminal_in line) (end_in line)))

-- a form after a FILE line
unfoldable pub contents_in : Version → List ℕ → Option LineForm
contents_in version line =
    or_else (keys_in line) (or_else (block_in version line)
    (or_else (file_in version line) (or_else (terminal_in line) (end_in line))))

-- a form after a TERMINAL line
unfoldable pub session_in : List ℕ → Option LineForm
session_in line = or_else (keys_in line) (or_else (terminal_in line) (end_in line))

-- the form of the line after a front
unfoldable pub form_at : Front → List ℕ → Option LineForm
form_at Nothing line = version_in line
form_at (Versioned version) line = disk_in line
form_at (InAccounts version deck) line = groups_in version line
form_at (InFile version deck file) line = contents_in version line
form_at (InTerminal version deck terminal) line = session_in line
form_at (Whole version deck) line = None

-- FRONTS

-- the front after a line of a form, unless a cause applies
abbrev pub unless_refused : Front → Option DeckCause → Result Front DeckCause
unless_refused front None = Ok front
unless_refused front (Some why) = Err why

unfoldable pub behind_form : Front → Option LineForm → Result Front DeckCause
behind_form front None = Err (shape_cause front)
behind_form front (Some form) = unless_refused (adds front form) (first_cause (causes front form))

-- the front after one line
unfoldable pub behind_line : Front → List ℕ → Result Front DeckCause
behind_line front line = behind_form front (form_at front line)

-- VERDICTS

-- bytes spell a deck, or are rejected at a line, counted from 1, for a cause
pub data DeckVerdict : Type 0 where
  Yields : Deck → DeckVerdict
  Refuses : ℕ → DeckCause → DeckVerdict

-- at the end of the lines
abbrev pub at_end : Front → ℕ → List ℕ → DeckVerdict
at_end (Whole version deck) line [] = Yields deck
at_end front line cut = Refuses line cause.Cut

-- on to the front after a line, unless the line is rejected
abbrev pub onwards : Result Front DeckCause → ℕ → (Front → DeckVerdict) → DeckVerdict
onwards (Ok front) number next = next front
onwards (Err why) number next = Refuses number why

-- the verdict from a front, the number of its next line, the lines from there, and a line that is
-- cut
unfoldable pub reading : Front → ℕ → List (List ℕ) → List ℕ → DeckVerdict
reading front number [] cut = at_end front number cut
reading front number (line ∷ lines) cut =
    onwards (behind_line front line) number (λ next. reading next (number + 1) lines cut)

-- the verdict on bytes
unfoldable pub verdict : List ℕ → DeckVerdict
verdict bytes = reading Nothing 1 (whole_lines bytes) (cut_line bytes)

-- Program files: the bytes of their pages, and the lines that are read from them.
use Rattle.std.specs.Prelude.{◌≡◌, ◌⊎◌, ◌<◌, ◌-◌, ℕ, Bool, true, not, ◌&&◌, ◌==◌, if◌then◌else◌, List, [], ◌∷◌, ◌++◌, length, take, filter, replicate, slice_index, Result, Ok, Err}
use Rattle.std.specs.List.{AllByRecursion, concat, list_all, slice_split}
use Rattle.basic_values.specs.declared.errors.TheConstants.{DATA_FORMAT_ERROR}
use Rattle.basic_values.specs.declared.failures.Trouble.{Trouble}
use Rattle.basic_values.specs.declared.failures.Trouble.TheVariants.{Refused, NoMemory}
use Rattle.line_editor.specs.declared.text.EditRefusal.{EditRefusal}
use Rattle.line_editor.specs.declared.files.Cut.{Cut}
use Rattle.basic_values.specs.declared.limits.TheConstants.{BLOCK_BYTES}
use Rattle.basic_tree.specs.ProgramLines.{Lines, stored}
use Rattle.basic_tree.specs.LineNumbers.{digits_of, number_of, rest_of}
use Rattle.basic_tree.specs.FileLines.{is_written, is_line_feed, file_text, file_lines}
use Rattle.line_editor.specs.Edits.{IsStorable, RefusesFor}

-- WRITING

-- the pages one after another are the bytes, and then zeros, fewer than a page has
pub record IsPaged (bytes : List ℕ) (pages : List (List ℕ)) : Type 0 where
  pub zeros : ℕ
  pub few : zeros < BLOCK_BYTES
  pub whole : AllByRecursion (λ page. length page ≡ BLOCK_BYTES) pages
  pub holds : concat pages ≡ bytes ++ replicate zeros 0

-- READING

-- the first of the lines, and the bytes after it
abbrev pub CutsLine : List ℕ → Cut → Type 0
CutsLine text cut =
    (file_lines text ≡ cut.line.now ∷ file_lines cut.left.now) × (length cut.left.now < length text)

-- the line of a file has a number and can be stored after those before it
abbrev pub IsKept : List ℕ → Lines → Type 0
IsKept text lines = (0 < digits_of text) × IsStorable (number_of text) (rest_of text) lines

abbrev pub kept : List ℕ → Lines → Lines
kept text lines = stored (number_of text) (rest_of text) lines

-- it has no number, or is rejected
abbrev pub IsBad : List ℕ → Lines → Type 0
IsBad text lines =
    (digits_of text ≡ 0)
    ⊎ ((cause : EditRefusal) × RefusesFor (number_of text) (rest_of text) lines cause)

-- all lines of a file are stored in turn, and lead from these lines to those
abbrev pub AreKept : List (List ℕ) → Lines → Lines → Type 0
AreKept [] old new = new ≡ old
AreKept (text ∷ texts) old new = IsKept text old × AreKept texts (kept text old) new

-- all lines before a bad one are stored
abbrev pub HasBad : List (List ℕ) → Lines → Type 0
HasBad [] old = ⊥
HasBad (text ∷ texts) old = IsBad text old ⊎ (IsKept text old × HasBad texts (kept text old))

-- the lines of a file are these
abbrev pub IsFileOf : List (List ℕ) → Lines → Type 0
IsFileOf pages lines = AreKept (file_lines (file_text pages)) [] lines

-- One line of a file is stored, or it is bad: error 50.
abbrev pub KeepsOne : List ℕ → Lines → Lines → Result Unit (Trouble ℕ) → Type 0
KeepsOne text old new (Ok done) = IsKept text old × (new ≡ kept text old)
KeepsOne text old new (Err (Refused fault)) = (fault ≡ DATA_FORMAT_ERROR) × IsBad text old
KeepsOne text old new (Err NoMemory) = Unit {0}

-- Lines of a file are stored after others, or one of them is bad: error 50.
abbrev pub KeepsAll : List (List ℕ) → Lines → Lines → Result Unit (Trouble ℕ) → Type 0
KeepsAll texts old new (Ok done) = AreKept texts old new
KeepsAll texts old new (Err (Refused fault)) = (fault ≡ DATA_FORMAT_ERROR) × HasBad texts old
KeepsAll texts old new (Err NoMemory) = Unit {0}

-- A file is read.
abbrev pub ReadsFile : List (List ℕ) → Result Lines (Trouble ℕ) → Type 0
ReadsFile pages (Ok lines) = IsFileOf pages lines
ReadsFile pages (Err (Refused fault)) =
    (fault ≡ DATA_FORMAT_ERROR) × HasBad (file_lines (file_text pages)) []
ReadsFile pages (Err NoMemory) = Unit {0}

-- no line has a zero byte or an LF
abbrev pub is_plain : List ℕ → Bool
is_plain bytes = list_all (λ byte. is_written byte && not (is_line_feed byte)) bytes

abbrev pub ArePlain : Lines → Type 0
ArePlain lines = AllByRecursion (λ line. is_plain line.1 ≡ true) lines

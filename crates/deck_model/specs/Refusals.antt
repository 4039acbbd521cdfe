-- At which line, and for which cause, bytes that spell no deck are rejected.
use Rattle.std.specs.Prelude.{◌≡◌, ◌<◌, ◌+◌, ◌⊎◌, ℕ, ◌*◌, Bool, true, ◌&&◌, not, nat_le, nat_lt, if◌then◌else◌, List, [], ◌∷◌, ◌++◌, length, Option, Some, None}
use Rattle.std.specs.List.{list_any}
use Rattle.basic_values.specs.Decimals.{is_number_between}
use Rattle.basic_values.specs.declared.limits.TheConstants.{BLOCK_BYTES, MOST_ACCOUNTS, MOST_BLOCKS, MOST_CALLS, MOST_CODE, MOST_FILES, MOST_JOBS, MOST_QUOTA}
use Rattle.basic_values.specs.declared.lists.TheConstants.{LINE_LENGTH}
use Rattle.monitor_calls.specs.Names.{is_text_of, is_password, is_short_text, is_terminal_name}
use Rattle.monitor_calls.specs.declared.volumes.AccountEntry.{AccountEntry}
use Rattle.monitor_calls.specs.declared.files.FileEntry.{FileEntry}
use Rattle.monitor_calls.specs.Volumes.{same_account, has_account, has_file, blocks_of, blocks_owned}
use Rattle.deck_model.specs.declared.faults.DeckCause.{DeckCause}
use Rattle.deck_model.specs.declared.faults.DeckCause.TheVariants as cause
use Rattle.deck_model.specs.declared.versions.Version.{Version}
use Rattle.deck_model.specs.declared.versions.Version.TheVariants.{One, Two, Three}
use Rattle.deck_model.specs.Deck as model
use Rattle.deck_model.specs.Deck.{Deck, has_terminal}
use Rattle.deck_model.specs.Forms.{LineForm, Disk, Account, File, Terminal, Keys, Block, AccountTexts, FileTexts, is_file_letter, line_of, is_formed}
use Rattle.deck_model.specs.Fronts.{Front, Nothing, InAccounts, InFile, Whole, with_text, with_block, deck_at, version_at, BeginsDeck, May, entry_of, new_file}
use Rattle.deck_model.specs.Lines.{whole_lines, cut_line}

-- CAUSES OF A LINE

-- a quota is at most the largest, if the line has one
abbrev pub is_quota : Option (List ℕ) → Bool
is_quota None = true
is_quota (Some text) = is_number_between 0 MOST_QUOTA text

-- the numbers and the password of an account are in their ranges
abbrev pub is_in_range : AccountTexts → Bool
is_in_range texts =
    is_number_between 1 254 texts.project && is_number_between 0 254 texts.programmer
    && is_password texts.password && is_number_between 1 MOST_CALLS texts.limit
    && is_quota texts.quota

-- a stem has 1 to 6 capital letters and digits, in version 3 any 0 to 6 letters and digits
abbrev pub is_stem : Version → List ℕ → Bool
is_stem One text = is_password text
is_stem Two text = is_password text
is_stem Three text = is_short_text text

-- an extension has up to 3 capital letters and digits, in version 3 up to 6 letters and digits
abbrev pub most_extension : Version → ℕ
most_extension One = 3
most_extension Two = 3
most_extension Three = 6

-- an extension has at least one letter or digit, if the name has a point
abbrev pub is_extension : Version → Option (List ℕ) → Bool
is_extension version None = true
is_extension version (Some text) = is_text_of (is_file_letter version) 1 (most_extension version) text

-- the largest code of a file: in version 3 it is that of a byte
abbrev pub most_code : Version → ℕ
most_code One = MOST_CODE
most_code Two = MOST_CODE
most_code Three = 255

-- the numbers, the stem and the extension of a file are in their ranges
abbrev pub is_file_in_range : Version → FileTexts → Bool
is_file_in_range version texts =
    is_number_between 1 254 texts.project && is_number_between 0 254 texts.programmer
    && is_stem version texts.stem && is_extension version texts.extension
    && is_number_between 0 (most_code version) texts.code
    && is_number_between 0 MOST_BLOCKS texts.blocks

-- the first cause whose test is true
abbrev pub first_cause : List (Bool × DeckCause) → Option DeckCause
first_cause [] = None
first_cause (test ∷ tests) = if test.0 then Some test.1 else first_cause tests

abbrev pub account_causes : Deck → AccountTexts → List (Bool × DeckCause)
account_causes deck texts =
    (not (is_in_range texts), cause.Range)
    ∷ (has_account deck.accounts (entry_of deck.blocks texts).account, cause.Double)
    ∷ (nat_le MOST_ACCOUNTS (length deck.accounts), cause.Space) ∷ []

-- with this file the files of its owner have more blocks than the owner's quota
abbrev pub passes_quota : List AccountEntry → List FileEntry → model.File → Bool
passes_quota accounts files file =
    let owner = file.name.owner in
    let owned = blocks_owned files owner + file.blocks in
    list_any
    (λ (entry : AccountEntry). same_account entry.account owner && nat_lt entry.quota owned)
    accounts

-- an account comes before its files, and the disk and its quota have space for them
abbrev pub filing_causes : Deck → model.File → List (Bool × DeckCause)
filing_causes deck file =
    (has_file deck.files file.name, cause.Double)
    ∷ (not (has_account deck.accounts file.name.owner), cause.Owner)
    ∷ (nat_le MOST_FILES (length deck.files), cause.Space)
    ∷ (nat_lt deck.blocks (blocks_of deck.files + file.blocks), cause.Space)
    ∷ (passes_quota deck.accounts deck.files file, cause.Space) ∷ []

abbrev pub file_causes : Version → Deck → FileTexts → List (Bool × DeckCause)
file_causes version deck texts =
    (not (is_file_in_range version texts), cause.Range) ∷ filing_causes deck (new_file texts)

-- the file's bytes fit in its blocks
abbrev pub content_causes : model.File → List (Bool × DeckCause)
content_causes file =
    (nat_lt (BLOCK_BYTES * file.blocks) (length file.content), cause.Space) ∷ []

-- a line has at most the bytes of one block
abbrev pub block_causes : model.File → List ℕ → List (Bool × DeckCause)
block_causes file bytes =
    (nat_lt BLOCK_BYTES (length bytes), cause.Range) ∷ content_causes (with_block file bytes)

abbrev pub terminal_causes : List model.Terminal → List ℕ → List (Bool × DeckCause)
terminal_causes terminals name =
    (not (is_terminal_name name), cause.Range)
    ∷ (has_terminal terminals name, cause.Double)
    ∷ (nat_le MOST_JOBS (length terminals), cause.Space) ∷ []

abbrev pub keys_causes : List ℕ → List (Bool × DeckCause)
keys_causes keys = (nat_lt LINE_LENGTH (length keys), cause.Range) ∷ []

-- the causes to reject a line of a form that is allowed there, each with its test
abbrev pub causes : Front → LineForm → List (Bool × DeckCause)
causes front (Disk blocks) = (not (is_number_between 1 MOST_BLOCKS blocks), cause.Range) ∷ []
causes (InAccounts version deck) (Account texts) = account_causes deck texts
causes front (File texts) = file_causes (version_at front) (deck_at front) texts
causes front (Terminal name) = terminal_causes (deck_at front).terminals name
causes (InFile version deck file) (Keys text) = content_causes (with_text file text)
causes (InFile version deck file) (Block bytes) = block_causes file bytes
causes front (Keys keys) = keys_causes keys
causes front form = []

-- the cause of a line that has no form that is allowed there
abbrev pub shape_cause : Front → DeckCause
shape_cause Nothing = cause.Version
shape_cause front = cause.Shape

-- the line has a form that is allowed there
pub record HasForm (front : Front) (line : List ℕ) (form : LineForm) : Type 0 where
  pub may : May front form
  pub is_formed : is_formed (version_at front) form ≡ true
  pub line_is : line ≡ line_of form

-- no form that is allowed there is the line's
abbrev pub IsUnformed : Front → List ℕ → DeckCause → Type 0
IsUnformed front line why = ((form : LineForm) → HasForm front line form → ⊥) × (why ≡ shape_cause front)

-- it has a form, for which a cause applies
abbrev pub IsFaulty : Front → List ℕ → DeckCause → Type 0
IsFaulty front line why =
    (form : LineForm) × HasForm front line form × (first_cause (causes front form) ≡ Some why)

-- no deck can have the line after this front, for this cause
abbrev pub IsRefused : Front → List ℕ → DeckCause → Type 0
IsRefused front line why = IsUnformed front line why ⊎ IsFaulty front line why

-- THE REJECTED LINE

-- the next line is rejected; or there is none, and the input is cut there
abbrev pub StopsAt : Front → List (List ℕ) → List ℕ → DeckCause → Type 0
StopsAt front (line ∷ lines) cut why = IsRefused front line why
StopsAt (Whole version deck) [] cut why = (0 < length cut) × (why ≡ cause.Cut)
StopsAt front [] cut why = why ≡ cause.Cut

-- The first lines of the bytes begin a deck. The next line has this number, counted from 1, and no
-- deck can have it there, for this cause.
pub record Refused (bytes : List ℕ) (line : ℕ) (why : DeckCause) : Type 0 where
  pub front : Front
  pub begun : List (List ℕ)
  pub rest : List (List ℕ)
  pub begins : BeginsDeck front begun
  pub lines_are : whole_lines bytes ≡ begun ++ rest
  pub line_is : line ≡ length begun + 1
  pub stops : StopsAt front rest (cut_line bytes) why

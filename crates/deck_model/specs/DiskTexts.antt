-- The text of a disk: a deck of version 3, from which a next run goes on.
use Rattle.std.specs.Prelude.{◌≡◌, ℕ, ◌≤◌, true, Bool, ◌&&◌, ◌||◌, ◌==◌, nat_le, if◌then◌else◌, List, [], ◌∷◌, ◌++◌, length, bytes_eq, map}
use Rattle.std.specs.List.{concat, flat_map, list_all}
use Rattle.basic_values.specs.declared.limits.TheConstants.{BLOCK_BYTES}
use Rattle.monitor_calls.specs.declared.volumes.AccountEntry.{AccountEntry}
use Rattle.monitor_calls.specs.declared.files.FileEntry.{FileEntry}
use Rattle.monitor_calls.specs.Volumes.{is_good_volume}
use Rattle.deck_model.specs.declared.limits.TheConstants.{MOST_DECK_BYTES}
use Rattle.deck_model.specs.declared.versions.Version.TheVariants.{Three}
use Rattle.deck_model.specs.Deck.{Deck, Terminal, AreTerminals}
use Rattle.deck_model.specs.Files.{ContentLine, TextLine, BlockLine, content_of}
use Rattle.deck_model.specs.Hex.{is_byte}
use Rattle.deck_model.specs.Lines.{whole_lines}
use Rattle.deck_model.specs.Spelling.{FileWithLines, deck_lines, Spelled}

-- THE LINES OF A FILE

-- one more byte before bytes that do not end with a zero; a zero before nothing goes too
abbrev pub before_zeros : ℕ → List ℕ → List ℕ
before_zeros byte [] = if byte == 0 then [] else byte ∷ []
before_zeros byte (next ∷ bytes) = byte ∷ next ∷ bytes

-- the bytes without the zeros at their end
unfoldable pub without_zeros : List ℕ → List ℕ
without_zeros [] = []
without_zeros (byte ∷ bytes) = before_zeros byte (without_zeros bytes)

-- a printable sign of ASCII, or TAB
abbrev pub is_text_byte : ℕ → Bool
is_text_byte byte = nat_le 32 byte && nat_le byte 126 || byte == 9

abbrev pub is_text_line : List ℕ → Bool
is_text_line line = list_all is_text_byte line

abbrev pub text_lines : List ℕ → List ContentLine
text_lines bytes = map TextLine (whole_lines bytes)

-- lines of such bytes, each ended by CR LF
unfoldable pub is_text : List ℕ → Bool
is_text bytes =
    bytes_eq (content_of (text_lines bytes)) bytes && list_all is_text_line (whole_lines bytes)

-- a page as the line of a block, without the zeros at its end
abbrev pub page_line : List ℕ → ContentLine
page_line page = BlockLine (without_zeros page)

-- a text as its lines, and all else page by page
abbrev pub lines_of_pages : List (List ℕ) → List ContentLine
lines_of_pages pages =
    let bytes = without_zeros (concat pages) in
    if is_text bytes then text_lines bytes else map page_line pages

-- a file of a disk, with the lines that are written of it
abbrev pub file_with_lines : FileEntry → FileWithLines
file_with_lines entry =
    let lines = lines_of_pages entry.pages in
    record {
      file = record {
        name = entry.name;
        code = entry.code;
        blocks = length entry.pages;
        content = content_of lines;
      };
      lines = lines;
    }

-- THE TEXT OF A DISK

-- a terminal at which nothing is typed
abbrev pub keyless : List ℕ → Terminal
keyless name = record { name = name; keys = [] }

-- the deck of a volume, with terminals of these names at which nothing is typed
abbrev pub closing_deck : ℕ → List AccountEntry → List FileEntry → List (List ℕ) → Deck
closing_deck blocks accounts files names =
    record { blocks = blocks; accounts = accounts; files = files; terminals = map keyless names }

-- the lines, each with LF after it
abbrev pub text_of_lines : List (List ℕ) → List ℕ
text_of_lines lines = flat_map (λ line. line ++ 10 ∷ []) lines

-- the text of that deck in version 3
abbrev pub volume_text : ℕ → List AccountEntry → List FileEntry → List (List ℕ) → List ℕ
volume_text blocks accounts files names =
    text_of_lines
    (deck_lines Three (closing_deck blocks accounts files names) (map file_with_lines files))

-- LAWS

-- pages of 512 bytes
abbrev pub is_page : List ℕ → Bool
is_page page = length page == BLOCK_BYTES && list_all is_byte page

abbrev pub has_whole_pages : FileEntry → Bool
has_whole_pages entry = list_all is_page entry.pages

-- THE ROUND TRIP: the text of a good volume spells the deck of that volume.
abbrev pub VolumeIsSpelled : Type 0
VolumeIsSpelled =
    (blocks : ℕ) (accounts : List AccountEntry) (files : List FileEntry) (names : List (List ℕ))
    → is_good_volume blocks accounts files ≡ true → list_all has_whole_pages files ≡ true
    → AreTerminals (map keyless names)
    → Spelled (volume_text blocks accounts files names) (closing_deck blocks accounts files names)

-- The text of a good volume is no longer than an input with a deck of version 3 may be.
abbrev pub VolumeIsShort : Type 0
VolumeIsShort =
    (blocks : ℕ) (accounts : List AccountEntry) (files : List FileEntry) (names : List (List ℕ))
    → is_good_volume blocks accounts files ≡ true → list_all has_whole_pages files ≡ true
    → AreTerminals (map keyless names)
    → length (volume_text blocks accounts files names) ≤ MOST_DECK_BYTES

-- Which bytes spell a deck, in version 1, 2 or 3.
use Rattle.std.specs.Prelude.{◌≡◌, ℕ, ◌≤◌, ◌&&◌, nat_le, true, List, [], ◌∷◌, ◌++◌, length, Option, Some, None, map}
use Rattle.std.specs.List.{AllByRecursion, flat_map, list_all}
use Rattle.std.specs.Fmt.{decimal}
use Rattle.basic_values.specs.declared.limits.TheConstants.{BLOCK_BYTES, MOST_CODE}
use Rattle.monitor_calls.specs.declared.volumes.AccountEntry.{AccountEntry}
use Rattle.monitor_calls.specs.declared.files.FileName.{FileName}
use Rattle.monitor_calls.specs.declared.files.FileEntry.{FileEntry}
use Rattle.monitor_calls.specs.FileNames.{is_deck_name}
use Rattle.deck_model.specs.declared.versions.Version.{Version}
use Rattle.deck_model.specs.declared.versions.Version.TheVariants.{One, Two, Three}
use Rattle.deck_model.specs.Deck as model
use Rattle.deck_model.specs.Deck.{Deck, IsDeck}
use Rattle.deck_model.specs.Files.{File, FitsBlocks, file_entry, ContentLine, TextLine, BlockLine, content_of}
use Rattle.deck_model.specs.Forms as forms
use Rattle.deck_model.specs.Forms.{LineForm, Heading, Disk, Account, Terminal, Keys, Block, End, AccountTexts, FileTexts, has_block_lines, line_of}
use Rattle.deck_model.specs.Hex.{is_byte}
use Rattle.deck_model.specs.Lines.{whole_lines, cut_line}

-- ACCOUNTS

-- version 1 writes no quota, the others write it in digits
abbrev pub quota_told : Version → ℕ → Option (List ℕ)
quota_told One quota = None
quota_told Two quota = Some (decimal quota)
quota_told Three quota = Some (decimal quota)

-- the fields of an account, its numbers in digits
abbrev pub texts_of : Version → AccountEntry → AccountTexts
texts_of version entry = record {
  project = decimal entry.account.project;
  programmer = decimal entry.account.programmer;
  password = entry.password;
  limit = decimal entry.limit;
  quota = quota_told version entry.quota;
}

-- ACCOUNT p,n password limit, and in versions 2 and 3 the quota
abbrev pub account_line : Version → AccountEntry → List ℕ
account_line version entry = line_of (Account (texts_of version entry))

-- a quota that the version can give on a disk of that size: in version 1 it is the whole disk
abbrev pub IsQuota : Version → ℕ → ℕ → Type 0
IsQuota One blocks quota = quota ≡ blocks
IsQuota Two blocks quota = Unit {0}
IsQuota Three blocks quota = Unit {0}

abbrev pub AreQuotas : Version → Deck → Type 0
AreQuotas version deck =
    AllByRecursion (λ (entry : AccountEntry). IsQuota version deck.blocks entry.quota) deck.accounts

-- FILES

-- no point if there is no extension
abbrev pub extension_of : List ℕ → Option (List ℕ)
extension_of [] = None
extension_of (byte ∷ bytes) = Some (byte ∷ bytes)

-- the fields of a file, its numbers in digits
abbrev pub file_texts : File → FileTexts
file_texts file = record {
  project = decimal file.name.owner.project;
  programmer = decimal file.name.owner.programmer;
  stem = file.name.stem;
  extension = extension_of file.name.extension;
  code = decimal file.code;
  blocks = decimal file.blocks;
}

-- a line of keys, or of a file's text, starts with a greater-than sign
abbrev pub key_line : List ℕ → List ℕ
key_line keys = line_of (Keys keys)

abbrev pub content_form : ContentLine → LineForm
content_form (TextLine text) = Keys text
content_form (BlockLine bytes) = Block bytes

-- a line of a file's content
abbrev pub content_line : ContentLine → List ℕ
content_line line = line_of (content_form line)

-- a file, and lines that may give its content
pub record FileWithLines : Type 0 where
  pub file : File
  pub lines : List ContentLine

-- the file as a volume has it
abbrev pub volume_entry : FileWithLines → FileEntry
volume_entry with_lines = file_entry with_lines.file

-- FILE [p,n]STEM.EXT<code> blocks, and the lines of its content
abbrev pub file_lines : FileWithLines → List (List ℕ)
file_lines with_lines =
    line_of (forms.File (file_texts with_lines.file)) ∷ map content_line with_lines.lines

-- only version 3 has lines of blocks, each with no more bytes than a block
abbrev pub MayHave : Version → ContentLine → Type 0
MayHave version (TextLine text) = Unit {0}
MayHave version (BlockLine bytes) =
    (has_block_lines version ≡ true) × (list_all is_byte bytes ≡ true) × (length bytes ≤ BLOCK_BYTES)

-- the lines give the file's bytes, and these fit in its blocks
pub record HasLines (version : Version) (with_lines : FileWithLines) : Type 0 where
  pub may : AllByRecursion (MayHave version) with_lines.lines
  pub content : with_lines.file.content ≡ content_of with_lines.lines
  pub fits : FitsBlocks with_lines.file

-- these are the files, and each has its lines
pub record HaveLines (version : Version) (files : List FileEntry) (with_lines : List FileWithLines) : Type 0 where
  pub each : AllByRecursion (HasLines version) with_lines
  pub files_are : map volume_entry with_lines ≡ files

-- a name and a code that the version can give: versions 1 and 2 have smaller ranges
abbrev pub IsNameIn : Version → FileName → ℕ → Type 0
IsNameIn One name code = (is_deck_name name && nat_le code MOST_CODE) ≡ true
IsNameIn Two name code = (is_deck_name name && nat_le code MOST_CODE) ≡ true
IsNameIn Three name code = Unit {0}

abbrev pub AreNamesIn : Version → List FileEntry → Type 0
AreNamesIn version files =
    AllByRecursion (λ (file : FileEntry). IsNameIn version file.name file.code) files

-- THE WHOLE DECK

-- TERMINAL name, and its key lines
abbrev pub terminal_lines : model.Terminal → List (List ℕ)
terminal_lines terminal = line_of (Terminal terminal.name) ∷ map key_line terminal.keys

-- RSTS-DECK and the version, DISK blocks, the accounts, the files and the terminals
abbrev pub group_lines : Version → Deck → List FileWithLines → List (List ℕ)
group_lines version deck with_lines =
    line_of (Heading version) ∷ line_of (Disk (decimal deck.blocks))
    ∷ (map (account_line version) deck.accounts
    ++ (flat_map file_lines with_lines ++ flat_map terminal_lines deck.terminals))

-- the lines of a deck, of which END is the last
abbrev pub deck_lines : Version → Deck → List FileWithLines → List (List ℕ)
deck_lines version deck with_lines = group_lines version deck with_lines ++ line_of End ∷ []

-- The bytes are the lines of the deck in some version, with some lines for the content of its
-- files, and nothing comes after them.
pub record Spelled (bytes : List ℕ) (deck : Deck) : Type 0 where
  pub version : Version
  pub with_lines : List FileWithLines
  pub is_deck : IsDeck deck
  pub quotas : AreQuotas version deck
  pub names : AreNamesIn version deck.files
  pub have_lines : HaveLines version deck.files with_lines
  pub lines_are : whole_lines bytes ≡ deck_lines version deck with_lines
  pub ends : cut_line bytes ≡ []

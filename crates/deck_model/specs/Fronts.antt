-- Fronts of decks: what the first lines of a deck say, and what one more line adds.
use Rattle.std.specs.Prelude.{◌≡◌, ℕ, true, List, [], ◌∷◌, ◌++◌, Option, Some, None, unwrap_or, codes}
use Rattle.std.specs.Str.Parse.{digits_value}
use Rattle.monitor_calls.specs.declared.volumes.AccountEntry.{AccountEntry}
use Rattle.deck_model.specs.declared.versions.Version.{Version}
use Rattle.deck_model.specs.declared.versions.Version.TheVariants.{One, Two, Three}
use Rattle.deck_model.specs.Deck as model
use Rattle.deck_model.specs.Deck.{Deck, IsDeck}
use Rattle.deck_model.specs.Files.{file_entry, ContentLine, block_of}
use Rattle.deck_model.specs.Forms.{LineForm, Heading, Disk, Account, File, Terminal, Keys, Block, End, AccountTexts, FileTexts, has_block_lines, line_of}
use Rattle.deck_model.specs.Spelling.{FileWithLines, HasLines, HaveLines, group_lines, file_lines, terminal_lines, deck_lines, AreNamesIn, AreQuotas}

-- Nothing yet; the version, which each later front keeps; the disk and the accounts. A deck that
-- has no terminal yet, and its last file, which may get more content. A deck and its last terminal,
-- which may get more keys; a whole deck
pub data Front : Type 0 where
  Nothing : Front
  Versioned : Version → Front
  InAccounts : Version → Deck → Front
  InFile : Version → Deck → model.File → Front
  InTerminal : Version → Deck → model.Terminal → Front
  Whole : Version → Deck → Front

abbrev pub with_account : Deck → AccountEntry → Deck
with_account deck entry = record deck { accounts = deck.accounts ++ entry ∷ [] }

abbrev pub with_file : Deck → model.File → Deck
with_file deck file = record deck { files = deck.files ++ file_entry file ∷ [] }

abbrev pub with_content : model.File → List ℕ → model.File
with_content file bytes = record file { content = file.content ++ bytes }

-- one more line of text, with CR LF after it
abbrev pub with_text : model.File → List ℕ → model.File
with_text file text = with_content file (text ++ codes "\r\n")

-- one more block, which starts with these bytes
abbrev pub with_block : model.File → List ℕ → model.File
with_block file bytes = with_content file (block_of bytes)

abbrev pub with_terminal : Deck → model.Terminal → Deck
with_terminal deck terminal = record deck { terminals = deck.terminals ++ terminal ∷ [] }

abbrev pub with_keys : model.Terminal → List ℕ → model.Terminal
with_keys terminal keys = record terminal { keys = terminal.keys ++ keys ∷ [] }

-- a deck of a disk alone
abbrev pub bare_deck : ℕ → Deck
bare_deck blocks = record { blocks = blocks; accounts = []; files = []; terminals = [] }

-- the deck of all groups so far
abbrev pub deck_at : Front → Deck
deck_at (InAccounts version deck) = deck
deck_at (InFile version deck file) = with_file deck file
deck_at (InTerminal version deck terminal) = with_terminal deck terminal
deck_at (Whole version deck) = deck
deck_at front = bare_deck 0

-- the version of the lines so far
abbrev pub version_at : Front → Version
version_at Nothing = One
version_at (Versioned version) = version
version_at (InAccounts version deck) = version
version_at (InFile version deck file) = version
version_at (InTerminal version deck terminal) = version
version_at (Whole version deck) = version

-- a deck that can be run, whose quotas and file names the version can give
pub record IsDeckIn (version : Version) (deck : Deck) : Type 0 where
  pub is_deck : IsDeck deck
  pub quotas : AreQuotas version deck
  pub names : AreNamesIn version deck.files

-- the lines of a deck that has no file and no terminal yet
pub record BeginsAccounts (version : Version) (deck : Deck) (lines : List (List ℕ)) : Type 0 where
  pub is : IsDeckIn version deck
  pub no_file : deck.files ≡ []
  pub no_terminal : deck.terminals ≡ []
  pub lines_are : lines ≡ group_lines version deck []

-- the lines of a deck that has no terminal yet, and those of its last file, so far
pub record BeginsFile (version : Version) (deck : Deck) (file : model.File) (lines : List (List ℕ)) : Type 0 where
  pub is : IsDeckIn version (with_file deck file)
  pub no_terminal : deck.terminals ≡ []
  pub with_lines : List FileWithLines
  pub have_lines : HaveLines version deck.files with_lines
  pub last : List ContentLine
  pub has_lines : HasLines version (record { file = file; lines = last })
  pub lines_are : lines ≡ group_lines version deck with_lines ++ file_lines (record { file = file; lines = last })

-- the lines of a deck, and those of its last terminal, so far
pub record BeginsTerminal (version : Version) (deck : Deck) (terminal : model.Terminal) (lines : List (List ℕ)) : Type 0 where
  pub is : IsDeckIn version (with_terminal deck terminal)
  pub with_lines : List FileWithLines
  pub have_lines : HaveLines version deck.files with_lines
  pub lines_are : lines ≡ group_lines version deck with_lines ++ terminal_lines terminal

-- all lines of a deck
pub record BeginsWhole (version : Version) (deck : Deck) (lines : List (List ℕ)) : Type 0 where
  pub is : IsDeckIn version deck
  pub with_lines : List FileWithLines
  pub have_lines : HaveLines version deck.files with_lines
  pub lines_are : lines ≡ deck_lines version deck with_lines

-- these lines begin a deck that can be run, and this is what they say
abbrev pub BeginsDeck : Front → List (List ℕ) → Type 0
BeginsDeck Nothing lines = lines ≡ []
BeginsDeck (Versioned version) lines = lines ≡ line_of (Heading version) ∷ []
BeginsDeck (InAccounts version deck) lines = BeginsAccounts version deck lines
BeginsDeck (InFile version deck file) lines = BeginsFile version deck file lines
BeginsDeck (InTerminal version deck terminal) lines = BeginsTerminal version deck terminal lines
BeginsDeck (Whole version deck) lines = BeginsWhole version deck lines

-- version 1 has no quota, and the others have one
abbrev pub MayTell : Version → Option (List ℕ) → Type 0
MayTell One None = Unit {0}
MayTell Two (Some quota) = Unit {0}
MayTell Three (Some quota) = Unit {0}
MayTell version quota = ⊥

-- which forms a front allows on the next line
abbrev pub May : Front → LineForm → Type 0
May Nothing (Heading version) = Unit {0}
May (Versioned version) (Disk blocks) = Unit {0}
May (InAccounts version deck) (Account texts) = MayTell version texts.quota
May (InAccounts version deck) (File texts) = Unit {0}
May (InAccounts version deck) (Terminal name) = Unit {0}
May (InAccounts version deck) End = Unit {0}
May (InFile version deck file) (Keys text) = Unit {0}
May (InFile version deck file) (Block bytes) = has_block_lines version ≡ true
May (InFile version deck file) (File texts) = Unit {0}
May (InFile version deck file) (Terminal name) = Unit {0}
May (InFile version deck file) End = Unit {0}
May (InTerminal version deck terminal) (Keys keys) = Unit {0}
May (InTerminal version deck terminal) (Terminal name) = Unit {0}
May (InTerminal version deck terminal) End = Unit {0}
May front form = ⊥

-- the quota that the line gives, or else the whole disk
abbrev pub quota_from : ℕ → Option (List ℕ) → ℕ
quota_from blocks None = blocks
quota_from blocks (Some quota) = digits_value 10 quota

-- the account of these fields, on a disk of that many blocks
abbrev pub entry_of : ℕ → AccountTexts → AccountEntry
entry_of blocks texts = record {
  account = record {
    project = digits_value 10 texts.project;
    programmer = digits_value 10 texts.programmer;
  };
  password = texts.password;
  limit = digits_value 10 texts.limit;
  quota = quota_from blocks texts.quota;
}

-- the file of these fields, which has no content yet
abbrev pub new_file : FileTexts → model.File
new_file texts = record {
  name = record {
    owner = record {
      project = digits_value 10 texts.project;
      programmer = digits_value 10 texts.programmer;
    };
    stem = texts.stem;
    extension = unwrap_or texts.extension [];
  };
  code = digits_value 10 texts.code;
  blocks = digits_value 10 texts.blocks;
  content = [];
}

abbrev pub new_deck : List ℕ → Deck
new_deck blocks = bare_deck (digits_value 10 blocks)

abbrev pub new_terminal : List ℕ → model.Terminal
new_terminal name = record { name = name; keys = [] }

-- the front after a line of that form
abbrev pub adds : Front → LineForm → Front
adds Nothing (Heading version) = Versioned version
adds (Versioned version) (Disk blocks) = InAccounts version (new_deck blocks)
adds (InAccounts version deck) (Account texts) =
    InAccounts version (with_account deck (entry_of deck.blocks texts))
adds (InFile version deck file) (Keys text) = InFile version deck (with_text file text)
adds (InFile version deck file) (Block bytes) = InFile version deck (with_block file bytes)
adds (InTerminal version deck terminal) (Keys keys) =
    InTerminal version deck (with_keys terminal keys)
adds front (File texts) = InFile (version_at front) (deck_at front) (new_file texts)
adds front (Terminal name) = InTerminal (version_at front) (deck_at front) (new_terminal name)
adds front End = Whole (version_at front) (deck_at front)
adds front form = front

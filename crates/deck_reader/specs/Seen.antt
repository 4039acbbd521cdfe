-- What the code reads, in the words of the definitions, and what its answers say.
use Rattle.std.specs.Prelude.{◌≡◌, ℕ, ◌+◌, ◌&&◌, nat_lt, Bool, bytes_eq, List, [], ◌∷◌, Option, Some, None, Result, Ok, Err, map, ⊤}
use Rattle.std.specs.List.{list_any}
use Rattle.std.specs.Borrow.{Bor}
use Rattle.basic_values.specs.declared.failures.Trouble.{Trouble}
use Rattle.basic_values.specs.declared.failures.Trouble.TheVariants as trouble
use Rattle.monitor_calls.specs.declared.names.Account.{Account}
use Rattle.monitor_calls.specs.declared.files.FileEntry.{FileEntry}
use Rattle.monitor_calls.specs.declared.volumes.AccountEntry.{AccountEntry}
use Rattle.monitor_calls.specs.Volumes.{same_account, blocks_owned}
use Rattle.deck_model.specs.declared.faults.DeckCause.{DeckCause}
use Rattle.deck_model.specs.declared.faults.DeckFault.{DeckFault}
use Rattle.deck_model.specs.Deck as model
use Rattle.deck_model.specs.Forms as forms
use Rattle.deck_model.specs.Fronts as fronts
use Rattle.deck_model.specs.Hex.{hex_bytes}
use Rattle.deck_model.specs.Lines.{whole_lines, cut_line}
use Rattle.deck_model.specs.Reading.{DeckVerdict, Yields, Refuses}
use Rattle.deck_reader.specs.declared.decks.Deck.{Deck}
use Rattle.deck_reader.specs.declared.decks.OpenFile.{OpenFile}
use Rattle.deck_reader.specs.declared.decks.Terminal.{Terminal}
use Rattle.deck_reader.specs.declared.failures.ReadError.{ReadError}
use Rattle.deck_reader.specs.declared.failures.ReadError.TheVariants as errors
use Rattle.deck_reader.specs.declared.forms.AccountTexts.{AccountTexts}
use Rattle.deck_reader.specs.declared.forms.FileTexts.{FileTexts}
use Rattle.deck_reader.specs.declared.forms.ContentsForm.{ContentsForm}
use Rattle.deck_reader.specs.declared.forms.ContentsForm.TheVariants as contents
use Rattle.deck_reader.specs.declared.forms.GroupForm.{GroupForm}
use Rattle.deck_reader.specs.declared.forms.GroupForm.TheVariants as group
use Rattle.deck_reader.specs.declared.forms.SessionForm.{SessionForm}
use Rattle.deck_reader.specs.declared.forms.SessionForm.TheVariants as session
use Rattle.deck_reader.specs.declared.fronts.Front.{Front}
use Rattle.deck_reader.specs.declared.fronts.Front.TheVariants as code

abbrev pub terminal_of : Terminal → model.Terminal
terminal_of terminal = record { name = terminal.name; keys = terminal.keys.items }

-- whether a terminal has this name
unfoldable pub is_named : List Terminal → List ℕ → Bool
is_named terminals name = list_any (λ (terminal : Terminal). bytes_eq terminal.name name) terminals

-- whether the owner is one of the accounts, with too small a quota for this many blocks more
unfoldable pub is_over : List AccountEntry → List FileEntry → Account → ℕ → Bool
is_over accounts files owner blocks =
    let owned = blocks_owned files owner + blocks in
    list_any
    (λ (entry : AccountEntry). same_account entry.account owner && nat_lt entry.quota owned)
    accounts

-- a deck as a value
abbrev pub deck_of : Deck → model.Deck
deck_of deck = record {
  blocks = deck.volume.blocks;
  accounts = deck.volume.accounts.items;
  files = deck.volume.files.items;
  terminals = map terminal_of deck.terminals.items;
}

-- a file that may get more content
abbrev pub open_of : OpenFile → model.File
open_of file = record {
  name = file.name;
  code = file.code;
  blocks = file.blocks;
  content = file.content.items;
}

abbrev pub front_of : Front → fronts.Front
front_of code.Nothing = fronts.Nothing
front_of (code.Versioned version) = fronts.Versioned version
front_of (code.InAccounts version deck) = fronts.InAccounts version (deck_of deck)
front_of (code.InFile version deck file) = fronts.InFile version (deck_of deck) (open_of file)
front_of (code.InTerminal version deck terminal) =
    fronts.InTerminal version (deck_of deck) (terminal_of terminal)
front_of (code.Whole version deck) = fronts.Whole version (deck_of deck)

-- an optional text as a value
abbrev pub option_seen : Option (Bor (List ℕ)) → Option (List ℕ)
option_seen None = None
option_seen (Some text) = Some text.now

abbrev pub texts_seen : AccountTexts → forms.AccountTexts
texts_seen texts = record {
  project = texts.project.now;
  programmer = texts.programmer.now;
  password = texts.password.now;
  limit = texts.limit.now;
  quota = option_seen texts.quota;
}

abbrev pub file_texts_seen : FileTexts → forms.FileTexts
file_texts_seen texts = record {
  project = texts.project.now;
  programmer = texts.programmer.now;
  stem = texts.stem.now;
  extension = option_seen texts.extension;
  code = texts.code.now;
  blocks = texts.blocks.now;
}

abbrev pub group_seen : GroupForm → forms.LineForm
group_seen (group.Account texts) = forms.Account (texts_seen texts)
group_seen (group.File texts) = forms.File (file_texts_seen texts)
group_seen (group.Terminal name) = forms.Terminal name.now
group_seen group.End = forms.End

abbrev pub contents_seen : ContentsForm → forms.LineForm
contents_seen (contents.Text text) = forms.Keys text.now
contents_seen (contents.Block digits) = forms.Block (hex_bytes digits.now)
contents_seen (contents.File texts) = forms.File (file_texts_seen texts)
contents_seen (contents.Terminal name) = forms.Terminal name.now
contents_seen contents.End = forms.End

abbrev pub session_seen : SessionForm → forms.LineForm
session_seen (session.Keys keys) = forms.Keys keys.now
session_seen (session.Terminal name) = forms.Terminal name.now
session_seen session.End = forms.End

-- the first line and the bytes after it; or there is no whole line
abbrev pub CutsLine : {X : Type 0} → (X → List ℕ × List ℕ) → List ℕ → Option X → Type 0
CutsLine view bytes None = (whole_lines bytes ≡ []) × (cut_line bytes ≡ bytes)
CutsLine view bytes (Some x) =
    (whole_lines bytes ≡ (view x).0 ∷ whole_lines (view x).1)
    × (cut_line bytes ≡ cut_line (view x).1)

-- the answer, seen by view, is what reading says, unless memory ran out
abbrev pub Decides : {X Y : Type 0} → (X → Y) → Result X ReadError → Result Y DeckCause → Type 0
Decides view (Ok x) read = read ≡ Ok (view x)
Decides view (Err errors.Memory) read = ⊤
Decides view (Err (errors.Refused why)) read = read ≡ Err why

abbrev pub trouble_at : ReadError → ℕ → Trouble DeckFault
trouble_at errors.Memory line = trouble.NoMemory
trouble_at (errors.Refused why) line = trouble.Refused (record { line = line; cause = why })

-- a fact of the line and the cause of a rejection
abbrev pub IfRefused : Result Deck (Trouble DeckFault) → (DeckFault → Type 0) → Type 0
IfRefused (Err (trouble.Refused fault)) P = P fault
IfRefused answer P = Unit {0}

-- the answer is the verdict, unless memory ran out
abbrev pub Tells : Result Deck (Trouble DeckFault) → DeckVerdict → Type 0
Tells (Ok deck) v = v ≡ Yields (deck_of deck)
Tells (Err (trouble.Refused fault)) v = v ≡ Refuses fault.line fault.cause
Tells (Err trouble.NoMemory) v = ⊤

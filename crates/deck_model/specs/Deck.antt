-- A deck: the disk's blocks, the accounts, the files with their pages, and the terminals with their
-- keys.
use Rattle.std.specs.Prelude.{◌≡◌, ℕ, ◌≤◌, ◌&&◌, Bool, true, not, List, [], ◌∷◌, length, bytes_eq}
use Rattle.std.specs.List.{AllByRecursion, list_any}
use Rattle.basic_values.specs.declared.limits.TheConstants.{MOST_JOBS}
use Rattle.basic_values.specs.declared.lists.TheConstants.{LINE_LENGTH}
use Rattle.monitor_calls.specs.declared.volumes.AccountEntry.{AccountEntry}
use Rattle.monitor_calls.specs.declared.files.FileEntry.{FileEntry}
use Rattle.monitor_calls.specs.Names.{is_terminal_name}
use Rattle.monitor_calls.specs.Volumes.{is_good_volume}
pub use Rattle.deck_model.specs.Files.{File}

-- a terminal's name, and its key lines, each ended by RETURN
pub record Terminal : Type 0 where
  pub name : List ℕ
  pub keys : List (List ℕ)

pub record Deck : Type 0 where
  pub blocks : ℕ
  pub accounts : List AccountEntry
  pub files : List FileEntry
  pub terminals : List Terminal

abbrev pub IsKeyLine : List ℕ → Type 0
IsKeyLine keys = length keys ≤ LINE_LENGTH

-- a name of 1 to 8 capital letters and digits, and key lines that are not too long
pub record IsTerminal (terminal : Terminal) : Type 0 where
  pub name : is_terminal_name terminal.name ≡ true
  pub keys : AllByRecursion IsKeyLine terminal.keys

-- whether a terminal has this name
abbrev pub has_terminal : List Terminal → List ℕ → Bool
has_terminal terminals name = list_any (λ terminal. bytes_eq terminal.name name) terminals

-- their names differ
abbrev pub are_named_apart : List Terminal → Bool
are_named_apart [] = true
are_named_apart (terminal ∷ terminals) =
    not (has_terminal terminals terminal.name) && are_named_apart terminals

-- terminals in their ranges, at most 63, whose names differ
pub record AreTerminals (terminals : List Terminal) : Type 0 where
  pub each : AllByRecursion IsTerminal terminals
  pub apart : are_named_apart terminals ≡ true
  pub few : length terminals ≤ MOST_JOBS

-- a deck that can be run: its volume and its terminals are good
pub record IsDeck (deck : Deck) : Type 0 where
  pub volume : is_good_volume deck.blocks deck.accounts deck.files ≡ true
  pub terminals : AreTerminals deck.terminals

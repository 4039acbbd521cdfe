-- A run of a deck: what its monitor answered, and the sessions of its terminals.
use Rattle.std.specs.Prelude.{◌≡◌, ℕ, List, length, map, slice_get, Some}
use Rattle.monitor_calls.specs.declared.calls.Entry.{Entry}
use Rattle.monitor_calls.specs.Pairs.{Pair, requests, replies}
use Rattle.monitor_calls.specs.Proper.{Proper}
use Rattle.monitor_calls.specs.Typing.{Typing, all_typed}
use Rattle.monitor_model.specs.State as monitor
use Rattle.monitor_model.specs.History.{Legal, part_of}
use Rattle.session_model.specs.Talk.{IsTalk}
use Rattle.deck_model.specs.Deck.{Deck, Terminal}

-- the session of these keys, given the replies of the pairs, makes their requests and ends with the
-- screen
unfoldable pub Talks : Typing → List Pair → List ℕ → Type 0
Talks keys pairs screen = IsTalk keys (replies pairs) (requests pairs) screen

-- a job's part of the history is what the terminal's session makes, and the screen is what it shows
abbrev pub HasTalked : List Entry → ℕ → Terminal → List ℕ → Type 0
HasTalked history job terminal screen =
    Talks (all_typed terminal.keys) (part_of job history) screen

-- there are as many screens as terminals, and the terminal at each place had its session as the job
-- of that number
pub record AllTalk (history : List Entry) (terminals : List Terminal) (screens : List (List ℕ))
    : Type 0 where
  pub as_many : length screens ≡ length terminals
  pub each : (j : ℕ) (terminal : Terminal) (screen : List ℕ) → slice_get terminals j ≡ Some terminal
      → slice_get screens j ≡ Some screen → HasTalked history j terminal screen

-- the state of the monitor that the deck gives, with a job for each terminal
abbrev pub opening_of : Deck → monitor.State
opening_of deck =
    monitor.opening deck.accounts deck.blocks deck.files (length deck.terminals)

-- the monitor answered one call at a time, from the deck's opening state, and each job made the
-- requests that its terminal's keys make given the replies
pub record IsRun (deck : Deck) (history : List Entry) (screens : List (List ℕ)) : Type 0 where
  pub legal : Legal (opening_of deck) history
  pub proper : Proper history
  pub talks : AllTalk history deck.terminals screens

abbrev pub names_in : Deck → List (List ℕ)
names_in deck = map (λ (terminal : Terminal). terminal.name) deck.terminals

-- The rule of the table under a gate, and what its seat learns at each step on it. It supports the
-- proof of *one history*, and no public promise needs it.
use Rattle.std.specs.Prelude.{◌≡◌, ◌≢◌, ℕ, ◌+◌, ◌<◌, ◌≤◌, Bool, true, false, List, [], ◌∷◌, length, Some, None}
use Rattle.std.specs.Prelude.{Option as Maybe}
use mathlib.Core.Option.{Option, none, some}
use lib.ListN.{get_elem?}
use Rattle.atomic_table.specs.Table.{State as TableState, Me, Step}
use Rattle.monitor_calls.specs.declared.calls.Entry.{Entry}
use Rattle.monitor_model.specs.State.{State, opening as opened}
use Rattle.monitor_model.specs.History.{after, part_of}
use Rattle.monitor_gate.specs.declared.recorded.RecordedMonitor.{RecordedMonitor}
use Rattle.monitor_gate.specs.declared.views.Pass.{Pass}
use Rattle.monitor_gate.specs.declared.views.SparePass.{SparePass}
use Rattle.monitor_gate.specs.declared.views.Knows.{Knows}
use Rattle.monitor_gate.specs.declared.views.Knows.TheVariants.{Spare, Asks, HasTurn, Spent}
use Rattle.monitor_gate.specs.Passes.{first_pass, after_split, split_off, after_join}
use Rattle.monitor_gate.specs.OneHistory.{StartsWith, IsHistory, IsPassOf}

-- the words, slots and views of the gate's table
abbrev pub Board : Type 0
Board = TableState (Maybe RecordedMonitor) Knows

-- a seat: what it knows, and what it has in its hands
abbrev pub Hand : Type 0
Hand = Me (Maybe RecordedMonitor) Knows

-- THE RULE

-- a pass that was split off and not joined is one
abbrev pub is_out : Knows → ℕ
is_out (Spare spare) = 0
is_out (Asks pass) = 1
is_out (HasTurn pass found) = 1
is_out Spent = 0

abbrev pub how_many_out : List Knows → ℕ
how_many_out [] = 0
how_many_out (knows ∷ rest) = is_out knows + how_many_out rest

-- What the rule alone knows of a board. It knows the history, whether the turn is taken and which
-- seat has it, and which seat is the spare one. It also knows how many seats were split off and how
-- many joined, and the seat of each job whose seat is out
pub record Round : Type 0 where
  pub history : List Entry
  pub taken : Bool
  pub holder : ℕ
  pub spare : ℕ
  pub made : ℕ
  pub gone : ℕ
  pub owner : ℕ → Option ℕ

-- this is the history, and the monitor is in the state after it
pub record Records (opening : State) (history : List Entry) (kept : RecordedMonitor) : Type 0 where
  pub items : kept.history.items ≡ history
  pub state : kept.monitor ≡ after opening history

-- nobody has the turn, and the monitor is in its slot
pub record IsHome (opening : State) (history : List Entry) (board : Board) : Type 0 where
  pub turn : board.words ≡ 0 ∷ []
  pub kept : RecordedMonitor
  pub slot : board.homes ≡ some (Some kept) ∷ []
  pub records : Records opening history kept

-- a seat has the turn, and found this history
pub record IsAway (history : List Entry) (holder : ℕ) (board : Board) : Type 0 where
  pub turn : board.words ≡ 1 ∷ []
  pub slot : board.homes ≡ none ∷ []
  pub pass : Pass
  pub knows : get_elem? board.views holder ≡ some (HasTurn pass history)

abbrev pub Placed : State → List Entry → ℕ → Bool → Board → Type 0
Placed opening history holder false board = IsHome opening history board
Placed opening history holder true board = IsAway history holder board

-- a seat's pass is of the gate, and of the history so far
pub record Fits (opening : State) (history : List Entry) (owner : ℕ → Option ℕ) (id : ℕ) (pass : Pass) : Type 0 where
  pub opening_is : pass.opening ≡ opening
  pub owns : owner pass.job ≡ some id
  pub part : IsPassOf history pass

-- an ended pass is of one of the jobs, whose seat is not out any more
pub record HasEnded (history : List Entry) (made : ℕ) (owner : ℕ → Option ℕ) (pass : Pass) : Type 0 where
  pub below : pass.job < made
  pub unowned : owner pass.job ≡ none
  pub part : IsPassOf history pass

-- no job is twice among these
abbrev pub Apart : List Pass → Type 0
Apart passes = (i j : ℕ) (p q : Pass) → get_elem? passes i ≡ some p → get_elem? passes j ≡ some q → p.job ≡ q.job → i ≡ j

pub record SpareFits (opening : State) (history : List Entry) (spare made gone : ℕ) (owner : ℕ → Option ℕ) (id : ℕ) (pass : SparePass) : Type 0 where
  pub is_spare : id ≡ spare
  pub opening_is : pass.opening ≡ opening
  pub made_is : pass.made ≡ made
  pub gone_is : length pass.ended ≡ gone
  pub seen : StartsWith history pass.seen
  pub ended : (k : ℕ) (p : Pass) → get_elem? pass.ended k ≡ some p → HasEnded history made owner p
  pub apart : Apart pass.ended

pub record TurnFits (opening : State) (round : Round) (id : ℕ) (pass : Pass) (found : List Entry) : Type 0 where
  pub fits : Fits opening round.history round.owner id pass
  pub is_holder : id ≡ round.holder
  pub is_taken : round.taken ≡ true
  pub found_is : found ≡ round.history

abbrev pub Knowing : State → Round → ℕ → Knows → Type 0
Knowing opening round id (Spare pass) = SpareFits opening round.history round.spare round.made round.gone round.owner id pass
Knowing opening round id (Asks pass) = Fits opening round.history round.owner id pass
Knowing opening round id (HasTurn pass found) = TurnFits opening round id pass found
Knowing opening round id Spent = Unit {0}

-- There is one history. What each seat knows is of it, and a job whose seat was not split off has
-- no part in it
pub record Kept (opening : State) (board : Board) : Type 0 where
  pub round : Round
  pub is_history : IsHistory opening round.history
  pub placed : Placed opening round.history round.holder round.taken board
  pub counted : how_many_out board.views + round.gone ≡ round.made
  pub bounded : round.made ≤ length opening.jobs
  pub unmade : (job : ℕ) → round.made ≤ job → (round.owner job ≡ none) × (part_of job round.history ≡ [])
  pub each : (id : ℕ) (knows : Knows) → get_elem? board.views id ≡ some knows → Knowing opening round id knows

-- WHAT STEPS SHOW

abbrev pub first_view : State → Knows
first_view opening = Spare (first_pass opening)

abbrev nothing : State
nothing = opened [] 0 [] 0

-- the pass that a seat has; one that has none counts as one that knows nothing
abbrev pub pass_of : Knows → Pass
pass_of (Asks pass) = pass
pass_of (HasTurn pass found) = pass
pass_of knows = record { opening = nothing; job = 0; seen = []; mine = [] }

abbrev pub spare_of : Knows → SparePass
spare_of (Spare pass) = pass
spare_of knows = first_pass nothing

-- the history that a seat has in its hands
abbrev pub history_in : List (ℕ × Maybe RecordedMonitor) → List Entry
history_in ((slot, Some kept) ∷ rest) = kept.history.items
history_in held = []

abbrev pub IsAsking : Hand → Type 0
IsAsking hand = hand ≡ (Asks (pass_of hand.0), [])

abbrev pub IsSpare : Hand → Type 0
IsSpare hand = hand ≡ (Spare (spare_of hand.0), [])

-- what a pass that has the turn knows of the monitor and the history that it found
pub record Found (pass : Pass) (kept : RecordedMonitor) : Type 0 where
  pub is_history : IsHistory pass.opening kept.history.items
  pub state : kept.monitor ≡ after pass.opening kept.history.items
  pub part : IsPassOf kept.history.items pass
  pub is_job : pass.job < length pass.opening.jobs

-- the pass has the turn, and the monitor is its own to take
abbrev pub Took : Pass → Hand → Type 0
Took pass hand = (kept : RecordedMonitor) × (hand ≡ (HasTurn pass kept.history.items, (0, Some kept) ∷ [])) × Found pass kept

-- the pass has the turn, and the monitor was taken out
pub record HasTaken (pass : Pass) (kept : RecordedMonitor) (hand : Hand) : Type 0 where
  pub hand_is : hand ≡ (HasTurn pass kept.history.items, (0, None) ∷ [])
  pub found : Found pass kept

-- the pass after a turn in which the history became this one
abbrev pub grown : Pass → List Entry → Pass
grown pass history = record { opening = pass.opening; job = pass.job; seen = history; mine = part_of pass.job history }

abbrev pub tried : Step (Maybe RecordedMonitor) → Hand → ℕ → Hand → Type 0
tried step hand turn hand' = (turn ≡ 0 → Took (pass_of hand.0) hand') × (turn ≢ 0 → hand' ≡ hand)

abbrev pub ended_with_entry : Step (Maybe RecordedMonitor) → Hand → ℕ → Hand → Type 0
ended_with_entry step hand turn hand' = hand' ≡ (Asks (grown (pass_of hand.0) (history_in hand.1)), [])

abbrev pub ended_as_found : Step (Maybe RecordedMonitor) → Hand → ℕ → Hand → Type 0
ended_as_found step hand turn hand' = hand' ≡ (Asks (pass_of hand.0), [])

abbrev pub left_of_split : Knows → Knows
left_of_split (Spare pass) = Spare (after_split pass)
left_of_split knows = knows

abbrev pub right_of_split : Knows → Knows
right_of_split (Spare pass) = Asks (split_off pass)
right_of_split knows = Spent

abbrev pub both_joined : Knows → Knows → Knows
both_joined (Spare spare) (Asks pass) = Spare (after_join spare pass)
both_joined knows other = knows

-- When a list of entries is a history of jobs that do this, and the place where it first fails.
use Rattle.std.specs.Prelude.{◌≡◌, ℕ, zero, suc, ◌==◌, ◌<◌, ◌≤◌, if◌then◌else◌, List, [], ◌∷◌, ◌++◌, length, take, slice_get, IfSome, Result, Ok, Err}
use Rattle.std.specs.Global.{Vec}
use Rattle.basic_values.specs.declared.failures.Trouble.{Trouble}
use Rattle.basic_values.specs.declared.failures.Trouble.TheVariants as trouble
use Rattle.monitor_calls.specs.declared.calls.Entry.{Entry}
use Rattle.monitor_calls.specs.Pairs.{Pair, requests}
use Rattle.monitor_model.specs.State.{State}
use Rattle.monitor_model.specs.History.{after, IsAnswered, Legal, part_of}
use Rattle.terminal_runner.specs.Runs.{AllDid}
use Rattle.history_replay.specs.declared.disputes.Dispute.{Dispute}
use Rattle.history_replay.specs.declared.disputes.Dispute.TheVariants as dispute

-- what the job of a number does, of what each does
abbrev pub each_does : {J : Type 0} → (J → List Pair → List ℕ → Type 0) → List J → ℕ → List Pair → List ℕ → Type 0
each_does does jobs number pairs screen = IfSome (slice_get jobs number) (λ job. does job pairs screen)

-- THE FIRST WRONG REPLY

-- the entry at this place is the first that the monitor does not answer so: its job is none, or its
-- reply is another
pub record WrongReply (m : State) (history : List Entry) (place : ℕ) : Type 0 where
  pub before : List Entry
  pub entry : Entry
  pub behind : List Entry
  pub split : history ≡ before ++ entry ∷ behind
  pub place_is : place ≡ length before
  pub legal : Legal m before
  pub wrong : IsAnswered (after m before) entry → ⊥

-- the monitor after a legal history, or its first wrong reply; or memory ran out
abbrev pub IsAfter : State → List Entry → Result State (Trouble Dispute) → Type 0
IsAfter m history (Ok end) = Legal m history × (end ≡ after m history)
IsAfter m history (Err (trouble.Refused (dispute.Reply entry))) = WrongReply m history entry
IsAfter m history (Err (trouble.Refused (dispute.Meaning job place position))) = ⊥
IsAfter m history (Err trouble.NoMemory) = Unit {0}

-- THE FIRST JOB THAT DEPARTS

-- the place in the history of a job's nth entry, counted from 0; if there is none, the place after
-- the last entry
abbrev pub entry_position : ℕ → ℕ → List Entry → ℕ
entry_position job place [] = 0
entry_position job zero (entry ∷ history) =
    if entry.job == job then 0 else suc (entry_position job zero history)
entry_position job (suc place) (entry ∷ history) =
    suc (if entry.job == job then entry_position job place history else entry_position job (suc place) history)

module _ (does : ℕ → List Pair → List ℕ → Type 0) where
  -- The body does other things than this part of a job. With the replies of the part so far, it
  -- departs at this place: it makes another request, or none although the part goes on, or one
  -- although the part has ended
  pub record Departs (job : ℕ) (part : List Pair) (place : ℕ) : Type 0 where
    pub pairs : List Pair
    pub screen : List ℕ
    pub done : does job pairs screen
    pub common : take place pairs ≡ take place part
    pub within_pairs : place ≤ length pairs
    pub within_part : place ≤ length part
    pub differs : slice_get (requests pairs) place ≡ slice_get (requests part) place → ⊥

  -- the least job that departs from its part: which it is, the place in its part, and the place in
  -- the history
  pub record WrongMeaning (history : List Entry) (jobs job place position : ℕ) : Type 0 where
    pub is_job : job < jobs
    pub earlier : (j : ℕ) → j < job → (screen : List ℕ) × does j (part_of j history) screen
    pub departs : Departs job (part_of job history) place
    pub position_is : position ≡ entry_position job place history

  -- THE RESULT OF A REPLAY

  -- the history is legal, and each job did its part
  pub record IsReplay (m : State) (history : List Entry) (jobs : ℕ) (screens : List (List ℕ)) : Type 0 where
    pub legal : Legal m history
    pub one_each : length screens ≡ jobs
    pub all_did : AllDid does history 0 screens

  -- The screens of a replay, or the first wrong reply. If there is none, the first job that
  -- departs. Or memory ran out
  abbrev pub Replays : State → ℕ → List Entry → Result (Vec (List ℕ)) (Trouble Dispute) → Type 0
  Replays m jobs history (Ok screens) = IsReplay m history jobs screens.items
  Replays m jobs history (Err (trouble.Refused (dispute.Reply entry))) = WrongReply m history entry
  Replays m jobs history (Err (trouble.Refused (dispute.Meaning job place entry))) =
      Legal m history × WrongMeaning history jobs job place entry
  Replays m jobs history (Err trouble.NoMemory) = Unit {0}

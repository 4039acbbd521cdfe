-- A job's entries as a seat that replies what they say, and the index that leads from one to the
-- next. No public promise needs it.
use Rattle.std.specs.Prelude.{◌≡◌, ℕ, suc, ◌+◌, ◌^◌, ◌<◌, ◌≤◌, List, [], ◌∷◌, ◌++◌, length, take, drop, slice_get, slice_index, Option, Some, None, Result, Ok, Err}
use Rattle.std.specs.Global.{Vec}
use Rattle.basic_values.specs.declared.failures.Trouble.{Trouble}
use Rattle.basic_values.specs.declared.failures.Trouble.TheVariants as trouble
use Rattle.monitor_calls.specs.declared.calls.Entry.{Entry}
use Rattle.monitor_calls.specs.declared.calls.Request.{Request}
use Rattle.monitor_calls.specs.Pairs.{Pair, requests}
use Rattle.monitor_model.specs.History.{part_of}
use Rattle.terminal_runner.specs.Runs.{AllDid}
use Rattle.history_replay.specs.declared.disputes.Dispute.{Dispute}
use Rattle.history_replay.specs.declared.disputes.Dispute.TheVariants as dispute
use Rattle.history_replay.specs.Disputes.{entry_position, Departs, WrongMeaning}

-- THE INDEX

-- each entry's job is below this number
abbrev pub AreOfJobs : ℕ → List Entry → Type 0
AreOfJobs jobs history = (k : ℕ) (entry : Entry) → slice_get history k ≡ Some entry → entry.job < jobs

-- the place of the next entry of a job after this place
abbrev pub position_behind : ℕ → ℕ → List Entry → ℕ
position_behind job place history = suc place + entry_position job 0 (drop (suc place) history)

-- for each entry from this place on, the place of the next of its job
pub record AreLater (from : ℕ) (history : List Entry) (later : List ℕ) : Type 0 where
  pub count : length later ≡ length history
  pub behind : (k : ℕ) (entry : Entry) → from ≤ k → slice_get history k ≡ Some entry → slice_index later k ≡ position_behind entry.job k history

-- for each job, the place of its first entry from this place on
pub record AreFirst (from jobs : ℕ) (history : List Entry) (first : List ℕ) : Type 0 where
  pub count : length first ≡ jobs
  pub standing : (job : ℕ) → job < jobs → slice_index first job ≡ from + entry_position job 0 (drop from history)

pub record IsIndex (from jobs : ℕ) (history : List Entry) (first later : List ℕ) : Type 0 where
  pub firsts : AreFirst from jobs history first
  pub laters : AreLater from history later

-- THE PORT

-- the history, the job whose entries the seat gives, how many it gave, and what it was asked and
-- replied since
pub record Listed : Type 0 where
  pub history : List Entry
  pub job : ℕ
  pub given : ℕ
  pub others : List Pair

abbrev pub part : Listed → List Pair
part seat = part_of seat.job seat.history

-- which seat it is
abbrev pub lister : Listed → List Entry × ℕ
lister seat = (seat.history, seat.job)

abbrev pub heard : Listed → List Pair
heard seat = take seat.given (part seat) ++ seat.others

-- the seat of a job that was not asked
abbrev pub unheard : List Entry → ℕ → Listed
unheard history job = record { history = history; job = job; given = 0; others = [] }

-- the first of the others is not what the part asks at this place
abbrev pub IsOther : List Pair → ℕ → List Pair → Type 0
IsOther part place [] = Unit {0}
IsOther part place (pair ∷ others) = slice_get (requests part) place ≡ Some pair.0 → ⊥

-- what is true at every moment of a seat whose next entry is at this place
pub record IsAtNext (seat : Listed) (next : ℕ) (later : List ℕ) : Type 0 where
  pub next_is : next ≡ entry_position seat.job seat.given seat.history
  pub within : seat.given ≤ length (part seat)
  pub other : IsOther (part seat) seat.given seat.others
  pub small : length seat.history < 2 ^ 63
  pub laters : AreLater 0 seat.history later

-- this is the request of the job's next entry, and the job did not depart
pub record IsNext (seat : Listed) (request : Request) : Type 0 where
  pub none : seat.others ≡ []
  pub same : slice_get (requests (part seat)) seat.given ≡ Some request

-- both have the same pairs up to this place, and there one makes another request than the other, or
-- none
pub record PartsHere (part pairs : List Pair) (place : ℕ) : Type 0 where
  pub common : take place pairs ≡ take place part
  pub within_pairs : place ≤ length pairs
  pub within_part : place ≤ length part
  pub differs : slice_get (requests pairs) place ≡ slice_get (requests part) place → ⊥

pub record DepartsHere (seat : Listed) (job place position : ℕ) : Type 0 where
  pub job_is : job ≡ seat.job
  pub position_is : position ≡ entry_position seat.job place seat.history
  pub part_at : PartsHere (part seat) (heard seat) place

-- the job's part was heard, or something else
abbrev pub EndsSeat : Listed → Option Dispute → Type 0
EndsSeat seat None = heard seat ≡ part seat
EndsSeat seat (Some (dispute.Reply entry)) = ⊥
EndsSeat seat (Some (dispute.Meaning job place position)) = DepartsHere seat job place position

-- THE STEPS OF A REPLAY

module _ (does : ℕ → List Pair → List ℕ → Type 0) where
  pub record JobDeparts (history : List Entry) (job which place position : ℕ) : Type 0 where
    pub job_is : which ≡ job
    pub departs : Departs does job (part_of job history) place
    pub position_is : position ≡ entry_position job place history

  -- the job did its part, or departs from it
  abbrev pub JobRan : ℕ → List Entry → Result (List ℕ) (Trouble Dispute) → Type 0
  JobRan job history (Ok screen) = does job (part_of job history) screen
  JobRan job history (Err (trouble.Refused (dispute.Reply entry))) = ⊥
  JobRan job history (Err (trouble.Refused (dispute.Meaning which place position))) = JobDeparts history job which place position
  JobRan job history (Err trouble.NoMemory) = Unit {0}

  -- each of the first jobs did its part
  pub record FirstRan (jobs : ℕ) (history : List Entry) (screens : List (List ℕ)) : Type 0 where
    pub one_each : length screens ≡ jobs
    pub all_did : AllDid does history 0 screens

  -- each job did its part, or the least that did not departs
  abbrev pub JobsRan : ℕ → List Entry → Result (Vec (List ℕ)) (Trouble Dispute) → Type 0
  JobsRan jobs history (Ok screens) = FirstRan jobs history screens.items
  JobsRan jobs history (Err (trouble.Refused (dispute.Reply entry))) = ⊥
  JobsRan jobs history (Err (trouble.Refused (dispute.Meaning job place position))) = WrongMeaning does history jobs job place position
  JobsRan jobs history (Err trouble.NoMemory) = Unit {0}

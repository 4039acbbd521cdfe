-- A run of many jobs: its one history, and what each job did.
use Rattle.std.specs.Prelude.{◌≡◌, ℕ, suc, ◌≤◌, List, [], ◌∷◌, length, slice_get, Some, IfSome}
use Rattle.monitor_calls.specs.declared.calls.Entry.{Entry}
use Rattle.monitor_calls.specs.declared.events.Event.{Event}
use Rattle.monitor_calls.specs.Pairs.{Pair, pairs_of}
use Rattle.monitor_calls.specs.Typing.{Typing, Open, AreTyped}
use Rattle.monitor_model.specs.State.{State}
use Rattle.monitor_model.specs.History.{part_of}
use Rattle.monitor_gate.specs.OneHistory.{IsHistory}

module _ {K W : Type 0} (which : K → W) (keys : K → Typing) where
  -- A job had these pairs and left this screen and its keyboard. They are those of the events of a
  -- port: the pairs are the events' pairs, the key lines are the first that were typed at the
  -- keyboard, and the body does these events
  pub record Did (does : List Event → List ℕ → Type 0) (keyboard left : K) (pairs : List Pair) (screen : List ℕ) : Type 0 where
    pub same : which left ≡ which keyboard
    pub events : List Event
    pub pairs_are : pairs_of events ≡ pairs
    pub typed : AreTyped (keys left) events
    pub done : does events screen

  module _ {B : Type 0} (does : B → List Event → List ℕ → Type 0) where
    -- what the job of a number does, of each of which there is a body and a keyboard, and leaves
    -- this keyboard
    abbrev pub does_at : List (B × K) → List K → ℕ → List Pair → List ℕ → Type 0
    does_at jobs lefts number pairs screen =
        IfSome (slice_get jobs number) (λ job. (left : K) × (slice_get lefts number ≡ Some left) × Did (does job.0) job.1 left pairs screen)

    -- a job does this, and leaves some keyboard
    abbrev pub leaves : B × K → List Pair → List ℕ → Type 0
    leaves job pairs screen = (left : K) × Did (does job.0) job.1 left pairs screen

-- nothing was typed at the keyboards of the jobs
abbrev pub AreUnused : {B K : Type 0} → (K → Typing) → List (B × K) → Type 0
AreUnused keys [] = Unit {0}
AreUnused keys (job ∷ jobs) = (keys job.1 ≡ Open) × AreUnused keys jobs

-- from this job on, the pairs that the history has of each job, and its screen, are what it does
abbrev pub AllDid : (ℕ → List Pair → List ℕ → Type 0) → List Entry → ℕ → List (List ℕ) → Type 0
AllDid does history job [] = Unit {0}
AllDid does history job (screen ∷ screens) =
    does job (part_of job history) screen × AllDid does history (suc job) screens

-- the monitor answered one call at a time, from this state, and each job did what it does
pub record IsRun (does : ℕ → List Pair → List ℕ → Type 0) (opening : State) (jobs : ℕ) (screens : List (List ℕ)) (history : List Entry) : Type 0 where
  pub is_history : IsHistory opening history
  pub one_each : length screens ≡ jobs
  pub all_did : AllDid does history 0 screens
  pub no_others : (job : ℕ) → jobs ≤ job → part_of job history ≡ []

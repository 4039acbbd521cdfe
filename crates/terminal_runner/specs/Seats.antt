-- Seats that go into threads and come back with keyboards and screens. No public promise needs it.
use Rattle.std.specs.Prelude.{◌≡◌, ℕ, suc, ◌<◌, List, [], ◌∷◌, ◌++◌, map, length, slice_get, slice_index_or, Result, Ok, IfOk, IfSome}
use Rattle.atomic_table.specs.Seated.{TableId}
use Rattle.basic_values.specs.declared.failures.NoMemory.{NoMemory}
use Rattle.monitor_calls.specs.declared.events.Event.{Event}
use Rattle.monitor_calls.specs.Pairs.{Pair}
use Rattle.monitor_calls.specs.Typing.{Typing}
use Rattle.monitor_model.specs.State.{State}
use Rattle.monitor_gate.specs.declared.views.Pass.{Pass}
use Rattle.monitor_gate.specs.declared.views.SparePass.{SparePass}
use Rattle.monitor_gate.specs.Passes.{GateValue, SeatValue, SpareValue, seat_value, split_off}
use Rattle.terminal_runner.specs.Runs.{Did}

-- a seat, the keyboard of its job, and what its job's terminal was given
abbrev pub Back : Type 0 → Type 0
Back K = SeatValue × (K × List ℕ)

-- what a thread answers
abbrev pub Answer : Type 0 → Type 0
Answer K = Result (Back K) NoMemory

-- which seat it is, without what it has seen and asked
abbrev pub unasked : SeatValue → SeatValue
unasked seat =
    seat_value seat.gate (record { opening = seat.pass.opening; job = seat.pass.job; seen = []; mine = [] })

-- the pass of a spare seat from which this many seats were split off, and nothing else was done
abbrev pub pass_at : State → ℕ → SparePass
pass_at opening made = record { opening = opening; made = made; seen = []; ended = [] }

-- what its job asked, and was replied
abbrev pub asked : SeatValue → List Pair
asked seat = seat.pass.mine

abbrev pub seat_at : GateValue → ℕ → SeatValue
seat_at gate job = seat_value gate.gate (split_off (pass_at gate.opening job))

-- the jobs from this number on, each beside its seat, which has not asked
abbrev pub seated_from : {J : Type 0} → GateValue → ℕ → List J → List (SeatValue × J)
seated_from gate number [] = []
seated_from gate number (job ∷ jobs) = (seat_at gate number, job) ∷ seated_from gate (suc number) jobs

abbrev pub seated_jobs : {J : Type 0} → List (SeatValue × J) → List J
seated_jobs {J} seated = map (λ (one : SeatValue × J). one.1) seated

module _ {K W : Type 0} (which : K → W) (keys : K → Typing) where
  -- it is the same seat, and its job did what its body does
  pub record CameBack (does : List Event → List ℕ → Type 0) (keyboard : K) (seat : SeatValue) (back : Back K) : Type 0 where
    pub gate : back.0.gate ≡ seat.gate
    pub job : back.0.pass.job ≡ seat.pass.job
    pub did : Did which keys does keyboard back.1.0 back.0.pass.mine back.1.1

  module _ {B : Type 0} (does : B → List Event → List ℕ → Type 0) where
    -- it is what came back of the job of this number
    abbrev pub came_at : GateValue → List (B × K) → ℕ → Back K → Type 0
    came_at gate jobs number back =
        IfSome (slice_get jobs number) (λ job. CameBack (does job.0) job.1 (seat_at gate number) back)

-- if there was memory, each seat came back
abbrev pub AllCameBack : {K : Type 0} → (ℕ → Back K → Type 0) → List (Answer K) → Type 0
AllCameBack {K} came answers = (number : ℕ) (other : Answer K) → number < length answers → IfOk (slice_index_or answers number other) (came number)

abbrev pub IsAtGate : {K : Type 0} → TableId → Back K → Type 0
IsAtGate gate back = back.0.gate ≡ gate

abbrev pub AllAtGate : {K : Type 0} → TableId → List (Answer K) → Type 0
AllAtGate {K} gate answers = (number : ℕ) (other : Answer K) → number < length answers → IfOk (slice_index_or answers number other) (IsAtGate gate)

abbrev pub all_back : {K : Type 0} → List (Back K) → List (Answer K)
all_back {K} backs = map (λ (back : Back K). Ok back) backs

abbrev pub passes_of : {K : Type 0} → List (Back K) → List Pass
passes_of {K} backs = map (λ (back : Back K). back.0.pass) backs

abbrev pub keyboards_of : {K : Type 0} → List (Back K) → List K
keyboards_of {K} backs = map (λ (back : Back K). back.1.0) backs

abbrev pub screens_of : {K : Type 0} → List (Back K) → List (List ℕ)
screens_of {K} backs = map (λ (back : Back K). back.1.1) backs

-- all came back, the spare seat has their passes after those that it had, and these are the
-- keyboards and the screens
pub record Joined {K : Type 0} (answers : List (Answer K)) (old new : SpareValue) (keyboards : List K) (screens : List (List ℕ)) : Type 0 where
  pub joined : List (Back K)
  pub answers_are : answers ≡ all_back joined
  pub gate : new.gate ≡ old.gate
  pub opening : new.pass.opening ≡ old.pass.opening
  pub made : new.pass.made ≡ old.pass.made
  pub ended : new.pass.ended ≡ old.pass.ended ++ passes_of joined
  pub keyboards_are : keyboards ≡ keyboards_of joined
  pub screens_are : screens ≡ screens_of joined

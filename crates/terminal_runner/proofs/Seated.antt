-- Jobs beside their seats.
use Rattle.std.proofs.Common.{◌≡◌, ℕ, zero, suc, ◌+◌, ◌<◌, List, [], ◌∷◌, ◌++◌, length, Some, refl, sym, ap, ◌∙◌, subst, arith}
use Rattle.std.specs.Prelude.{slice_get, slice_index_or, Option, IfOk, IfSome}
use Rattle.monitor_calls.specs.declared.events.Event.{Event}
use Rattle.monitor_calls.specs.Typing.{Typing, Open}
use Rattle.std.proofs.lemmas.List.{length-map, length_push}
use Rattle.monitor_gate.specs.Passes.{GateValue, SeatValue, SpareValue, seat_value, spare_value, split_off, after_split}
use Rattle.terminal_runner.specs.Runs.{AreUnused}
use Rattle.terminal_runner.specs.Seats.{Answer, CameBack, came_at, pass_at, seat_at, seated_from, seated_jobs}

module _ {J : Type 0} where
  seated_push : (gate : GateValue) (number : ℕ) (jobs : List J) (job : J) → seated_from gate number (jobs ++ job ∷ []) ≡ seated_from gate number jobs ++ (seat_at gate (number + length jobs), job) ∷ []
  seated_push gate number [] job =
      let same : number ≡ number + 0 = omega arith in
      ap (λ (j : ℕ). (seat_at gate j, job) ∷ []) same
  seated_push gate number (first ∷ jobs) job =
      let same : suc number + length jobs ≡ number + suc (length jobs) = omega arith in
      ap (λ (l : List (SeatValue × J)). (seat_at gate number, first) ∷ l)
      (seated_push gate (suc number) jobs job ∙ ap (λ (j : ℕ). seated_from gate (suc number) jobs ++ (seat_at gate j, job) ∷ []) same)

  -- one job more beside the seat that is split off for it
  pub split_push : (gate : GateValue) (jobs : List J) (job : J) (spare new : SpareValue) (seat : SeatValue) (seated : List (SeatValue × J)) → spare ≡ spare_value gate.gate (pass_at gate.opening (length jobs)) → seat ≡ seat_value spare.gate (split_off spare.pass)
      → new ≡ spare_value spare.gate (after_split spare.pass) → seated ≡ seated_from gate 0 jobs
      → (new ≡ spare_value gate.gate (pass_at gate.opening (length (jobs ++ job ∷ [])))) × (seated ++ (seat, job) ∷ [] ≡ seated_from gate 0 (jobs ++ job ∷ []))
  split_push gate jobs job spare new seat seated was split made are =
      let here : length jobs ≡ 0 + length jobs = omega arith in
      let own : seat ≡ seat_at gate (0 + length jobs) = split ∙ ap (λ (s : SpareValue). seat_value s.gate (split_off s.pass)) was ∙ ap (λ (j : ℕ). seat_at gate j) here in (
        made ∙ ap (λ (s : SpareValue). spare_value s.gate (after_split s.pass)) was ∙ ap (λ (n : ℕ). spare_value gate.gate (pass_at gate.opening n)) (sym (length_push jobs job)),
        ap (λ (l : List (SeatValue × J)). l ++ (seat, job) ∷ []) are ∙ ap (λ (s : SeatValue). seated_from gate 0 jobs ++ (s, job) ∷ []) own ∙ sym (seated_push gate 0 jobs job),
      )

  seat_is : (gate : GateValue) (number : ℕ) (jobs : List J) (i : ℕ) (x : SeatValue × J) → i < length (seated_from gate number jobs) → (slice_index_or (seated_from gate number jobs) i x).0 ≡ seat_at gate (number + i)
  seat_is gate number [] i x below = absurd (omega arith)
  seat_is gate number (job ∷ jobs) zero x below =
      let same : number ≡ number + 0 = omega arith in
      ap (λ (j : ℕ). seat_at gate j) same
  seat_is gate number (job ∷ jobs) (suc i) x below =
      let same : suc number + i ≡ number + suc i = omega arith in
      seat_is gate (suc number) jobs i x (omega arith) ∙ ap (λ (j : ℕ). seat_at gate j) same

  pub job_is : (seated : List (SeatValue × J)) (i : ℕ) (x : SeatValue × J) → i < length seated → slice_get (seated_jobs seated) i ≡ Some ((slice_index_or seated i x).1)
  job_is [] i x below = absurd (omega arith)
  job_is (one ∷ seated) zero x below = refl
  job_is (one ∷ seated) (suc i) x below = job_is seated i x (omega arith)

  pub jobs_are : (gate : GateValue) (number : ℕ) (jobs : List J) → seated_jobs (seated_from gate number jobs) ≡ jobs
  jobs_are gate number [] = refl
  jobs_are gate number (job ∷ jobs) = ap (λ (l : List J). job ∷ l) (jobs_are gate (suc number) jobs)

  pub as_many_jobs : (seated : List (SeatValue × J)) → length (seated_jobs seated) ≡ length seated
  as_many_jobs seated = length-map seated (λ (one : SeatValue × J). one.1)

  pub as_many : (gate : GateValue) (jobs : List J) (seated : List (SeatValue × J)) → seated ≡ seated_from gate 0 jobs → length seated ≡ length jobs
  as_many gate jobs seated are = sym (length-map seated (λ (one : SeatValue × J). one.1)) ∙ ap (λ (l : List (SeatValue × J)). length (seated_jobs l)) are ∙ ap length (jobs_are gate 0 jobs)

  -- the seat at a place is that of the job of that number
  pub seat_here : (gate : GateValue) (seated : List (SeatValue × J)) → seated ≡ seated_from gate 0 (seated_jobs seated) → (i : ℕ) (x : SeatValue × J) → i < length seated → x ≡ slice_index_or seated i x → x.0 ≡ seat_at gate i
  seat_here gate seated are i x below is =
      let same : 0 + i ≡ i = omega arith in
      ap (λ (y : SeatValue × J). y.0) is ∙ ap (λ (l : List (SeatValue × J)). (slice_index_or l i x).0) are
      ∙ seat_is gate 0 (seated_jobs seated) i x (subst (λ (l : List (SeatValue × J)). i < length l) are below) ∙ ap (λ (j : ℕ). seat_at gate j) same

module _ {B K : Type 0} (keys : K → Typing) where
  -- one job more, at whose keyboard nothing was typed
  pub unused_push : (jobs : List (B × K)) (job : B × K) → AreUnused keys jobs → keys job.1 ≡ Open → AreUnused keys (jobs ++ job ∷ [])
  unused_push [] job are is = (is, tt)
  unused_push (first ∷ jobs) job are is = (are.0, unused_push jobs job are.1 is)

  unused_index : (seated : List (SeatValue × (B × K))) → AreUnused keys (seated_jobs seated) → (i : ℕ) (x : SeatValue × (B × K)) → i < length seated → keys (slice_index_or seated i x).1.1 ≡ Open
  unused_index [] are i x below = absurd (omega arith)
  unused_index (one ∷ seated) are zero x below = are.0
  unused_index (one ∷ seated) are (suc i) x below = unused_index seated are.1 i x (omega arith)

  -- nothing was typed at the keyboard of the job at a place
  pub unused_here : (seated : List (SeatValue × (B × K))) → AreUnused keys (seated_jobs seated) → (i : ℕ) (x : SeatValue × (B × K)) → i < length seated → x ≡ slice_index_or seated i x → keys x.1.1 ≡ Open
  unused_here seated are i x below is = ap (λ (y : SeatValue × (B × K)). keys y.1.1) is ∙ unused_index seated are i x below

  -- what came back of one job, as of the job at its place
  pub came_here : {W : Type 0} (which : K → W) (does : B → List Event → List ℕ → Type 0) (gate : GateValue) (seated : List (SeatValue × (B × K))) → seated ≡ seated_from gate 0 (seated_jobs seated) → (i : ℕ) (x : SeatValue × (B × K)) (answer : Answer K) → i < length seated → x ≡ slice_index_or seated i x
      → IfOk answer (CameBack which keys (does x.1.0) x.1.1 x.0) → IfOk answer (came_at which keys does gate (seated_jobs seated) i)
  came_here which does gate seated are i x answer below is came =
      let job : slice_get (seated_jobs seated) i ≡ Some x.1 = job_is seated i x below ∙ ap (λ (y : SeatValue × (B × K)). Some y.1) (sym is) in
      let about : Option (B × K) × SeatValue → Type 0 = λ p. IfOk answer (λ back. IfSome p.0 (λ one. CameBack which keys (does one.0) one.1 p.1 back)) in
      let here : about (Some x.1, x.0) = came in
      subst about (λ k. (sym job k, seat_here gate seated are i x below is k)) here

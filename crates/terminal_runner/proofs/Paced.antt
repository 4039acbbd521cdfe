-- What the pacer of a job is notified of, from its first call on.
use Rattle.std.proofs.Common.{◌≡◌, ℕ, suc, ◌+◌, ◌≤◌, List, [], ◌∷◌, ◌++◌, map, length, Result, Ok, Err, sym, ap, ◌∙◌, subst, arith, length-append}
use Rattle.std.specs.Prelude.{IfOk, OnErr}
use Rattle.std.proofs.Math.Logic.{∥∥₁_map}
use Rattle.std.proofs.lemmas.List.{map-append}
use Rattle.basic_values.specs.declared.failures.NoMemory.{NoMemory}
use Rattle.monitor_calls.specs.declared.calls.Request.{Request}
use Rattle.monitor_calls.specs.declared.calls.Reply.{Reply}
use Rattle.monitor_gate.specs.declared.views.Pass.{Pass}
use Rattle.monitor_gate.specs.OneHistory.{Asked}
use Rattle.monitor_gate.specs.Passes.{SeatValue}
use Rattle.terminal_runner.specs.Seats.{unasked}
use Rattle.terminal_runner.specs.declared.tellings.Telling.{Telling}
use Rattle.terminal_runner.specs.declared.tellings.Telling.TheVariants.{Before, After}
use Rattle.terminal_runner.specs.Told.{Told}
use Rattle.terminal_runner.specs.Paced.{call_number, told_around, of_job, told_of, WasTold}

-- one call more, which may be answered or not
pub told_more : (job answered last : ℕ) (told : List Told) (answered' last' : ℕ) (told' : List Told) (seat seat' : SeatValue) → ∥ WasTold job answered last told ∥₁ → seat.pass.job ≡ job → seat'.pass.job ≡ job → answered' ≤ answered + 1
    → last' ≡ call_number (last + 1) → told' ≡ told ++ told_around last' seat seat' → ∥ WasTold seat'.pass.job answered' last' told' ∥₁
told_more job answered last told answered' last' told' seat seat' was its its' answer number is =
    ∥∥₁_map was (λ (w : WasTold job answered last told).
    let calls = w.0 in
    let least = w.1 in
    let is_last = w.2 in
    let next : last' ≡ call_number (suc calls) = omega arith in
    let pair : ℕ → ℕ → List (ℕ × Telling) = λ job number. (job, Before number) ∷ (job, After number) ∷ [] in (
      suc calls,
      omega arith,
      next,
      ap (map of_job) is ∙ map-append of_job told (told_around last' seat seat') ∙ ap (λ (l : List (ℕ × Telling)). l ++ (seat.pass.job, Before last') ∷ (seat'.pass.job, After last') ∷ []) w.3
          ∙ ap (λ (n : ℕ). told_of job calls ++ (n, Before last') ∷ (seat'.pass.job, After last') ∷ []) its ∙ ap (λ (n : ℕ). told_of job calls ++ (job, Before last') ∷ (n, After last') ∷ []) its'
          ∙ ap (λ (n : ℕ). told_of job calls ++ pair job n) next ∙ ap (λ (n : ℕ). told_of n (suc calls)) (sym its'),
    ))

-- a call adds one pair at the most
pub asked_once : (seat seat' : SeatValue) (request : Request) (result : Result Reply NoMemory) → IfOk result (λ reply. Asked seat.pass request reply seat'.pass) → OnErr result (seat' ≡ seat) → length seat'.pass.mine ≤ length seat.pass.mine + 1
asked_once seat seat' request (Ok reply) asked same =
    let more : length seat'.pass.mine ≡ length seat.pass.mine + 1 = ap (λ (pass : Pass). length pass.mine) asked.pass_is ∙ length-append seat.pass.mine ((request, reply) ∷ []) in omega arith
asked_once seat seat' request (Err none) asked same =
    let less : length seat'.pass.mine ≡ length seat.pass.mine = ap (λ (s : SeatValue). length s.pass.mine) same in omega arith

-- what is reported of the port's seat is reported of the seat that is returned
pub told_back : {K : Type 0} (tellings : K → List Told) (seat first last back : SeatValue) (told told' : K) (calls : ℕ) → first ≡ seat → unasked last ≡ unasked first → back ≡ last → told' ≡ told
    → ∥ WasTold last.pass.job (length last.pass.mine) calls (tellings told) ∥₁ → ∥ WasTold seat.pass.job (length back.pass.mine) calls (tellings told') ∥₁
told_back {K} tellings seat first last back told told' calls is who same kept was =
    subst (λ (job : ℕ). ∥ WasTold job (length back.pass.mine) calls (tellings told') ∥₁) (ap (λ (s : SeatValue). s.pass.job) who ∙ ap (λ (s : SeatValue). s.pass.job) is)
    (subst (λ (s : SeatValue). ∥ WasTold last.pass.job (length s.pass.mine) calls (tellings told') ∥₁) (sym same)
    (subst (λ (k : K). ∥ WasTold last.pass.job (length last.pass.mine) calls (tellings k) ∥₁) (sym kept) was))

-- Seats that came back from threads and were joined, and what the run's history then has of each
-- job.
use Rattle.std.proofs.Common.{◌≡◌, ℕ, zero, suc, ◌+◌, ◌<◌, List, [], ◌∷◌, ◌++◌, length, Ok, Err, refl, sym, ap, ◌∙◌, subst, arith, append_assoc}
use Rattle.std.specs.Prelude.{slice_get, slice_index_or, Result, Option, Some, None, IfOk, IfSome}
use Rattle.std.proofs.lemmas.List.{length-map, map-append, append-nil}
use mathlib.Core.Option.{some}
use lib.ListN.{get_elem?}
use Rattle.monitor_calls.specs.declared.calls.Entry.{Entry}
use Rattle.monitor_calls.specs.declared.events.Event.{Event}
use Rattle.monitor_calls.specs.Pairs.{Pair}
use Rattle.monitor_calls.specs.Typing.{Typing}
use Rattle.monitor_model.specs.State.{State}
use Rattle.monitor_model.specs.History.{part_of}
use Rattle.monitor_gate.specs.declared.views.Pass.{Pass}
use Rattle.monitor_gate.specs.Passes.{GateValue, SpareValue, spare_value, after_join}
use Rattle.monitor_gate.specs.OneHistory.{IsHistory, IsPassOf, OneHistory}
use Rattle.terminal_runner.specs.Runs.{Did, does_at, AllDid, IsRun}
use Rattle.terminal_runner.specs.Seats.{Back, Answer, pass_at, seat_at, all_back, passes_of, keyboards_of, screens_of, CameBack, came_at, AllCameBack, IsAtGate, AllAtGate, Joined}

pub joined_none : {K : Type 0} (spare : SpareValue) → Joined {K = K} [] spare spare [] []
joined_none spare = record {
  joined = [];
  answers_are = refl;
  gate = refl;
  opening = refl;
  made = refl;
  ended = sym (append-nil spare.pass.ended);
  keyboards_are = refl;
  screens_are = refl;
}

pub joined_push : {K : Type 0} (answers : List (Answer K)) (old spare new : SpareValue) (keyboards : List K) (screens : List (List ℕ)) (back : Back K) → Joined answers old spare keyboards screens → new ≡ spare_value spare.gate (after_join spare.pass back.0.pass)
    → Joined (answers ++ Ok back ∷ []) old new (keyboards ++ back.1.0 ∷ []) (screens ++ back.1.1 ∷ [])
joined_push {K} answers old spare new keyboards screens back j is = record {
  joined = j.joined ++ back ∷ [];
  answers_are = ap (λ (l : List (Answer K)). l ++ Ok back ∷ []) j.answers_are ∙ sym (map-append (λ (b : Back K). Ok b) j.joined (back ∷ []));
  gate = ap (λ (s : SpareValue). s.gate) is ∙ j.gate;
  opening = ap (λ (s : SpareValue). s.pass.opening) is ∙ j.opening;
  made = ap (λ (s : SpareValue). s.pass.made) is ∙ j.made;
  ended = ap (λ (s : SpareValue). s.pass.ended) is ∙ ap (λ (l : List Pass). l ++ back.0.pass ∷ []) j.ended ∙ append_assoc old.pass.ended (passes_of j.joined) (back.0.pass ∷ [])
      ∙ ap (λ (l : List Pass). old.pass.ended ++ l) (sym (map-append (λ (b : Back K). b.0.pass) j.joined (back ∷ [])));
  keyboards_are = ap (λ (l : List K). l ++ back.1.0 ∷ []) j.keyboards_are ∙ sym (map-append (λ (b : Back K). b.1.0) j.joined (back ∷ []));
  screens_are = ap (λ (l : List (List ℕ)). l ++ back.1.1 ∷ []) j.screens_are ∙ sym (map-append (λ (b : Back K). b.1.1) j.joined (back ∷ []));
}

-- once all that came back were joined, as many passes have ended as seats were made
pub all_ended : {K : Type 0} (gate : GateValue) (jobs : ℕ) (answers : List (Answer K)) (old new : SpareValue) (keyboards : List K) (screens : List (List ℕ)) → Joined answers old new keyboards screens → old ≡ spare_value gate.gate (pass_at gate.opening jobs) → length answers ≡ jobs
    → length new.pass.ended ≡ new.pass.made
all_ended {K} gate jobs answers old new keyboards screens j was count =
    let made : new.pass.made ≡ jobs = j.made ∙ ap (λ (s : SpareValue). s.pass.made) was in
    let ended : new.pass.ended ≡ passes_of j.joined = j.ended ∙ ap (λ (s : SpareValue). s.pass.ended ++ passes_of j.joined) was in
    let many : length answers ≡ length j.joined = ap length j.answers_are ∙ length-map j.joined (λ (b : Back K). Ok b) in
    ap length ended ∙ length-map j.joined (λ (b : Back K). b.0.pass) ∙ sym many ∙ count ∙ sym made

if_some : {X : Type 0} (P Q : X → Type 0) (o : Option X) → ((x : X) → P x → Q x) → IfSome o P → IfSome o Q
if_some P Q None then p = tt
if_some P Q (Some x) then p = then x p

if_ok : {X E : Type 0} (P Q : X → Type 0) (r : Result X E) → ((x : X) → P x → Q x) → IfOk r P → IfOk r Q
if_ok P Q (Ok x) then p = then x p
if_ok P Q (Err e) then p = tt

item_at : {X : Type 0} (xs : List X) (place : ℕ) → place < length xs → (x : X) × (slice_get xs place ≡ Some x)
item_at [] place below = absurd (omega arith)
item_at (x ∷ xs) zero below = (x, refl)
item_at (x ∷ xs) (suc place) below = item_at xs place (omega arith)

-- all that came back are seats of the gate
pub all_at_gate : {K W B : Type 0} (which : K → W) (keys : K → Typing) (does : B → List Event → List ℕ → Type 0) (gate : GateValue) (jobs : List (B × K)) (answers : List (Answer K)) → length answers ≡ length jobs → AllCameBack (came_at which keys does gate jobs) answers → AllAtGate gate.gate answers
all_at_gate {K} {W} {B} which keys does gate jobs answers many came number other below =
    let job = item_at jobs number (omega (arith, below, many)) in
    if_ok (came_at which keys does gate jobs number) (IsAtGate gate.gate) (slice_index_or answers number other)
    (λ back here. (subst (λ (o : Option (B × K)). IfSome o (λ one. CameBack which keys (does one.0) one.1 (seat_at gate number) back)) job.1 here).gate) (came number other below)

module _ {K W B : Type 0} (which : K → W) (keys : K → Typing) (does : B → List Event → List ℕ → Type 0) (gate : GateValue) (jobs : List (B × K)) (history : List Entry) where
  -- the job of this number did what it does, if its pass is of the history
  did_here : (lefts : List K) (number : ℕ) (back : Back K) → slice_get lefts number ≡ Some back.1.0 → IsPassOf history back.0.pass → came_at which keys does gate jobs number back → does_at which keys does jobs lefts number (part_of number history) back.1.1
  did_here lefts number back at part came =
      if_some (λ (job : B × K). CameBack which keys (does job.0) job.1 (seat_at gate number) back)
      (λ (job : B × K). (left : K) × (slice_get lefts number ≡ Some left) × Did which keys (does job.0) job.1 left (part_of number history) back.1.1) (slice_get jobs number)
      (λ job here.
      let own : Did which keys (does job.0) job.1 back.1.0 (part_of number history) back.1.1 =
      subst (λ (pairs : List Pair). Did which keys (does job.0) job.1 back.1.0 pairs back.1.1) (sym part.mine ∙ ap (λ (n : ℕ). part_of n history) here.job) here.did in
      (back.1.0, at, own))
      came

  -- the jobs from this one on came back, and their passes are of the history
  all_did : (lefts : List K) (from : ℕ) (backs : List (Back K))
      → ((k number : ℕ) (other : Answer K) → number ≡ from + k → k < length (all_back backs) → IfOk (slice_index_or (all_back backs) k other) (came_at which keys does gate jobs number))
      → ((k number : ℕ) → number ≡ from + k → slice_get lefts number ≡ slice_get (keyboards_of backs) k)
      → ((k : ℕ) (pass : Pass) → get_elem? (passes_of backs) k ≡ some pass → IsPassOf history pass) → AllDid (does_at which keys does jobs lefts) history from (screens_of backs)
  all_did lefts from [] came left passes = tt
  all_did lefts from (back ∷ backs) came left passes =
      let first : Answer K = Ok back in (
        did_here lefts from back (left 0 from (omega arith)) (passes 0 back.0.pass refl) (came 0 from first (omega arith) (omega arith)),
        all_did lefts (suc from) backs (λ k number other is below. came (suc k) number other (omega arith) (omega arith)) (λ k number is. left (suc k) number (omega arith)) (λ k pass at. passes (suc k) pass at),
      )

  pub is_run : (count : ℕ) (answers : List (Answer K)) (old new : SpareValue) (keyboards : List K) (screens : List (List ℕ)) → Joined answers old new keyboards screens → old ≡ spare_value gate.gate (pass_at gate.opening count) → length answers ≡ count
      → AllCameBack (came_at which keys does gate jobs) answers → OneHistory new.pass history → IsRun (does_at which keys does jobs keyboards) gate.opening count screens history
  is_run count answers old new keyboards screens j was many_are came one =
      let made : new.pass.made ≡ count = j.made ∙ ap (λ (s : SpareValue). s.pass.made) was in
      let ended : new.pass.ended ≡ passes_of j.joined = j.ended ∙ ap (λ (s : SpareValue). s.pass.ended ++ passes_of j.joined) was in
      let all : AllCameBack (came_at which keys does gate jobs) (all_back j.joined) = subst (AllCameBack (came_at which keys does gate jobs)) j.answers_are came in
      let many : length answers ≡ length j.joined = ap length j.answers_are ∙ length-map j.joined (λ (b : Back K). Ok b) in
      record {
        is_history = subst (λ (m : State). IsHistory m history) (j.opening ∙ ap (λ (s : SpareValue). s.pass.opening) was) one.is_history;
        one_each = ap length j.screens_are ∙ length-map j.joined (λ (b : Back K). b.1.1) ∙ sym many ∙ many_are;
        all_did = subst (λ (shown : List (List ℕ)). AllDid (does_at which keys does jobs keyboards) history 0 shown) (sym j.screens_are)
            (all_did keyboards 0 j.joined
            (λ k number other is below. subst (λ (n : ℕ). IfOk (slice_index_or (all_back j.joined) k other) (came_at which keys does gate jobs n)) (let same : k ≡ number = omega (arith, is) in same) (all k other below))
            (λ k number is.
            let same : number ≡ k = omega (arith, is) in
            ap (λ (n : ℕ). slice_get keyboards n) same ∙ ap (λ (l : List K). slice_get l k) j.keyboards_are)
            (λ k pass at. one.passes k pass (subst (λ (l : List Pass). get_elem? l k ≡ some pass) (sym ended) at)));
        no_others = λ job above. one.no_others job (omega arith);
      }

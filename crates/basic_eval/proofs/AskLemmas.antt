-- Requests for the variables and files are requests of the job; and how a job takes a key line.
use Rattle.std.proofs.Common.{◌≡◌, ℕ, List, [], ◌∷◌, ◌++◌, drop, Option, Some, None, Result, Ok, Err, refl, sym, ap}
use Rattle.std.specs.Option.{option_map}
use Rattle.std.specs.Prelude.{codes}
use Rattle.std.specs.Result.{IsErrAnd}
use Rattle.basic_values.specs.declared.failures.Stop.{Stop}
use Rattle.basic_values.specs.declared.failures.Stop.TheVariants as stop
use Rattle.basic_values.specs.declared.failures.Trouble.{Trouble}
use Rattle.basic_values.specs.declared.failures.Trouble.TheVariants as trouble
use Rattle.monitor_calls.specs.declared.events.Event.{Event}
use Rattle.monitor_calls.specs.declared.events.Event.TheVariants.{Typed}
use Rattle.monitor_calls.specs.Pairs.{Grew}
use Rattle.job_model.specs.Act.{Gives, ◌then◌}
use Rattle.job_model.specs.Play.{Clock}
use Rattle.job_model.specs.Follow.{Follows, answered_by}
use Rattle.job_model.proofs.Follows.{follows_from, follows_to, follows_is, follows_nothing, follows_typed, follows_on, follows_then, follows_with, follows_in}
use Rattle.program_model.specs.Storage.{Storage, StorageAct, in_storage, stores_by}
use Rattle.program_model.specs.FileActs.{act_by}
use Rattle.program_model.specs.Input.{line_asked, line_taken}
use Rattle.program_model.specs.Job.{Job}
use Rattle.program_model.specs.Printing.{written}
use Rattle.program_model.specs.declared.values.Value.{Value}
use Rattle.program_model.specs.declared.file_acts.FileAct.{FileAct}
use Rattle.polish_code.specs.Walk.{Spot, Walked, Pass, taken, passed, operand_count, asks}
use Rattle.basic_eval.specs.declared.exits.Exit.{Exit}
use Rattle.basic_eval.specs.Acting.{Acts, left_by}
use Rattle.basic_eval.specs.Keeping.{exit_at}

-- a call that ends at once
pub follows_acts : {P W A : Type 0} {who : P → W} {log : P → List Event} {p : P} {c : Clock} {m : Walked A} (r : Result A (Trouble Exit)) (k : Job Spot) → Acts m k r → Follows who log p p c c m (left_by r k)
follows_acts (Ok value) k is = follows_is is
follows_acts (Err (trouble.Refused why)) k is = follows_is is
follows_acts (Err trouble.NoMemory) k is = follows_nothing

-- a stop skips what would come next
stopped : {A B : Type 0} (next : A → Job Spot → Walked B) (e : Stop) (k : Job Spot) → option_map (λ t. t then next) (answered_by (Err e) k) ≡ left_by (Err (exit_at e)) k
stopped next (stop.Fault n) k = refl
stopped next (stop.Halt h) k = refl
stopped next stop.Expired k = refl
stopped next stop.NoMemory k = refl

pub past : {A B : Type 0} (next : A → Job Spot → Walked B) (e : Trouble Exit) (k : Job Spot) → option_map (λ t. t then next) (left_by (Err e) k) ≡ left_by (Err e) k
past next (trouble.Refused why) k = refl
past next trouble.NoMemory k = refl

-- an interaction tree of the variables and files, and what comes after it
module _ {P W A B : Type 0} {who : P → W} {log : P → List Event} {p q : P} {c d : Clock} (act : StorageAct A) (j : Job Spot) (next : A → Job Spot → Walked B) (t : Storage) where
  pub act_gives : {r : P} {e : Clock} {left : Option (Walked B)} (value : A) → Follows who log p q c d (act (in_storage.part j)) (Some (Gives value t)) → Follows who log q r d e (next value (in_storage.with_part j t)) left
      → Follows who log p r c e (stores_by act j then next) left
  act_gives value f g = follows_with next (follows_in in_storage j act (Ok value) t f) g

  pub act_stops : (e : Stop) → Follows who log p q c d (act (in_storage.part j)) (answered_by (Err e) t)
      → Follows who log p q c d (stores_by act j then next) (left_by (Err (exit_at e)) (in_storage.with_part j t))
  act_stops e f = follows_to (stopped next e (in_storage.with_part j t)) (follows_then next (follows_in in_storage j act (Err e) t f))

module _ {P W : Type 0} {who : P → W} {log : P → List Event} {p q : P} {c d : Clock} (act : FileAct) (stack values : List Value) (j : Job Spot) (are : values ≡ taken (operand_count act) stack) (t : Storage) where
  pub ask_passes : (stack' : List Value) → stack' ≡ drop (operand_count act) stack → Follows who log p q c d (act_by act values (in_storage.part j)) (Some (Gives tt t))
      → Follows who log p q c d (asks act stack j) (Some (Gives (Pass 0 stack') (in_storage.with_part j t)))
  ask_passes stack' is f =
      follows_with (passed (drop (operand_count act) stack))
      (follows_in in_storage j (act_by act (taken (operand_count act) stack)) (Ok tt) t (follows_from (ap (λ (vs : List Value). act_by act vs (in_storage.part j)) (sym are)) f))
      (follows_is (ap (λ (l : List Value). Gives (Pass 0 l) (in_storage.with_part j t)) (sym is)))

  pub ask_stops : (e : Stop) → Follows who log p q c d (act_by act values (in_storage.part j)) (answered_by (Err e) t)
      → Follows who log p q c d (asks act stack j) (left_by (Err (exit_at e)) (in_storage.with_part j t))
  ask_stops e f =
      follows_to (stopped (passed (drop (operand_count act) stack)) e (in_storage.with_part j t))
      (follows_then (passed (drop (operand_count act) stack))
      (follows_in in_storage j (act_by act (taken (operand_count act) stack)) (Err e) t (follows_from (ap (λ (vs : List Value). act_by act vs (in_storage.part j)) (sym are)) f)))

-- A KEY LINE

module _ {P W : Type 0} {who : P → W} {log : P → List Event} {p q : P} {c : Clock} where
  -- it is taken, after its question was written
  pub follows_key : (prompt : List ℕ) (j s k : Job Spot) (key : Option (List ℕ)) (r : Result (List ℕ) (Trouble Exit)) → s ≡ written (prompt ++ codes "? ") j
      → Grew who log p q (Typed key ∷ []) → Acts (line_taken key s) k r → Follows who log p q c c (line_asked prompt j) (left_by r k)
  follows_key prompt j s k key r is grew acts =
      follows_on (follows_typed key (λ key. line_taken key (written (prompt ++ codes "? ") j)) grew)
      (follows_from (ap (line_taken key) (sym is)) (follows_acts r k acts))

  -- memory ran out before it was taken
  pub key_lost : {d : Clock} {m : Walked (List ℕ)} (r : Result (List ℕ) (Trouble Exit)) (k : Job Spot) → IsErrAnd r (λ e. e ≡ trouble.NoMemory) → Follows who log p q c d m None → Follows who log p q c d m (left_by r k)
  key_lost (Ok line) k is f = absurd is
  key_lost (Err e) k is f = follows_to (ap (λ (e : Trouble Exit). left_by (Err e) k) (sym is)) f

  -- and a call uses it that ends at once
  pub key_gives : {A : Type 0} {m : Walked (List ℕ)} (next : List ℕ → Job Spot → Walked A) (line : List ℕ) (s k : Job Spot) (r : Result A (Trouble Exit))
      → Follows who log p q c c m (Some (Gives line s)) → Acts (next line s) k r → Follows who log p q c c (m then next) (left_by r k)
  key_gives next line s k r f acts = follows_with next f (follows_acts r k acts)

  -- or there was none
  pub key_stops : {A : Type 0} {m : Walked (List ℕ)} (next : List ℕ → Job Spot → Walked A) (e : Trouble Exit) (k : Job Spot)
      → Follows who log p q c c m (left_by (Err e) k) → Follows who log p q c c (m then next) (left_by (Err e) k)
  key_stops next e k f = follows_to (past next e k) (follows_then next f)

-- How calls on channels are composed.
use Rattle.std.proofs.Common.{◌≡◌, Bool, true, false, List, Option, Some, Result, sym, ap, ◌∙◌}
use Rattle.std.specs.Prelude.{if◌then◌else◌}
use Rattle.std.specs.Result.{IsErrAnd}
use Rattle.basic_values.specs.declared.failures.Stop.{Stop}
use Rattle.basic_values.specs.declared.failures.Stop.TheVariants as stop
use Rattle.monitor_calls.specs.declared.events.Event.{Event}
use Rattle.job_model.specs.Act.{Act, Gives, ◌then◌}
use Rattle.job_model.specs.Play.{Clock}
use Rattle.job_model.specs.Follow.{Follows, answered_by}
use Rattle.job_model.specs.Replies.{ReplyAct, no_part}
use Rattle.job_model.proofs.Follows.{follows_from, follows_to, follows_nothing, follows_stay, follows_forget, follows_with, follows_in, as_returned}
use Rattle.channels.specs.Files.{Files, asks}

pub if_true : {A : Type 0} {b : Bool} (x y : A) → b ≡ true → (if b then x else y) ≡ x
if_true {A} {b} x y is = ap (λ (b : Bool). if b then x else y) is

pub if_false : {A : Type 0} {b : Bool} (x y : A) → b ≡ false → (if b then x else y) ≡ y
if_false {A} {b} x y is = ap (λ (b : Bool). if b then x else y) is

module _ {P W : Type 0} {who : P → W} {log : P → List Event} where
  -- one request
  pub follows_asks : {A : Type 0} {p q : P} {c : Clock} (request : ReplyAct A) (result : Result A Stop) (files : Files) → Follows who log p q c c request (answered_by result tt) → Follows who log p q c c (asks request files) (answered_by result files)
  follows_asks {A} request result files f = follows_in no_part files (λ _. request) result tt f

module _ {P W L S A : Type 0} {who : P → W} {log : P → List Event} where
  -- memory ran out before any request
  pub follows_unbegun : {p : P} {c d : Clock} {m : Act L S A} (result : Result A Stop) (s : S) → IsErrAnd result (λ x. x ≡ stop.NoMemory) → Follows who log p p c d m (answered_by result s)
  follows_unbegun result s is = as_returned stop.NoMemory result s is follows_nothing

  -- memory ran out after a call
  pub follows_lost : {p q : P} {c d : Clock} {m m' : Act L S A} (result : Result A Stop) (s : S) → IsErrAnd result (λ x. x ≡ stop.NoMemory) → Follows who log p q c d m (Some m') → Follows who log p q c d m (answered_by result s)
  follows_lost result s is f = as_returned stop.NoMemory result s is (follows_forget f)

  -- a step that makes no request
  pub follows_tested : {p : P} {c : Clock} {m : Act L S A} (r : Result A Stop) (s : S) → answered_by r s ≡ Some m → Follows who log p p c c m (answered_by r s)
  follows_tested r s is = follows_to (sym is) follows_stay

  -- by a test
  pub follows_true : {p q : P} {c d : Clock} {b : Bool} {left : Option (Act L S A)} (m n : Act L S A) → b ≡ true → Follows who log p q c d m left → Follows who log p q c d (if b then m else n) left
  follows_true m n is f = follows_from (if_true m n is) f

  pub follows_false : {p q : P} {c d : Clock} {b : Bool} {left : Option (Act L S A)} (m n : Act L S A) → b ≡ false → Follows who log p q c d n left → Follows who log p q c d (if b then m else n) left
  follows_false m n is f = follows_from (if_false m n is) f

module _ {P W L S A : Type 0} {who : P → W} {log : P → List Event} where
  -- a call returned a value, and a change of the state continues with it
  pub follows_changed : {B : Type 0} {p q : P} {c d : Clock} {m : Act L S A} {value : A} {t u u' : S} {result : B} (next : A → S → Act L S B)
      → Follows who log p q c d m (Some (Gives value t)) → next value t ≡ Gives result u → u ≡ u' → Follows who log p q c d (m then next) (Some (Gives result u'))
  follows_changed {B} {p} {q} {c} {d} {m} {value} {t} {u} {u'} {result} next f is same = follows_with next f (follows_to (ap Some (is ∙ ap (Gives result) same)) follows_stay)

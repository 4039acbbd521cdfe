-- Tests and steps that make no request.
use Rattle.std.proofs.Common.{◌≡◌, List, Option, Some, None, Result, sym}
use Rattle.std.specs.Prelude.{IfSome}
use Rattle.basic_values.specs.declared.failures.Stop.{Stop}
use Rattle.monitor_calls.specs.declared.events.Event.{Event}
use Rattle.job_model.specs.Act.{Act}
use Rattle.job_model.specs.Play.{Clock}
use Rattle.job_model.specs.Follow.{Follows, answered_by}
use Rattle.job_model.proofs.Follows.{follows_to, follows_stay, follows_nothing, follows_is}

pub follows_tested : {P W S A : Type 0} {who : P → W} {log : P → List Event} {p : P} {c : Clock} (r : Result A Stop) (s : S) (m : Act ⊥ S A) → answered_by r s ≡ Some m → Follows who log p p c c m (answered_by r s)
follows_tested r s m e = follows_to (sym e) follows_stay

-- if anything is left, it is what was to be done
module _ {P W L S A : Type 0} {who : P → W} {log : P → List Event} {p : P} {c : Clock} {m : Act L S A} where
  all_left : (left : Option (Act L S A)) → IfSome left (λ t. m ≡ t) → Follows who log p p c c m left
  all_left None is = follows_nothing
  all_left (Some t) is = follows_is is

  pub follows_left : (r : Result A Stop) (s : S) → IfSome (answered_by r s) (λ t. m ≡ t) → Follows who log p p c c m (answered_by r s)
  follows_left r s is = all_left (answered_by r s) is

-- Showing bytes to a port adds no event to its log.
use Rattle.std.proofs.Common.{◌≡◌, List, [], ◌++◌, Result, Ok, Err, ap, ◌∙◌, append-nil}
use Rattle.std.specs.Prelude.{IfOk, OnErr}
use Rattle.monitor_calls.specs.declared.events.Event.{Event}
use Rattle.monitor_calls.specs.Pairs.{Grew}

module _ {P W : Type 0} (who : P → W) (log : P → List Event) (p q r : P) where
  grew_on : (events : List Event) → Grew who log p q [] → Grew who log q r events → Grew who log p r events
  grew_on events shown grew = (grew.0 ∙ shown.0, grew.1 ∙ ap (λ (l : List Event). l ++ events) (shown.1 ∙ append-nil (log p)))

  pub shown_ok : {T E : Type 0} (result : Result T E) (events : T → List Event) → Grew who log p q [] → IfOk result (λ value. Grew who log q r (events value)) → IfOk result (λ value. Grew who log p r (events value))
  shown_ok (Ok value) events shown grew = grew_on (events value) shown grew
  shown_ok (Err e) events shown none = none

  pub shown_err : {T E : Type 0} (result : Result T E) → Grew who log p q [] → OnErr result (Grew who log q r []) → OnErr result (Grew who log p r [])
  shown_err (Ok value) shown none = none
  shown_err (Err e) shown grew = grew_on [] shown grew

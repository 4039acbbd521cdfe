-- A log that grew twice grew.
use Rattle.std.proofs.Common.{◌≡◌, List, [], ◌∷◌, ◌++◌, refl, ap, ◌∙◌, append_assoc}
use Rattle.monitor_calls.specs.declared.calls.Request.{Request}
use Rattle.monitor_calls.specs.declared.calls.Reply.{Reply}
use Rattle.monitor_calls.specs.declared.events.Event.{Event}
use Rattle.monitor_calls.specs.declared.events.Event.TheVariants.{Asked}
use Rattle.monitor_calls.specs.Pairs.{Grew, requests, pairs_of}

pub grew_on : {S W E : Type 0} (who : S → W) (log : S → List E) {p q r : S} (xs ys : List E)
    → Grew who log p q xs → Grew who log q r ys → (events : List E) × Grew who log p r events
grew_on who log {p} xs ys f g = (xs ++ ys, (g.0 ∙ f.0, g.1 ∙ ap (λ (l : List _). l ++ ys) f.1 ∙ append_assoc (log p) xs ys))

-- a port that was asked twice has these two requests
pub asked_twice : {S W : Type 0} (who : S → W) (log : S → List Event) {p q r : S} {a b : Request} (x y : Reply)
    → Grew who log p q (Asked a x ∷ []) → Grew who log q r (Asked b y ∷ [])
    → (events : List Event) × Grew who log p r events × (requests (pairs_of events) ≡ a ∷ b ∷ [])
asked_twice who log {p} {q} {r} {a} {b} x y f g = (
  Asked a x ∷ Asked b y ∷ [],
  (g.0 ∙ f.0, g.1 ∙ ap (λ (l : List Event). l ++ (Asked b y ∷ [])) f.1 ∙ append_assoc (log p) (Asked a x ∷ []) (Asked b y ∷ [])),
  refl,
)

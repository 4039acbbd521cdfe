-- The laws of keys.
use Rattle.std.proofs.Common.{◌≡◌, ℕ, List, [], ◌∷◌, ◌++◌, refl, sym, ap, subst, ◌∙◌}
use Rattle.std.specs.Prelude.{Some, None}
use Rattle.monitor_calls.specs.Typing.{Typing, Line, goes_on, all_typed, AreTyped}
use Rattle.monitor_calls.proofs.TypingLemmas.{typed_grows}
use Rattle.key_rings.specs.Rings.{Key, typed_by}
use Rattle.key_rings.specs.Laws.{ended, EndedKeys, LiveIsBatch}
use Rattle.key_rings.proofs.Keys.{IsNot}

pub ended_keys : EndedKeys
ended_keys [] once over = absurd (subst IsNot over tt)
ended_keys (Some line ∷ keys) once over = ap (λ (l : List Key). Some line ∷ l) (ended_keys keys once over)
ended_keys (None ∷ []) once over = refl
ended_keys (None ∷ key ∷ keys) once over = absurd (subst IsNot once tt)

left_by : (taken left : List Key) → typed_by (taken ++ left) ≡ goes_on (typed_by taken) (typed_by left)
left_by [] left = refl
left_by (Some line ∷ taken) left = ap (Line line) (left_by taken left)
left_by (None ∷ taken) left = refl

whole_by : (lines : List (List ℕ)) → typed_by (ended lines) ≡ all_typed lines
whole_by [] = refl
whole_by (line ∷ lines) = ap (Line line) (whole_by lines)

pub same_events : LiveIsBatch
same_events taken left lines events is typed =
    subst (λ (t : Typing). AreTyped t events) (sym (left_by taken left) ∙ ap typed_by is ∙ whole_by lines) (typed_grows (typed_by taken) (typed_by left) events typed)

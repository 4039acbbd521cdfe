-- Lines that are taken one after another from all that there are.
use Rattle.std.proofs.Common.{◌≡◌, ℕ, zero, suc, List, [], ◌∷◌, length, take, drop, refl, sym, ap, subst, ◌∙◌, arith}
use Rattle.std.specs.Prelude.{Bool, true, false, Some, None}
use Rattle.monitor_calls.specs.declared.events.Event.{Event}
use Rattle.monitor_calls.specs.Typing.{Typing, Line, Over, Open, IsOpen, goes_on, TypedOn, all_typed, typed_so_far, AreTyped}
use Rattle.monitor_calls.proofs.TypingLemmas.{typed_grows}
use Rattle.terminal_runner.specs.Batches.{typed_lines}

open_so_far : (n : ℕ) (all : List (List ℕ)) → IsOpen (typed_so_far (take n all))
open_so_far zero all = tt
open_so_far (suc n) [] = tt
open_so_far (suc n) (line ∷ all) = open_so_far n all

-- one line more
one_more : (n : ℕ) (all : List (List ℕ)) (line : List ℕ) (rest : List (List ℕ)) → drop n all ≡ line ∷ rest → typed_so_far (take (suc n) all) ≡ goes_on (typed_so_far (take n all)) (Line line Open)
one_more zero [] line rest is = absurd (let h : 0 ≡ suc (length rest) = ap length is in omega (arith, h))
one_more zero (first ∷ all) line rest is = ap (λ (l : List (List ℕ)). typed_so_far (take 1 l)) is
one_more (suc n) [] line rest is = absurd (let h : 0 ≡ suc (length rest) = ap length is in omega (arith, h))
one_more (suc n) (first ∷ all) line rest is = ap (Line first) (one_more n all line rest is)

over_so_far : (lines : List (List ℕ)) → all_typed lines ≡ goes_on (typed_so_far lines) Over
over_so_far [] = refl
over_so_far (line ∷ lines) = ap (Line line) (over_so_far lines)

pub over_again : (lines : List (List ℕ)) (more : Typing) → all_typed lines ≡ goes_on (all_typed lines) more
over_again [] more = refl
over_again (line ∷ lines) more = ap (Line line) (over_again lines more)

taken_line : (n : ℕ) (all rest : List (List ℕ)) (line : List ℕ) (over : Bool) → over ≡ false → drop n all ≡ line ∷ rest → TypedOn (typed_lines over (take n all)) (Some line) (typed_lines over (take (suc n) all))
taken_line n all rest line over is left = subst (λ (over : Bool). TypedOn (typed_lines over (take n all)) (Some line) (typed_lines over (take (suc n) all))) (sym is) (open_so_far n all, one_more n all line rest left)

pub taken_none : (lines : List (List ℕ)) (over : Bool) → TypedOn (typed_lines over lines) None (typed_lines true lines)
taken_none lines true = over_again lines Over
taken_none lines false = over_so_far lines

-- all of them, after those that were taken
all_after : (n : ℕ) (all : List (List ℕ)) (over : Bool) → (over ≡ true → drop n all ≡ []) → goes_on (typed_lines over (take n all)) (all_typed (drop n all)) ≡ all_typed all
all_after n all false none = go n all
  where
    go : (n : ℕ) (all : List (List ℕ)) → goes_on (typed_so_far (take n all)) (all_typed (drop n all)) ≡ all_typed all
    go zero all = refl
    go (suc n) [] = refl
    go (suc n) (line ∷ all) = ap (Line line) (go n all)
all_after n all true none = sym (over_again (take n all) (all_typed (drop n all))) ∙ go n all (none refl)
  where
    go : (n : ℕ) (all : List (List ℕ)) → drop n all ≡ [] → all_typed (take n all) ≡ all_typed all
    go zero all is = ap all_typed (sym is)
    go (suc n) [] is = refl
    go (suc n) (line ∷ all) is = ap (Line line) (go n all is)

not_over : (over : Bool) (left rest : List (List ℕ)) (line : List ℕ) → (over ≡ true → left ≡ []) → left ≡ line ∷ rest → over ≡ false
not_over false left rest line none is = refl
not_over true left rest line none is = absurd (let h : suc (length rest) ≡ 0 = ap length (sym is ∙ none refl) in omega (arith, h))

pub line_typed : (n m : ℕ) (all left rest : List (List ℕ)) (line : List ℕ) (over : Bool) → m ≡ suc n → left ≡ drop n all → (over ≡ true → left ≡ []) → left ≡ line ∷ rest → TypedOn (typed_lines over (take n all)) (Some line) (typed_lines over (take m all))
line_typed n m all left rest line over next are none is =
    subst (λ (m : ℕ). TypedOn (typed_lines over (take n all)) (Some line) (typed_lines over (take m all))) (sym next) (taken_line n all rest line over (not_over over left rest line none is) (sym are ∙ is))

-- what was typed is of all the lines
pub all_fed : (n : ℕ) (all lines left : List (List ℕ)) (over : Bool) (events : List Event) → left ≡ drop n all → (over ≡ true → left ≡ []) → all ≡ lines → AreTyped (typed_lines over (take n all)) events → AreTyped (all_typed lines) events
all_fed n all lines left over events are none same typed =
    let more : AreTyped (goes_on (typed_lines over (take n all)) (all_typed (drop n all))) events = typed_grows (typed_lines over (take n all)) (all_typed (drop n all)) events typed in
    let of_all : AreTyped (all_typed all) events = subst (λ (keys : Typing). AreTyped keys events) (all_after n all over (λ h. sym are ∙ none h)) more in
    subst (λ (l : List (List ℕ)). AreTyped (all_typed l) events) same of_all

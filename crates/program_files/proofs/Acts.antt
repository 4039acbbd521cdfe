-- How requests on files are put together, and what is done at the ends of a tree.
use Rattle.std.proofs.Common.{◌≡◌, ◌⊎◌, inl, inr, ℕ, List, [], ◌∷◌, Option, Some, Result, Ok, Err, refl, sym, ap, subst}
use Rattle.std.specs.Option.{option_map}
use Rattle.std.specs.Result.{IsErrAnd}
use Rattle.basic_values.specs.declared.failures.Stop.{Stop}
use Rattle.basic_values.specs.declared.failures.Stop.TheVariants as stop
use Rattle.monitor_calls.specs.declared.calls.Request.{Request}
use Rattle.monitor_calls.specs.declared.calls.Reply.{Reply}
use Rattle.monitor_calls.specs.declared.events.Event.{Event}
use Rattle.monitor_calls.specs.declared.events.Event.TheVariants.{Asked}
use Rattle.monitor_calls.specs.Pairs.{Grew}
use Rattle.job_model.specs.Act.{Act, Gives, Breaks, Asks, Faulted, ◌then◌}
use Rattle.job_model.specs.Play.{Clock}
use Rattle.job_model.specs.Follow.{Follows, answered_by}
use Rattle.job_model.proofs.Asked.{follows_answer}
use Rattle.job_model.proofs.Ends.{follows_ends}
use Rattle.job_model.proofs.Follows.{follows_to, follows_forget, follows_asked, follows_on, follows_stay, follows_with, broken}
use Rattle.program_files.specs.declared.channels.Opened.{Opened}
use Rattle.program_files.specs.Channels.{FileAct, closes, still_faulted, first_told, closed_after, closed_behind}
use Rattle.program_files.specs.Taken.{first_stop, IsTold}

-- ONE REQUEST

-- what a tree that makes no request gives
told_or_lost : {S A : Type 0} (result : Result A Stop) (m : Act ⊥ S A) (s : S) → IsTold result m s → (answered_by result s ≡ Some m) ⊎ (result ≡ Err stop.NoMemory)
told_or_lost (Ok value) m s told = inl told
told_or_lost (Err (stop.Fault number)) m s told = inl told
told_or_lost (Err (stop.Halt halt)) m s told = inl told
told_or_lost (Err stop.Expired) m s told = inl told
told_or_lost (Err stop.NoMemory) m s told = inr refl

-- one request, and what its reply leads to
pub follows_told : {P W S A : Type 0} {who : P → W} {log : P → List Event} {p q : P} {c : Clock} (r : Request) (x : Reply) (by : Reply → Act ⊥ S A) (result : Result A Stop) (s : S) → Grew who log p q (Asked r x ∷ []) → IsTold result (by x) s
    → Follows who log p q c c (Asks r by) (answered_by result s)
follows_told {P} {W} {S} {A} {who} {log} {p} {q} {c} r x by result s grew told = elim (told_or_lost result (by x) s told) [
  | inl is ↦ follows_answer r x by result s grew is
  | inr lost ↦ follows_to (ap (λ (result : Result A Stop). answered_by result s) (sym lost)) (follows_forget (follows_asked r x by grew))
]

-- CLOSING

-- the result of an error and of the closing after it
abbrev pub faulted_by : {A : Type 0} → ℕ → Result Unit Stop → Result A Stop
faulted_by number (Ok done) = Err (stop.Fault number)
faulted_by number (Err closing) = Err (first_stop number closing)

still_left : {A : Type 0} (number : ℕ) (r : Result Unit Stop) → option_map (still_faulted number) (answered_by r tt) ≡ answered_by {L = ⊥} {S = Unit {0}} {A = A} (faulted_by number r) tt
still_left number (Ok done) = refl
still_left number (Err (stop.Fault other)) = refl
still_left number (Err (stop.Halt halt)) = refl
still_left number (Err stop.Expired) = refl
still_left number (Err stop.NoMemory) = refl

module _ {P W : Type 0} {who : P → W} {log : P → List Event} where
  follows_still : {A B : Type 0} {p q : P} {c d : Clock} {m : FileAct A} {left : Option (FileAct A)} (number : ℕ) → Follows who log p q c d m left → Follows who log p q c d (still_faulted {B = B} number m) (option_map (still_faulted number) left)
  follows_still number f = follows_ends (λ u. u) (λ _ _. Breaks (Faulted number) tt) (λ why _. first_told number why) (λ _. refl) f

  -- of what was opened
  module _ (opened : Opened) where
    pub follows_closed : {A : Type 0} {p q : P} {c d : Clock} {m : FileAct A} {left : Option (FileAct A)} → Follows who log p q c d m left → Follows who log p q c d (closed_behind opened m) (option_map (closed_behind opened) left)
    follows_closed f = follows_ends (λ u. u) (λ value _. closes opened then λ _ _. Gives value tt) (λ why _. closed_after opened why) (λ _. refl) f

    -- after an error
    pub closed_at_fault : {A : Type 0} {start p q : P} {c : Clock} {m : FileAct A} (why : Stop) (number : ℕ) (r : Result Unit Stop) → why ≡ stop.Fault number
        → Follows who log start p c c m (answered_by (Err why) tt) → Follows who log p q c c (closes opened) (answered_by r tt) → Follows who log start q c c (closed_behind opened m) (answered_by (faulted_by number r) tt)
    closed_at_fault {A} {start} {p} {q} {c} {m} why number r is f g =
        let at : Follows who log start p c c m (Some (Breaks (Faulted number) tt)) = subst (λ (why : Stop). Follows who log start p c c m (answered_by (Err why) tt)) is f in
        follows_on (follows_closed at) (follows_to (still_left number r) (follows_still number g))

    -- after something that is no error
    pub closed_at_end : {A : Type 0} {start p : P} {c : Clock} {m : FileAct A} (why : Stop) → ((number : ℕ) → why ≡ stop.Fault number → ⊥)
        → Follows who log start p c c m (answered_by (Err why) tt) → Follows who log start p c c (closed_behind opened m) (answered_by (Err why) tt)
    closed_at_end (stop.Fault number) nay f = absurd (nay number refl)
    closed_at_end (stop.Halt halt) nay f = follows_closed f
    closed_at_end stop.Expired nay f = follows_closed f
    closed_at_end stop.NoMemory nay f = follows_closed f

    -- after a value
    pub closed_at_value : {A : Type 0} {start p q : P} {c : Clock} {m : FileAct A} (outcome : Result A Stop) (value : A) → outcome ≡ Ok value
        → Follows who log start p c c m (answered_by outcome tt) → Follows who log p q c c (closes opened) (Some (Gives tt tt)) → Follows who log start q c c (closed_behind opened m) (Some (Gives value tt))
    closed_at_value {A} {start} {p} {q} {c} {m} outcome value is f g =
        let at : Follows who log start p c c m (Some (Gives value tt)) = subst (λ (outcome : Result A Stop). Follows who log start p c c m (answered_by outcome tt)) is f in
        follows_on (follows_closed at) (follows_with (λ _ _. Gives value tt) g follows_stay)

    pub unclosed_value : {A : Type 0} {start p q : P} {c : Clock} {m : FileAct A} (outcome : Result A Stop) (value : A) (e : Stop) (result : Result A Stop) → outcome ≡ Ok value → IsErrAnd result (λ x. x ≡ e)
        → Follows who log start p c c m (answered_by outcome tt) → Follows who log p q c c (closes opened) (answered_by (Err e) tt) → Follows who log start q c c (closed_behind opened m) (answered_by result tt)
    unclosed_value {A} {start} {p} {q} {c} {m} outcome value e result is lost f g =
        let at : Follows who log start p c c m (Some (Gives value tt)) = subst (λ (outcome : Result A Stop). Follows who log start p c c m (answered_by outcome tt)) is f in
        follows_on (follows_closed at) (broken e result tt (λ _ _. Gives value tt) lost g)

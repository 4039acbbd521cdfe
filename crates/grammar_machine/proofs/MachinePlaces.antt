-- Where the machine stops: nothing that it takes continues with the word that it rejected.
use Rattle.std.proofs.Common.{subst, ◌≡◌, ℕ, zero, suc, ◌+◌, List, [], ◌∷◌, ◌++◌, length, Some, None, Ok, Err, refl, sym, ap, ◌∙◌, arith}
use Rattle.basic_tree.specs.SpellingWords.{Word, words}
use Rattle.grammar_machine.specs.MachineStack.{Values, Symbol}
use Rattle.grammar_machine.specs.MachineRun.{Turn, Next, Ended, Stuck, Deep, turn, Wrong, TooDeep, MachineOutcome, turned, run}
use Rattle.grammar_machine.proofs.MachineSpelled.{Spelled}
use Rattle.grammar_machine.proofs.MachineTurns.{ends, TurnBack, end_back, turn_back}
use Rattle.grammar_machine.proofs.MachinePasses.{left, left_short, Further, turn_more, passes}

-- a word is rejected, or all that was expected has ended, however many nesting levels are left
stops : (d : ℕ) (c : Word) (r : List Word) (n : ℕ) (k : List Symbol) (vs : Values) → left (run n (c ∷ r) k vs) ≡ c ∷ r → (run n (c ∷ r) k vs ≡ Err (TooDeep (c ∷ r)) → ⊥) → (q : List Word) → left (run (n + d) (c ∷ q) k vs) ≡ c ∷ q
unfolding run
stops d c r n k vs h not_deep q = go (turn k n vs (Some c)) (turn_more k n d vs (Some c)) h not_deep where
  go : (x : Turn) → Further d x (turn k (n + d) vs (Some c)) → left (turned x (c ∷ r) (λ m vs' k'. run m r k' vs')) ≡ c ∷ r → (turned x (c ∷ r) (λ m vs' k'. run m r k' vs') ≡ Err (TooDeep (c ∷ r)) → ⊥) → left (turned (turn k (n + d) vs (Some c)) (c ∷ q) (λ m vs' k'. run m q k' vs')) ≡ c ∷ q
  go (Next m a b) y l nd = absurd (omega (arith, ap length l, left_short r m b a))
  go (Ended u) y l nd = rw y refl
  go Stuck y l nd = rw y refl
  go Deep y l nd = absurd (nd refl)

-- nothing that continues with that word is taken whole, with any number of nesting levels
pub goes_no_further : (d : ℕ) (p : List Word) (c : Word) (r : List Word) (n : ℕ) (k : List Symbol) (vs : Values) → left (run n (p ++ c ∷ r) k vs) ≡ c ∷ r → (run n (p ++ c ∷ r) k vs ≡ Err (TooDeep (c ∷ r)) → ⊥) → (q : List Word) → left (run (n + d) (p ++ c ∷ q) k vs) ≡ c ∷ q
goes_no_further d p c r n k vs h nd q =
    let at = passes p (c ∷ r) n k vs h in
    let none : n + 0 ≡ n = omega arith in
    let left_over : at.0 + 0 ≡ at.0 = omega arith in
    let here = ap (λ i. run i (p ++ c ∷ r) k vs) (sym none) ∙ at.3.runs 0 (c ∷ r) ∙ ap (λ i. run i (c ∷ r) at.1 at.2) left_over in
    ap left (at.3.runs d (c ∷ q)) ∙ stops d c r at.0 at.1 at.2 (ap left (sym here) ∙ h) (λ e. nd (here ∙ e)) q

-- what was taken has been spelled, at the machine's end
abbrev pub values : MachineOutcome → Values
values (Ok x) = x.0
values (Err e) = []

pub ended : (r : List Word) (n : ℕ) (k : List Symbol) (vs u : Values) → run n r k vs ≡ Ok (u, r) → (c : ℕ) × Spelled k vs (ends c []) u
unfolding run
ended [] n k vs u h = go (turn k n vs None) refl h where
  go : (x : Turn) → turn k n vs None ≡ x → turned x [] (λ m vs' k'. Err (Wrong [])) ≡ Ok (u, []) → (c : ℕ) × Spelled k vs (ends c []) u
  go (Next m a b) e l = absurd cc
  go (Ended v) e l = let same : v ≡ u = ap values l in let s = subst (λ y. TurnBack k n vs None y) e (end_back k n vs) in (s.0, subst (λ x. Spelled k vs (ends s.0 []) x) same s.1)
  go Stuck e l = absurd cc
  go Deep e l = absurd cc
ended (c ∷ r) n k vs u h = go (turn k n vs (Some c)) refl h where
  go : (x : Turn) → turn k n vs (Some c) ≡ x → turned x (c ∷ r) (λ m vs' k'. run m r k' vs') ≡ Ok (u, c ∷ r) → (i : ℕ) × Spelled k vs (ends i []) u
  go (Next m a b) e l = absurd (omega (arith, ap (λ o. length (left o)) l, left_short r m b a))
  go (Ended v) e l = let same : v ≡ u = ap values l in let s = subst (λ y. TurnBack k n vs (Some c) y) e (turn_back k n vs c) in (s.0, subst (λ x. Spelled k vs (ends s.0 []) x) same s.1)
  go Stuck e l = absurd cc
  go Deep e l = absurd cc

pub words_of_ends : (c : ℕ) → words (ends c []) ≡ []
words_of_ends zero = refl
words_of_ends (suc c) = words_of_ends c

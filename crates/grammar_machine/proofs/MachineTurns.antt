-- What a turn of the whole stack took is spelled so, and how many nesting levels it left.
use Rattle.std.proofs.Common.{◌≡◌, ◌+◌, ℕ, zero, suc, Bool, true, false, List, [], ◌∷◌, ◌++◌, Option, Some, None, refl, arith}
use Rattle.basic_tree.specs.SpellingWords.{Word, LevelStep, Opens, Closes}
use Rattle.grammar_machine.specs.MachineStack.{Values, Symbol}
use Rattle.grammar_machine.specs.MachineMoves.{MachineMove, Shifts, Skips, Refuses, move}
use Rattle.grammar_machine.specs.MachineMoves.{Closes as Ends}
use Rattle.grammar_machine.specs.MachineRun.{Turn, Next, Ended, Stuck, Deep, entered, moved, turn}
use Rattle.grammar_machine.proofs.MachineSpelled.{Spelled}
use Rattle.grammar_machine.proofs.MachineBack.{taken, TakesBack}
use Rattle.grammar_machine.proofs.MachineMoves.{MoveBack, move_back}

-- this many nesting levels end before the steps
abbrev pub ends : ℕ → List LevelStep → List LevelStep
ends zero q = q
ends (suc c) q = Closes ∷ ends c q

-- the nesting levels that were left before a word, which may open one
abbrev pub before : Bool → ℕ → ℕ
before true m = suc m
before false m = m

abbrev pub TurnBack : List Symbol → ℕ → Values → Option Word → Turn → Type 0
TurnBack k n vs None (Next m vs' k') = Unit {0}
TurnBack k n vs (Some t) (Next m vs' k') = (c : ℕ) × (b : Bool) × (n + c ≡ before b m) × ((q : List LevelStep) (u : Values) → Spelled k' vs' q u → Spelled k vs (ends c (taken b t ∷ q)) u)
TurnBack k n vs o (Ended u) = (c : ℕ) × Spelled k vs (ends c []) u
TurnBack k n vs o Stuck = Unit {0}
TurnBack k n vs None Deep = Unit {0}
TurnBack k n vs (Some t) Deep = (c : ℕ) × (k' : List Symbol) × (vs' : Values) × (n + c ≡ 0) × ((q : List LevelStep) (u : Values) → Spelled k' vs' q u → Spelled k vs (ends c (Opens t ∷ q)) u)

-- ---- a symbol above a stack

skip_on : (s : Symbol) (k : List Symbol) (n : ℕ) (vs vs' : Values) (o : Option Word) → ((q : List LevelStep) (u : Values) → Spelled k vs' q u → Spelled (s ∷ k) vs q u) → (x : Turn) → TurnBack k n vs' o x → TurnBack (s ∷ k) n vs o x
skip_on s k n vs vs' None f (Next m a b) h = tt
skip_on s k n vs vs' None f (Ended u) h = (h.0, f (ends h.0 []) u h.1)
skip_on s k n vs vs' None f Stuck h = tt
skip_on s k n vs vs' None f Deep h = tt
skip_on s k n vs vs' (Some t) f (Next m a b) h = (h.0, h.1, h.2, λ q u r. f (ends h.0 (taken h.1 t ∷ q)) u (h.3 q u r))
skip_on s k n vs vs' (Some t) f (Ended u) h = (h.0, f (ends h.0 []) u h.1)
skip_on s k n vs vs' (Some t) f Stuck h = tt
skip_on s k n vs vs' (Some t) f Deep h = (h.0, h.1, h.2, h.3, λ q u r. f (ends h.0 (Opens t ∷ q)) u (h.4 q u r))

close_on : (s : Symbol) (k : List Symbol) (n : ℕ) (vs vs' : Values) (o : Option Word) → ((q : List LevelStep) (u : Values) → Spelled k vs' q u → Spelled (s ∷ k) vs (Closes ∷ q) u) → (x : Turn) → TurnBack k (suc n) vs' o x → TurnBack (s ∷ k) n vs o x
close_on s k n vs vs' None f (Next m a b) h = tt
close_on s k n vs vs' None f (Ended u) h = (suc h.0, f (ends h.0 []) u h.1)
close_on s k n vs vs' None f Stuck h = tt
close_on s k n vs vs' None f Deep h = tt
close_on s k n vs vs' (Some t) f (Next m a b) h = (suc h.0, h.1, one_more h.0 h.1 m h.2, λ q u r. f (ends h.0 (taken h.1 t ∷ q)) u (h.3 q u r)) where
  one_more : (c : ℕ) (b : Bool) (m : ℕ) → suc n + c ≡ before b m → n + suc c ≡ before b m
  one_more c true m e = omega (arith, e)
  one_more c false m e = omega (arith, e)
close_on s k n vs vs' (Some t) f (Ended u) h = (suc h.0, f (ends h.0 []) u h.1)
close_on s k n vs vs' (Some t) f Stuck h = tt
close_on s k n vs vs' (Some t) f Deep h = (suc h.0, h.1, h.2, omega (arith, h.3), λ q u r. f (ends h.0 (Opens t ∷ q)) u (h.4 q u r))

enter : (b : Bool) (s : Symbol) (k : List Symbol) (n : ℕ) (vs vs' : Values) (t : Word) (ns : List Symbol) → TakesBack b s vs vs' t ns → TurnBack (s ∷ k) n vs (Some t) (entered b n vs' (ns ++ k))
enter false s k n vs vs' t ns h = (0, false, omega arith, λ q u r. h k q u r)
enter true s k zero vs vs' t ns h = (0, ns ++ k, vs', omega arith, λ q u r. h k q u r)
enter true s k (suc n) vs vs' t ns h = (0, true, omega arith, λ q u r. h k q u r)

enter_end : (b : Bool) (s : Symbol) (k : List Symbol) (n : ℕ) (vs vs' : Values) (ns : List Symbol) → TurnBack (s ∷ k) n vs None (entered b n vs' (ns ++ k))
enter_end false s k n vs vs' ns = tt
enter_end true s k zero vs vs' ns = tt
enter_end true s k (suc n) vs vs' ns = tt

through_end : (s : Symbol) (k : List Symbol) (n : ℕ) (vs : Values) (m : MachineMove) → MoveBack s vs None m → ((i : ℕ) (vs' : Values) → TurnBack k i vs' None (turn k i vs' None)) → TurnBack (s ∷ k) n vs None (moved m n k (λ i vs'. turn k i vs' None))
through_end s k n vs (Shifts b vs' ns) h on = enter_end b s k n vs vs' ns
through_end s k n vs (Skips vs') h on = skip_on s k n vs vs' None (h k) (turn k n vs' None) (on n vs')
through_end s k n vs (Ends vs') h on = close_on s k n vs vs' None (h k) (turn k (suc n) vs' None) (on (suc n) vs')
through_end s k n vs Refuses h on = tt

through : (s : Symbol) (k : List Symbol) (n : ℕ) (vs : Values) (t : Word) (m : MachineMove) → MoveBack s vs (Some t) m → ((i : ℕ) (vs' : Values) → TurnBack k i vs' (Some t) (turn k i vs' (Some t))) → TurnBack (s ∷ k) n vs (Some t) (moved m n k (λ i vs'. turn k i vs' (Some t)))
through s k n vs t (Shifts b vs' ns) h on = enter b s k n vs vs' t ns h
through s k n vs t (Skips vs') h on = skip_on s k n vs vs' (Some t) (h k) (turn k n vs' (Some t)) (on n vs')
through s k n vs t (Ends vs') h on = close_on s k n vs vs' (Some t) (h k) (turn k (suc n) vs' (Some t)) (on (suc n) vs')
through s k n vs t Refuses h on = tt

pub end_back : (k : List Symbol) (n : ℕ) (vs : Values) → TurnBack k n vs None (turn k n vs None)
end_back [] n vs = (0, (refl, refl))
end_back (s ∷ k) n vs = through_end s k n vs (move s vs None) (move_back s vs None) (λ i vs'. end_back k i vs')

pub turn_back : (k : List Symbol) (n : ℕ) (vs : Values) (t : Word) → TurnBack k n vs (Some t) (turn k n vs (Some t))
turn_back [] n vs t = (0, (refl, refl))
turn_back (s ∷ k) n vs t = through s k n vs t (move s vs (Some t)) (move_back s vs (Some t)) (λ i vs'. turn_back k i vs' t)

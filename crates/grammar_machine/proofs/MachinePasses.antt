-- What the machine does when it passes words: the steps that it passed, and how many nesting levels
-- are left.
use Rattle.std.proofs.Common.{◌≡◌, ℕ, zero, suc, ◌+◌, ◌≤◌, Bool, true, false, List, [], ◌∷◌, ◌++◌, length, Option, Some, None, Ok, Err, refl, sym, ap, ◌∙◌, subst, arith, length-append}
use Rattle.basic_tree.specs.SpellingWords.{Word, LevelStep, Plain, Opens, Closes, words}
use Rattle.grammar_machine.specs.MachineStack.{Values, Symbol}
use Rattle.grammar_machine.specs.MachineMoves.{MachineMove, Shifts, Skips, Refuses, move}
use Rattle.grammar_machine.specs.MachineMoves.{Closes as Ends}
use Rattle.grammar_machine.specs.MachineRun.{Turn, Next, Ended, Stuck, Deep, entered, moved, turn, Halt, Wrong, TooDeep, MachineOutcome, turned, run}
use Rattle.grammar_machine.proofs.MachineSpelled.{Spelled}
use Rattle.grammar_machine.proofs.MachineBack.{taken}
use Rattle.grammar_machine.proofs.MachineTurns.{ends, before, TurnBack, turn_back}

-- the words that are left
abbrev pub rest_of : Halt → List Word
rest_of (Wrong ws) = ws
rest_of (TooDeep ws) = ws

abbrev pub left : MachineOutcome → List Word
left (Ok x) = x.1
left (Err e) = rest_of e

pub left_short : (ws : List Word) (n : ℕ) (k : List Symbol) (vs : Values) → length (left (run n ws k vs)) ≤ length ws
unfolding run
left_short [] n k vs = go (turn k n vs None) where
  go : (x : Turn) → length (left (turned x [] (λ m vs' k'. Err (Wrong [])))) ≤ 0
  go (Next m a b) = omega arith
  go (Ended u) = omega arith
  go Stuck = omega arith
  go Deep = omega arith
left_short (t ∷ ws) n k vs = go (turn k n vs (Some t)) (λ m vs' k'. left_short ws m k' vs') where
  go : (x : Turn) → ((m : ℕ) (vs' : Values) (k' : List Symbol) → length (left (run m ws k' vs')) ≤ length ws) → length (left (turned x (t ∷ ws) (λ m vs' k'. run m ws k' vs'))) ≤ length (t ∷ ws)
  go (Next m a b) h = omega (arith, h m a b)
  go (Ended u) h = omega arith
  go Stuck h = omega arith
  go Deep h = omega arith

-- ---- with more nesting levels, every turn is the same, except one that was too deep

abbrev pub Further : ℕ → Turn → Turn → Type 0
Further d (Next m a b) y = y ≡ Next (m + d) a b
Further d (Ended u) y = y ≡ Ended u
Further d Stuck y = y ≡ Stuck
Further d Deep y = Unit {0}

entered_more : (b : Bool) (n d : ℕ) (vs : Values) (k : List Symbol) → Further d (entered b n vs k) (entered b (n + d) vs k)
entered_more false n d vs k = refl
entered_more true zero d vs k = tt
entered_more true (suc n) d vs k = let e : suc n + d ≡ suc (n + d) = omega arith in rw e refl

moved_more : (m : MachineMove) (n d : ℕ) (k : List Symbol) (f : ℕ → Values → Turn) → ((i : ℕ) (vs : Values) → Further d (f i vs) (f (i + d) vs)) → Further d (moved m n k f) (moved m (n + d) k f)
moved_more (Shifts b vs more) n d k f h = entered_more b n d vs (more ++ k)
moved_more (Skips vs) n d k f h = h n vs
moved_more (Ends vs) n d k f h = let e : suc n + d ≡ suc (n + d) = omega arith in rw (← e) (h (suc n) vs)
moved_more Refuses n d k f h = refl

pub turn_more : (k : List Symbol) (n d : ℕ) (vs : Values) (o : Option Word) → Further d (turn k n vs o) (turn k (n + d) vs o)
turn_more [] n d vs o = refl
turn_more (s ∷ k) n d vs o = moved_more (move s vs o) n d k (λ m vs'. turn k m vs' o) (λ i vs'. turn_more k i d vs' o)

-- ---- nesting levels

-- from this many nesting levels, no step opens one too many, and that many are left after them
abbrev pub Counts : ℕ → List LevelStep → ℕ → Type 0
Counts n [] m = n ≡ m
Counts n (Plain w ∷ steps) m = Counts n steps m
Counts n (Opens w ∷ steps) m = (i : ℕ) × (n ≡ suc i) × Counts i steps m
Counts n (Closes ∷ steps) m = Counts (suc n) steps m

counts_ends : (c : ℕ) (b : Bool) (n m i : ℕ) (t : Word) (steps : List LevelStep) → n + c ≡ before b m → Counts m steps i → Counts n (ends c (taken b t ∷ steps)) i
counts_ends zero true n m i t steps e h = (m, omega (arith, e), h)
counts_ends zero false n m i t steps e h = let same : m ≡ n = omega (arith, e) in subst (λ (x : ℕ). Counts x steps i) same h
counts_ends (suc c) b n m i t steps e h = counts_ends c b (suc n) m i t steps (one_less b e) h where
  one_less : (b : Bool) → n + suc c ≡ before b m → suc n + c ≡ before b m
  one_less true e = omega (arith, e)
  one_less false e = omega (arith, e)

words_ends : (c : ℕ) (b : Bool) (t : Word) (steps : List LevelStep) → words (ends c (taken b t ∷ steps)) ≡ t ∷ words steps
words_ends zero true t steps = refl
words_ends zero false t steps = refl
words_ends (suc c) b t steps = words_ends c b t steps

ends_append : (c : ℕ) (s : LevelStep) (p q : List LevelStep) → ends c (s ∷ p) ++ q ≡ ends c (s ∷ (p ++ q))
ends_append zero s p q = refl
ends_append (suc c) s p q = ap (λ x. Closes ∷ x) (ends_append c s p q)

-- the machine passes the words p, and is then at k' with the values vs'
pub record Passes (p : List Word) (n : ℕ) (k : List Symbol) (vs : Values) (n' : ℕ) (k' : List Symbol) (vs' : Values) : Type 0 where
  pub steps : List LevelStep
  pub spelled : words steps ≡ p
  pub counts : Counts n steps n'
  pub runs : (d : ℕ) (x : List Word) → run (n + d) (p ++ x) k vs ≡ run (n' + d) x k' vs'
  pub spells : (q : List LevelStep) (u : Values) → Spelled k' vs' q u → Spelled k vs (steps ++ q) u

-- if the machine does not stop before them
pub passes_front : (p r : List Word) (n : ℕ) (k : List Symbol) (vs : Values) → length (left (run n (p ++ r) k vs)) ≤ length r → (n' : ℕ) × (k' : List Symbol) × (vs' : Values) × Passes p n k vs n' k' vs'
unfolding run
passes_front [] r n k vs h = (n, k, vs, record { steps = []; spelled = refl; counts = refl; runs = λ d x. refl; spells = λ q u s. s })
passes_front (t ∷ p) r n k vs h = go (turn k n vs (Some t)) refl h (λ m b a. passes_front p r m b a) where
  go : (x : Turn) → turn k n vs (Some t) ≡ x → length (left (turned x (t ∷ (p ++ r)) (λ m vs' k'. run m (p ++ r) k' vs'))) ≤ length r → ((m : ℕ) (b : List Symbol) (a : Values) → length (left (run m (p ++ r) b a)) ≤ length r → (n' : ℕ) × (k' : List Symbol) × (vs' : Values) × Passes p m b a n' k' vs') → (n' : ℕ) × (k' : List Symbol) × (vs' : Values) × Passes (t ∷ p) n k vs n' k' vs'
  go (Next m a b) e l again =
      let on = again m b a l in
      let back = subst (λ z. TurnBack k n vs (Some t) z) e (turn_back k n vs t) in (
        on.0,
        on.1,
        on.2,
        record {
          steps = ends back.0 (taken back.1 t ∷ on.3.steps);
          spelled = words_ends back.0 back.1 t on.3.steps ∙ ap (λ x. t ∷ x) on.3.spelled;
          counts = counts_ends back.0 back.1 n m on.0 t on.3.steps back.2 on.3.counts;
          runs = λ d x. let y = subst (λ z. Further d z (turn k (n + d) vs (Some t))) e (turn_more k n d vs (Some t)) in rw y (on.3.runs d x);
          spells = λ q u s. subst (λ x. Spelled k vs x u) (sym (ends_append back.0 (taken back.1 t) on.3.steps q)) (back.3 (on.3.steps ++ q) u (on.3.spells q u s));
        },
      )
  go (Ended u) e l again = absurd (omega (arith, l, length-append p r))
  go Stuck e l again = absurd (omega (arith, l, length-append p r))
  go Deep e l again = absurd (omega (arith, l, length-append p r))

-- if it stops right after them
pub passes : (p r : List Word) (n : ℕ) (k : List Symbol) (vs : Values) → left (run n (p ++ r) k vs) ≡ r → (n' : ℕ) × (k' : List Symbol) × (vs' : Values) × Passes p n k vs n' k' vs'
passes p r n k vs h = passes_front p r n k vs (omega (arith, ap length h))

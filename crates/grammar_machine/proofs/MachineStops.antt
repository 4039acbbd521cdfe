-- Where the machine stops, from any stack: what was spelled, how deep its words are nested, and
-- what cannot continue.
use Rattle.std.proofs.Common.{subst, ◌≡◌, ℕ, zero, suc, ◌+◌, ◌-◌, List, [], ◌∷◌, ◌++◌, length, Some, None, Ok, Err, refl, sym, ap, ◌∙◌, arith}
use Rattle.std.specs.Prelude.{nat_lt, position}
use Rattle.std.proofs.lemmas.List.{append-nil}
use Rattle.basic_tree.specs.SpellingWords.{Word, LevelStep, Plain, Opens, Closes, words, levels, most_levels, too_deep}
use Rattle.basic_tree.specs.GrammarPlaces.{IsFlatTo}
use Rattle.grammar_machine.specs.MachineStack.{Values, Symbol}
use Rattle.grammar_machine.specs.MachineRun.{Turn, Next, Ended, Stuck, Deep, turn, Wrong, TooDeep, turned, run}
use Rattle.grammar_machine.proofs.MachineSpelled.{Spelled, fill}
use Rattle.grammar_machine.proofs.MachineLeads.{words_append}
use Rattle.grammar_machine.proofs.MachineTurns.{ends, TurnBack, turn_back}
use Rattle.grammar_machine.proofs.MachinePasses.{left, left_short, Further, turn_more, Counts, Passes, passes}
use Rattle.grammar_machine.proofs.DeepLevels.{first, later, never}
use Rattle.grammar_machine.proofs.MachineLevels.{Above, flat}
use Rattle.grammar_machine.proofs.MachinePlaces.{goes_no_further, ended, words_of_ends}

-- the machine at the place that it has reached, with the nesting levels that are left
pub goes_on_from : (p : List Word) (n : ℕ) (k : List Symbol) (vs : Values) (n' : ℕ) (k' : List Symbol) (vs' : Values) → Passes p n k vs n' k' vs' → (x : List Word) → run n (p ++ x) k vs ≡ run n' x k' vs'
goes_on_from p n k vs n' k' vs' h x =
    let none : n + 0 ≡ n = omega arith in
    let left_over : n' + 0 ≡ n' = omega arith in
    ap (λ i. run i (p ++ x) k vs) (sym none) ∙ h.runs 0 x ∙ ap (λ i. run i x k' vs') left_over

-- if no nesting level is left, the next word that opens one is too deep
pub deep_at : (g q : List LevelStep) (c : Word) (n depth : ℕ) → n + depth ≡ most_levels → Counts n g 0 → Above depth (g ++ Opens c ∷ q) → position (λ level. nat_lt most_levels level) (levels depth (g ++ Opens c ∷ q)) ≡ Some (length (words g))
deep_at [] q c n depth e h a = first (depth + 1) (levels (depth + 1) q) (omega (arith, e, h))
deep_at (Plain w ∷ g) q c n depth e h a = later depth (levels depth (g ++ Opens c ∷ q)) (length (words g)) (omega (arith, e)) (deep_at g q c n depth e h a)
deep_at (Opens w ∷ g) q c n depth e h a =
    let up : depth + 1 ≡ suc depth = omega arith in
    later (depth + 1) (levels (depth + 1) (g ++ Opens c ∷ q)) (length (words g)) (omega (arith, e, h.1))
    (subst (λ (d : ℕ). position (λ level. nat_lt most_levels level) (levels d (g ++ Opens c ∷ q)) ≡ Some (length (words g))) (sym up) (deep_at g q c h.0 (suc depth) (omega (arith, e, h.1)) h.2 a))
deep_at (Closes ∷ g) q c n depth e h a =
    let down : depth - 1 ≡ a.0 = omega (arith, a.1) in
    subst (λ (d : ℕ). position (λ level. nat_lt most_levels level) (levels d (g ++ Opens c ∷ q)) ≡ Some (length (words g))) (sym down) (deep_at g q c (suc n) a.0 (omega (arith, e, a.1)) h a.2)

no_levels : (c depth : ℕ) → levels depth (ends c []) ≡ []
no_levels zero depth = refl
no_levels (suc c) depth = no_levels c (depth - 1)

-- with the same steps and the ends of nesting levels, no word is too deep
pub none_deep : (g : List LevelStep) (c n m depth : ℕ) → n + depth ≡ most_levels → Counts n g m → Above depth (g ++ ends c []) → position (λ level. nat_lt most_levels level) (levels depth (g ++ ends c [])) ≡ None
none_deep [] c n m depth e h a = rw (no_levels c depth) refl
none_deep (Plain w ∷ g) c n m depth e h a = never depth (levels depth (g ++ ends c [])) (omega (arith, e)) (none_deep g c n m depth e h a)
none_deep (Opens w ∷ g) c n m depth e h a =
    let up : depth + 1 ≡ suc depth = omega arith in
    never (depth + 1) (levels (depth + 1) (g ++ ends c [])) (omega (arith, e, h.1))
    (subst (λ (d : ℕ). position (λ level. nat_lt most_levels level) (levels d (g ++ ends c [])) ≡ None) (sym up) (none_deep g c h.0 m (suc depth) (omega (arith, e, h.1)) h.2 a))
none_deep (Closes ∷ g) c n m depth e h a =
    let down : depth - 1 ≡ a.0 = omega (arith, a.1) in
    subst (λ (d : ℕ). position (λ level. nat_lt most_levels level) (levels d (g ++ ends c [])) ≡ None) (sym down) (none_deep g c (suc n) m a.0 (omega (arith, e, a.1)) h a.2)

-- ---- the words that were passed

-- all that is expected ends the nesting levels that it opens
abbrev pub Nests : List Symbol → Values → Type 0
Nests k vs = (x : List LevelStep) (u : Values) → Spelled k vs x u → Above 0 x

-- steps with these words begin what is expected, and none of the words is nested too deep
pub record Passed (p : List Word) (k : List Symbol) (vs : Values) : Type 0 where
  pub steps : List LevelStep
  pub rest : List LevelStep
  pub made : Values
  pub levels_left : ℕ
  pub spelled : words steps ≡ p
  pub counts : Counts most_levels steps levels_left
  pub spells : Spelled k vs (steps ++ rest) made
  pub flat : IsFlatTo (length p) (steps ++ rest)

pub passed : (p r : List Word) (k : List Symbol) (vs : Values) → Nests k vs → left (run most_levels (p ++ r) k vs) ≡ r → Passed p k vs
passed p r k vs nests h =
    let at = passes p r most_levels k vs h in
    let f = fill at.1 at.2 in
    let s = at.3.spells f.0 f.1 f.2 in
    let whole = flat at.3.steps f.0 most_levels at.0 0 (omega arith) at.3.counts (nests (at.3.steps ++ f.0) f.1 s) in
    record {
      steps = at.3.steps;
      rest = f.0;
      made = f.1;
      levels_left = at.0;
      spelled = at.3.spelled;
      counts = at.3.counts;
      spells = s;
      flat = subst (λ (x : List Word). IsFlatTo (length x) (at.3.steps ++ f.0)) at.3.spelled whole;
    }

-- ---- a word that opens a nesting level too many

-- steps with these words, and this word after them, begin what is expected, and it is the first
-- that is too deep
pub record Deepest (p : List Word) (c : Word) (k : List Symbol) (vs : Values) : Type 0 where
  pub steps : List LevelStep
  pub rest : List LevelStep
  pub made : Values
  pub spelled : words steps ≡ p
  pub spells : Spelled k vs (steps ++ Opens c ∷ rest) made
  pub deep : too_deep (steps ++ Opens c ∷ rest) ≡ Some (length p)

opens_there : (c : Word) (r : List Word) (n : ℕ) (k : List Symbol) (vs : Values) → run n (c ∷ r) k vs ≡ Err (TooDeep (c ∷ r)) → (n ≡ 0) × ((q : List LevelStep) × (u : Values) × Spelled k vs (Opens c ∷ q) u)
unfolding run
opens_there c r n k vs h = go (turn k n vs (Some c)) refl h where
  opened : (e : ℕ) (k' : List Symbol) (vs' : Values) → n + e ≡ 0 → ((q : List LevelStep) (u : Values) → Spelled k' vs' q u → Spelled k vs (ends e (Opens c ∷ q)) u) → (n ≡ 0) × ((q : List LevelStep) × (u : Values) × Spelled k vs (Opens c ∷ q) u)
  opened zero k' vs' e back = let f = fill k' vs' in (omega (arith, e), (f.0, f.1, back f.0 f.1 f.2))
  opened (suc i) k' vs' e back = absurd (omega (arith, e))

  go : (x : Turn) → turn k n vs (Some c) ≡ x → turned x (c ∷ r) (λ m vs' k'. run m r k' vs') ≡ Err (TooDeep (c ∷ r)) → (n ≡ 0) × ((q : List LevelStep) × (u : Values) × Spelled k vs (Opens c ∷ q) u)
  go (Next m a b) e l = absurd (omega (arith, ap (λ o. length (left o)) l, left_short r m b a))
  go (Ended v) e l = absurd cc
  go Stuck e l = absurd cc
  go Deep e l = let s = subst (λ y. TurnBack k n vs (Some c) y) e (turn_back k n vs c) in opened s.0 s.1 s.2 s.3 s.4

pub deepest : (p : List Word) (c : Word) (r : List Word) (k : List Symbol) (vs : Values) → Nests k vs → run most_levels (p ++ c ∷ r) k vs ≡ Err (TooDeep (c ∷ r)) → Deepest p c k vs
deepest p c r k vs nests h =
    let at = passes p (c ∷ r) most_levels k vs (ap left h) in
    let o = opens_there c r at.0 at.1 at.2 (sym (goes_on_from p most_levels k vs at.0 at.1 at.2 at.3 (c ∷ r)) ∙ h) in
    let s = at.3.spells (Opens c ∷ o.1.0) o.1.1 o.1.2 in
    let counts = subst (λ (m : ℕ). Counts most_levels at.3.steps m) o.0 at.3.counts in
    let whole = deep_at at.3.steps o.1.0 c most_levels 0 (omega arith) counts (nests (at.3.steps ++ Opens c ∷ o.1.0) o.1.1 s) in
    record {
      steps = at.3.steps;
      rest = o.1.0;
      made = o.1.1;
      spelled = at.3.spelled;
      spells = s;
      deep = subst (λ (x : List Word). too_deep (at.3.steps ++ Opens c ∷ o.1.0) ≡ Some (length x)) at.3.spelled whole;
    }

-- ---- the end of all that was expected

-- steps with these words are all that is expected
pub record Finished (p : List Word) (k : List Symbol) (vs u : Values) : Type 0 where
  pub steps : List LevelStep
  pub spelled : words steps ≡ p
  pub spells : Spelled k vs steps u

words_with_ends : (g : List LevelStep) (c : ℕ) → words (g ++ ends c []) ≡ words g
words_with_ends g c = words_append g (ends c []) ∙ ap (λ x. words g ++ x) (words_of_ends c) ∙ append-nil (words g)

pub finished : (p r : List Word) (n : ℕ) (k : List Symbol) (vs u : Values) → run n (p ++ r) k vs ≡ Ok (u, r) → Finished p k vs u
finished p r n k vs u h =
    let at = passes p r n k vs (ap left h) in
    let e = ended r at.0 at.1 at.2 u (sym (goes_on_from p n k vs at.0 at.1 at.2 at.3 r) ∙ h) in
    record {
      steps = at.3.steps ++ ends e.0 [];
      spelled = words_with_ends at.3.steps e.0 ∙ at.3.spelled;
      spells = at.3.spells (ends e.0 []) u e.1;
    }

-- and none of the words is nested too deep
pub finished_flat : (p r : List Word) (k : List Symbol) (vs u : Values) → Nests k vs → run most_levels (p ++ r) k vs ≡ Ok (u, r) → (f : Finished p k vs u) × (too_deep f.steps ≡ None)
finished_flat p r k vs u nests h =
    let at = passes p r most_levels k vs (ap left h) in
    let e = ended r at.0 at.1 at.2 u (sym (goes_on_from p most_levels k vs at.0 at.1 at.2 at.3 r) ∙ h) in
    let s = at.3.spells (ends e.0 []) u e.1 in (
      record {
        steps = at.3.steps ++ ends e.0 [];
        spelled = words_with_ends at.3.steps e.0 ∙ at.3.spelled;
        spells = s;
      },
      none_deep at.3.steps e.0 most_levels at.0 0 (omega arith) at.3.counts (nests (at.3.steps ++ ends e.0 []) u s),
    )

-- ---- what cannot continue

-- the machine takes each whole to its end, if it has enough nesting levels
abbrev pub TakesWhole : (List Word → Type 0) → List Symbol → Values → Type 0
TakesWhole whole k vs = (ws : List Word) → whole ws → (d : ℕ) × (u : Values) × (run (most_levels + d) ws k vs ≡ Ok (u, []))

-- no whole continues with the word at which the machine stops
pub none_goes_on : (whole : List Word → Type 0) (k : List Symbol) (vs : Values) → TakesWhole whole k vs → (p : List Word) (c : Word) (r : List Word) → left (run most_levels (p ++ c ∷ r) k vs) ≡ c ∷ r → (run most_levels (p ++ c ∷ r) k vs ≡ Err (TooDeep (c ∷ r)) → ⊥) → (q : List Word) → whole (p ++ c ∷ q) → ⊥
none_goes_on whole k vs takes p c r h not_deep q x =
    let t = takes (p ++ c ∷ q) x in
    let further = goes_no_further t.0 p c r most_levels k vs h not_deep q in
    let none : c ∷ q ≡ [] = sym further ∙ ap left t.2 in
    absurd cc

wrong_at_end : (d n : ℕ) (k : List Symbol) (vs u : Values) → run n [] k vs ≡ Err (Wrong []) → run (n + d) [] k vs ≡ Ok (u, []) → ⊥
unfolding run
wrong_at_end d n k vs u h g = go (turn k n vs None) (turn_more k n d vs None) h g where
  go : (x : Turn) → Further d x (turn k (n + d) vs None) → turned x [] (λ m vs' k'. Err (Wrong [])) ≡ Err (Wrong []) → turned (turn k (n + d) vs None) [] (λ m vs' k'. Err (Wrong [])) ≡ Ok (u, []) → ⊥
  go (Next m a b) y l g = let bad : turned (Next (m + d) a b) [] (λ m vs' k'. Err (Wrong [])) ≡ Ok (u, []) = rw y at g in cc
  go (Ended v) y l g = cc
  go Stuck y l g = let bad : turned Stuck [] (λ m vs' k'. Err (Wrong [])) ≡ Ok (u, []) = rw y at g in cc
  go Deep y l g = cc

-- words at whose end the machine expects more are no whole
pub none_at_end : (whole : List Word → Type 0) (k : List Symbol) (vs : Values) → TakesWhole whole k vs → (p : List Word) → run most_levels p k vs ≡ Err (Wrong []) → whole p → ⊥
none_at_end whole k vs takes p h x =
    let t = takes p x in
    let here : run most_levels (p ++ []) k vs ≡ Err (Wrong []) = ap (λ (y : List Word). run most_levels y k vs) (append-nil p) ∙ h in
    let at = passes p [] most_levels k vs (ap left here) in
    let there : run (at.0 + t.0) [] at.1 at.2 ≡ Ok (t.1, []) = sym (at.3.runs t.0 []) ∙ ap (λ (y : List Word). run (most_levels + t.0) y k vs) (append-nil p) ∙ t.2 in
    wrong_at_end t.0 at.0 at.1 at.2 t.1 (sym (goes_on_from p most_levels k vs at.0 at.1 at.2 at.3 []) ∙ here) there

-- The words between two places, and those after them.
use Rattle.std.proofs.Common.{◌≡◌, ℕ, suc, ◌+◌, ◌-◌, ◌≤◌, ◌<◌, List, ◌∷◌, ◌++◌, length, drop, get_or, sym, ap, ◌∙◌, arith, length-drop}
use Rattle.std.proofs.lemmas.List.{take-append-drop, drop-drop}
use Rattle.std.proofs.Math.Seq.{drop-cons}
use Rattle.basic_tree.specs.SpellingWords.{Word, Number}
use Rattle.basic_tree.specs.GrammarPlaces.{between}
use Rattle.grammar_machine.specs.MachineStack.{Values, Symbol}
use Rattle.grammar_machine.specs.MachineRun.{run}
use Rattle.grammar_machine.proofs.MachinePasses.{left, left_short}

-- places counted from an earlier place
pub drop_between : (ws : List Word) (from k : ℕ) → from ≤ k → drop (k - from) (drop from ws) ≡ drop k ws
drop_between ws from k le =
    let e : from + (k - from) ≡ k = omega arith in
    drop-drop (k - from) from ws ∙ ap (λ n. drop n ws) e

-- the words from a place on, split at a later one
pub cut_between : (ws : List Word) (from k : ℕ) → from ≤ k → between ws from k ++ drop k ws ≡ drop from ws
cut_between ws from k le =
    ap (λ (x : List Word). between ws from k ++ x) (sym (drop_between ws from k le)) ∙ take-append-drop (k - from) (drop from ws)

pub inside_between : (ws : List Word) (from k : ℕ) → k ≤ length ws → k - from ≤ length (drop from ws)
inside_between ws from k inside = omega (arith, inside, length-drop from ws)

pub before_between : (ws : List Word) (from k : ℕ) → from ≤ k → k < length ws → k - from < length (drop from ws)
before_between ws from k le lt = omega (arith, le, lt, length-drop from ws)

-- the words from a place on: the first, and the others
pub behind_place : (ws : List Word) (k : ℕ) → k < length ws → drop k ws ≡ get_or ws k (Number 0) ∷ drop (suc k) ws
behind_place ws k lt = drop-cons ws k (Number 0) lt

-- the machine stops at the place or after it
pub stops_behind : (ws : List Word) (n from k : ℕ) (s : List Symbol) (vs : Values) → from ≤ length ws → k ≤ length ws → left (run n (drop from ws) s vs) ≡ drop k ws → from ≤ k
stops_behind ws n from k s vs begun inside h = omega (arith, left_short (drop from ws) n s vs, ap length h, length-drop from ws, length-drop k ws)

-- The lines of a file, stored one after another.
use Rattle.std.proofs.Common.{◌≡◌, ℕ, inl, inr, List, [], ◌∷◌, refl, sym, subst}
use Rattle.basic_tree.specs.ProgramLines.{Lines}
use Rattle.line_editor.specs.Files.{IsKept, kept, IsBad, AreKept, HasBad}

-- The lines that are left to be stored, after those that led to these: to end with them is to end
-- with all.
pub record KeptSoFar (texts : List (List ℕ)) (old : Lines) (left : List (List ℕ)) (now : Lines) : Type 0 where
  pub ends : (new : Lines) → AreKept left now new → AreKept texts old new
  pub fails : HasBad left now → HasBad texts old

pub kept_first : (texts : List (List ℕ)) (old : Lines) → KeptSoFar texts old texts old
kept_first texts old = record { ends = λ new all. all; fails = λ bad. bad }

pub kept_more : (texts : List (List ℕ)) (old : Lines) (left : List (List ℕ)) (now : Lines) (text : List ℕ) (more : List (List ℕ)) (then : Lines) → left ≡ text ∷ more → IsKept text now → then ≡ kept text now → KeptSoFar texts old left now → KeptSoFar texts old more then
kept_more texts old left now text more then is this made so_far = record {
  ends = λ new all. so_far.ends new (subst (λ (l : List (List ℕ)). AreKept l now new) (sym is) (this, subst (λ (lines : Lines). AreKept more lines new) made all));
  fails = λ bad. so_far.fails (subst (λ (l : List (List ℕ)). HasBad l now) (sym is) (inr (this, subst (λ (lines : Lines). HasBad more lines) made bad)));
}

pub kept_bad : (texts : List (List ℕ)) (old : Lines) (left : List (List ℕ)) (now : Lines) (text : List ℕ) (more : List (List ℕ)) → left ≡ text ∷ more → IsBad text now → KeptSoFar texts old left now → HasBad texts old
kept_bad texts old left now text more is this so_far = so_far.fails (subst (λ (l : List (List ℕ)). HasBad l now) (sym is) (inl this))

pub kept_last : (texts : List (List ℕ)) (old : Lines) (left : List (List ℕ)) (now : Lines) → left ≡ [] → KeptSoFar texts old left now → AreKept texts old now
kept_last texts old left now none so_far = so_far.ends now (subst (λ (l : List (List ℕ)). AreKept l now now) (sym none) refl)

-- The grammar has one answer: which words are a line, where words are rejected and why, and how
-- deep each word is nested.
use Rattle.std.specs.Prelude.{◌≡◌, ℕ, List, ◌++◌, length, take}
use Rattle.basic_tree.specs.declared.kinds.Want.{Want}
use Rattle.basic_tree.specs.declared.tokens.Cause.{Cause}
use Rattle.basic_tree.specs.declared.tokens.Refusal.{Refusal}
use Rattle.basic_tree.specs.SpellingWords.{Word, levels}
use Rattle.basic_tree.specs.Trees.{Tree, LineTree}
use Rattle.basic_tree.specs.SpellingExpressions.{steps_of, IsExpr}
use Rattle.basic_tree.specs.SpellingStatements.{line_steps, IsLine}
use Rattle.basic_tree.specs.GrammarPlaces.{IsRead, RefusesExpr, IsReadLine, RefusesLine}
use Rattle.basic_tree.specs.LineVerdicts.{Spells, Refuses, Verdict, IsJudged}

-- the nesting depths of the first words of a line do not depend on what follows them; the same for
-- an expression
pub record LevelsAreSettled : Type 0 where
  pub lines : (p q r : List Word) (l m : LineTree) → IsLine (p ++ q) l → IsLine (p ++ r) m → take (length p) (levels 0 (line_steps l)) ≡ take (length p) (levels 0 (line_steps m))
  pub expressions : (v w : Want) (p q r : List Word) (t u : Tree) → IsExpr v (p ++ q) t → IsExpr w (p ++ r) u → take (length p) (levels 0 (steps_of t)) ≡ take (length p) (levels 0 (steps_of u))

-- from a place on, one expression is read, or there is one rejection
pub record OneExprAnswer : Type 0 where
  pub read : (w : Want) (ws : List Word) (from j k : ℕ) (t u : Tree) → IsRead w ws from t j → IsRead w ws from u k → (t ≡ u) × (j ≡ k)
  pub refused : (w : Want) (ws : List Word) (from j k : ℕ) (c d : Cause) → RefusesExpr w ws from j c → RefusesExpr w ws from k d → (j ≡ k) × (c ≡ d)
  pub apart : (w : Want) (ws : List Word) (from j k : ℕ) (t : Tree) (c : Cause) → IsRead w ws from t j → RefusesExpr w ws from k c → ⊥

-- words are one line, or have one rejection
pub record OneLineAnswer : Type 0 where
  pub read : (ws : List Word) (l m : LineTree) → IsReadLine ws l → IsReadLine ws m → l ≡ m
  pub refused : (ws : List Word) (j k : ℕ) (c d : Cause) → RefusesLine ws j c → RefusesLine ws k d → (j ≡ k) × (c ≡ d)
  pub apart : (ws : List Word) (k : ℕ) (l : LineTree) (c : Cause) → IsReadLine ws l → RefusesLine ws k c → ⊥

-- bytes spell one line, or have one rejection
pub record OneBytesAnswer : Type 0 where
  pub read : (line : List ℕ) (l m : LineTree) → Spells line l → Spells line m → l ≡ m
  pub refused : (line : List ℕ) (r s : Refusal) → Refuses line r → Refuses line s → r ≡ s
  pub apart : (line : List ℕ) (l : LineTree) (r : Refusal) → Spells line l → Refuses line r → ⊥

-- so every line has one verdict, and all judges agree
abbrev pub OneVerdict : Type 0
OneVerdict = (line : List ℕ) (v w : Verdict) → IsJudged line v → IsJudged line w → v ≡ w

-- The nesting depths of the words that the machine passed: none is too deep.
use Rattle.std.proofs.Common.{subst, ◌≡◌, ℕ, suc, ◌+◌, ◌-◌, ◌≤◌, All, List, [], ◌∷◌, ◌++◌, length, take, refl, sym, append_assoc, arith}
use Rattle.std.proofs.lemmas.List.Elements.{All-nil, All-cons}
use Rattle.basic_tree.specs.SpellingWords.{LevelStep, Plain, Opens, Closes, words, levels, most_levels}
use Rattle.basic_tree.specs.Trees.{Tree, Literal, Quoted, Variable, Element, FunctionOf, Call, Parenthesized, Negative, Positive, Not, Operation, Comparison, Trees, NoTrees, AndTrees}
use Rattle.basic_tree.specs.SpellingExpressions.{steps_of, list_steps, more_steps}
use Rattle.grammar_machine.proofs.MachinePasses.{Counts}

-- no nesting level ends that was not opened, if this many are open before
abbrev pub Above : ℕ → List LevelStep → Type 0
Above depth [] = Unit {0}
Above depth (Plain w ∷ steps) = Above depth steps
Above depth (Opens w ∷ steps) = Above (suc depth) steps
Above depth (Closes ∷ steps) = (e : ℕ) × (depth ≡ suc e) × Above e steps

abbrev moved_right : (a b q : List LevelStep) (depth : ℕ) → Above depth (a ++ (b ++ q)) → Above depth ((a ++ b) ++ q)
moved_right a b q depth h = subst (λ x. Above depth x) (sym (append_assoc a b q)) h

-- each tree ends the nesting levels that it opens
mutual
  pub tree_above : (t : Tree) (depth : ℕ) (q : List LevelStep) → Above depth q → Above depth (steps_of t ++ q)
  tree_above (Literal n) depth q h = h
  tree_above (Quoted text) depth q h = h
  tree_above (Variable name) depth q h = h
  tree_above (Element name ts) depth q h = list_above ts depth q h
  tree_above (FunctionOf f ts) depth q h = list_above ts depth q h
  tree_above (Call name ts) depth q h = list_above ts depth q h
  tree_above (Parenthesized a) depth q h = moved_right (steps_of a) (_ ∷ Closes ∷ []) q (suc depth) (tree_above a (suc depth) (_ ∷ Closes ∷ q) (depth, refl, h))
  tree_above (Negative a) depth q h = moved_right (steps_of a) (Closes ∷ []) q (suc depth) (tree_above a (suc depth) (Closes ∷ q) (depth, refl, h))
  tree_above (Positive a) depth q h = moved_right (steps_of a) (Closes ∷ []) q (suc depth) (tree_above a (suc depth) (Closes ∷ q) (depth, refl, h))
  tree_above (Not a) depth q h = moved_right (steps_of a) (Closes ∷ []) q (suc depth) (tree_above a (suc depth) (Closes ∷ q) (depth, refl, h))
  tree_above (Operation a o b) depth q h = moved_right (steps_of a) (_ ∷ steps_of b) q depth (tree_above a depth (_ ∷ (steps_of b ++ q)) (tree_above b depth q h))
  tree_above (Comparison a r b) depth q h = moved_right (steps_of a) (_ ∷ steps_of b) q depth (tree_above a depth (_ ∷ (steps_of b ++ q)) (tree_above b depth q h))

  pub list_above : (ts : Trees) (depth : ℕ) (q : List LevelStep) → Above depth q → Above depth (list_steps ts ++ q)
  list_above NoTrees depth q h = h
  list_above (AndTrees a more) depth q h = moved_right (steps_of a) (more_steps more) q (suc depth) (tree_above a (suc depth) (more_steps more ++ q) (more_above more depth q h))

  pub more_above : (ts : Trees) (depth : ℕ) (q : List LevelStep) → Above depth q → Above (suc depth) (more_steps ts ++ q)
  more_above NoTrees depth q h = (depth, refl, h)
  more_above (AndTrees a more) depth q h = moved_right (steps_of a) (more_steps more) q (suc depth) (tree_above a (suc depth) (more_steps more ++ q) (more_above more depth q h))

-- if no step opens a nesting level too many, no word is nested too deep
pub flat : (g q : List LevelStep) (n m depth : ℕ) → n + depth ≡ most_levels → Counts n g m → Above depth (g ++ q) → All (λ level. level ≤ most_levels) (take (length (words g)) (levels depth (g ++ q)))
flat [] q n m depth e c a = All-nil (λ level. level ≤ most_levels)
flat (Plain w ∷ g) q n m depth e c a = All-cons (λ level. level ≤ most_levels) depth (take (length (words g)) (levels depth (g ++ q))) (omega (arith, e)) (flat g q n m depth e c a)
flat (Opens w ∷ g) q n m depth e c a =
    let up : depth + 1 ≡ suc depth = omega arith in
    All-cons (λ level. level ≤ most_levels) (depth + 1) (take (length (words g)) (levels (depth + 1) (g ++ q))) (omega (arith, e, c.1)) (subst (λ (d : ℕ). All (λ level. level ≤ most_levels) (take (length (words g)) (levels d (g ++ q)))) (sym up) (flat g q c.0 m (suc depth) (omega (arith, e, c.1)) c.2 a))
flat (Closes ∷ g) q n m depth e c a =
    let down : depth - 1 ≡ a.0 = omega (arith, a.1) in
    subst (λ (d : ℕ). All (λ level. level ≤ most_levels) (take (length (words g)) (levels d (g ++ q)))) (sym down) (flat g q (suc n) m a.0 (omega (arith, e, a.1)) c a.2)

-- A visitor that has seen some parts and then others has seen all of them.
use Rattle.std.proofs.Common.{◌≡◌, ◌<◌, ◌+◌, ℕ, suc, List, [], ◌∷◌, ◌++◌, map, length, get_or, drop, refl, ap, sym, ◌∙◌, add-one, drop-cons}
use Rattle.basic_tree.specs.Trees.{Tree}
use Rattle.statement_walk.specs.Walk.{StatementPart, Expression, visited, visited_trees}

module _ {S : Type 0} (after : S → StatementPart → S) where
  pub expressions_both : (s : S) (xs ys : List Tree) → visited_trees after (visited_trees after s xs) ys ≡ visited_trees after s (xs ++ ys)
  expressions_both s [] ys = refl
  expressions_both s (x ∷ xs) ys = expressions_both (after s (Expression x)) xs ys

  -- and one more
  pub expressions_one : (s : S) (xs : List Tree) (y : Tree) → after (visited_trees after s xs) (Expression y) ≡ visited_trees after s (xs ++ y ∷ [])
  expressions_one s [] y = refl
  expressions_one s (x ∷ xs) y = expressions_one (after s (Expression x)) xs y

  pub visited_both : (s : S) (xs ys : List StatementPart) → visited after (visited after s xs) ys ≡ visited after s (xs ++ ys)
  visited_both s [] ys = refl
  visited_both s (x ∷ xs) ys = visited_both (after s x) xs ys

  pub expressions_visited : (s : S) (es : List Tree) → visited after s (map Expression es) ≡ visited_trees after s es
  expressions_visited s [] = refl
  expressions_visited s (e ∷ es) = expressions_visited (after s (Expression e)) es

-- a loop: an element, and then those after it
module _ {T S : Type 0} (after : S → StatementPart → S) (view : List T → List Tree) (one : T → Tree) (each : (x : T) (xs : List T) → view (x ∷ xs) ≡ one x ∷ view xs) where
  next : (x : T) (xs : List T) (i : ℕ) → i < length xs → x ≡ get_or xs i x → drop i xs ≡ x ∷ drop (i + 1) xs
  next x xs i lt is = rw (add-one, drop-cons xs i x) (ap (λ (y : T). y ∷ drop (suc i) xs) (sym is))

  pub shown_on : (s new whole : S) (x : T) (xs : List T) (i : ℕ) → i < length xs → x ≡ get_or xs i x → new ≡ after s (Expression (one x)) → visited_trees after s (view (drop i xs)) ≡ whole → visited_trees after new (view (drop (i + 1) xs)) ≡ whole
  shown_on s new whole x xs i lt is seen before =
      ap (λ (s : S). visited_trees after s (view (drop (i + 1) xs))) seen
      ∙ sym (ap (λ (es : List Tree). visited_trees after s es) (ap (λ (l : List T). view l) (next x xs i lt is) ∙ each x (drop (i + 1) xs)))
      ∙ before

pub ruleset showing = (expressions_both, expressions_one, visited_both, expressions_visited)

-- What parsing an expression returns.
use Rattle.std.specs.Prelude.{ℕ, List, Result, Ok, Err}
use Rattle.basic_values.specs.declared.failures.Trouble.{Trouble}
use Rattle.basic_values.specs.declared.failures.Trouble.TheVariants.{Refused, NoMemory}
use Rattle.basic_tree.specs.declared.expressions.Expr.{Expr}
use Rattle.basic_tree.specs.declared.kinds.Want.{Want}
use Rattle.basic_tree.specs.declared.tokens.Refusal.{Refusal}
use Rattle.basic_tree.specs.SpellingWords.{Word}
use Rattle.basic_tree.specs.TreeViews.{tree_of}
use Rattle.basic_tree.specs.GrammarPlaces.{IsRead, RefusesExpr}

-- the expression from a place on and the place after it; or the first word that is rejected, and
-- why; or memory ran out
abbrev pub ParsesExpr : Want → List Word → ℕ → Result (Expr × ℕ) (Trouble Refusal) → Type 0
ParsesExpr w ws from (Ok x) = IsRead w ws from (tree_of x.0) x.1
ParsesExpr w ws from (Err (Refused refusal)) = RefusesExpr w ws from refusal.place refusal.cause
ParsesExpr w ws from (Err NoMemory) = Unit {0}

-- Where an expression is read or rejected by the grammar, derived from where the machine stops.
use Rattle.std.proofs.Common.{◌≡◌, ℕ, ◌≤◌, List, [], ◌∷◌, length, drop, Ok, Err, refl, ap, ◌∙◌, arith}
use Rattle.basic_tree.specs.declared.kinds.Want.{Want}
use Rattle.basic_tree.specs.SpellingWords.{Word, most_levels}
use Rattle.basic_tree.specs.Trees.{Tree}
use Rattle.basic_tree.specs.GrammarPlaces.{IsRead}
use Rattle.grammar_machine.specs.MachineStack.{Term, Values, Symbol, Level, loosest}
use Rattle.grammar_machine.specs.MachineRun.{run}
use Rattle.grammar_machine.proofs.MachinePasses.{left}
use Rattle.grammar_machine.proofs.BetweenLemmas.{stops_behind}
use Rattle.grammar_machine.proofs.ExpressionPlaces.{expression_read, expression_wrong, expression_deep}
use Rattle.basic_expr.specs.declared.failures.Failure.{Failure}
use Rattle.basic_expr.specs.declared.failures.Failure.TheVariants as failure
use Rattle.basic_expr.specs.Failures.{IsNear, trouble_of}
use Rattle.basic_expr.specs.Parsing.{ParsesExpr}
use Rattle.basic_expr.specs.ParsedSymbols.{RefusesAt}
use Rattle.basic_expr.specs.Views.{most_words}

-- with nothing expected the machine ends
run_nothing : (n : ℕ) (ws : List Word) (vs : Values) → run n ws [] vs ≡ Ok (vs, ws)
unfolding run
run_nothing n [] vs = refl
run_nothing n (t ∷ ws) vs = refl

pub parsed : (w : Want) (ws : List Word) (from end : ℕ) (t : Tree) → from ≤ end → end ≤ length ws → ((k : List Symbol) (vs : Values) → run most_levels (drop from ws) (Level loosest w ∷ k) vs ≡ run most_levels (drop end ws) k (Term t ∷ vs)) → IsRead w ws from t end
parsed w ws from end t after inside h = expression_read w ws from end t after inside (h [] [] ∙ run_nothing most_levels (drop end ws) (Term t ∷ []))

pub refused : (w : Want) (ws : List Word) (from : ℕ) (e : Failure) → from ≤ length ws → RefusesAt most_levels ws (Level loosest w) from e → ParsesExpr w ws from (Err (trouble_of e))
refused w ws from failure.NoMemory inside h = tt
refused w ws from (failure.Wrong place) inside h = expression_wrong w ws from place (stops_behind ws most_levels from place (Level loosest w ∷ []) [] inside h.0 (ap left (h.1 [] []))) h.0 (h.1 [] [])
refused w ws from (failure.TooDeep place) inside h = expression_deep w ws from place (stops_behind ws most_levels from place (Level loosest w ∷ []) [] inside (omega (arith, h.0)) (ap left (h.1 [] []))) h.0 (h.1 [] [])

pub near : (w : Want) (ws : List Word) (from : ℕ) (e : Failure) → length ws ≤ most_words → RefusesAt most_levels ws (Level loosest w) from e → IsNear e
near w ws from failure.NoMemory few h = tt
near w ws from (failure.Wrong place) few h = omega (arith, h.0)
near w ws from (failure.TooDeep place) few h = omega (arith, h.0)

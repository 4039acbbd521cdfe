-- The nesting depths of the first words are those of the steps that the machine passed, whatever
-- follows them.
use Rattle.std.proofs.Common.{◌≡◌, ℕ, ◌+◌, ◌-◌, List, [], ◌∷◌, ◌++◌, length, take, Ok, refl, sym, ap, ◌∙◌, arith}
use Rattle.std.proofs.lemmas.List.{append-nil}
use Rattle.basic_tree.specs.AnswerLaws.{LevelsAreSettled}
use Rattle.basic_tree.specs.declared.kinds.Want.{Want}
use Rattle.basic_tree.specs.declared.kinds.Want.TheVariants as want
use Rattle.basic_tree.specs.SpellingWords.{Word, LevelStep, Plain, Opens, Closes, words, levels}
use Rattle.basic_tree.specs.Trees.{Tree, LineTree}
use Rattle.basic_tree.specs.SpellingExpressions.{steps_of, IsExpr}
use Rattle.basic_tree.specs.SpellingStatements.{line_steps, IsLine}
use Rattle.grammar_machine.specs.MachineStack.{Term, Values, top, Symbol, Level, loosest}
use Rattle.grammar_machine.specs.MachineRun.{run}
use Rattle.grammar_machine.specs.MachineJudge.{line_symbols, line_values}
use Rattle.grammar_machine.proofs.MachineSpelled.{Spelled}
use Rattle.grammar_machine.proofs.MachineComplete.{depth_of}
use Rattle.grammar_machine.proofs.MachineForms.{taken_whole}
use Rattle.grammar_machine.proofs.MachinePasses.{left, Passes, passes_front}
use Rattle.grammar_machine.proofs.MachineStops.{goes_on_from, finished}
use Rattle.grammar_machine.proofs.ExpressionPlaces.{is_tree}
use Rattle.grammar_machine.proofs.LineReads.{made_line, reads_lines}

-- the words of some steps have the nesting depths of these steps alone
levels_front : (g q : List LevelStep) (depth : ℕ) → take (length (words g)) (levels depth (g ++ q)) ≡ levels depth g
levels_front [] q depth = refl
levels_front (Plain w ∷ g) q depth = ap (λ x. depth ∷ x) (levels_front g q depth)
levels_front (Opens w ∷ g) q depth = ap (λ x. (depth + 1) ∷ x) (levels_front g q (depth + 1))
levels_front (Closes ∷ g) q depth = levels_front g q (depth - 1)

-- what is spelled, if the machine continues to the end from the words that it passed
passed_whole : (p r : List Word) (n : ℕ) (k : List Symbol) (vs : Values) (n' : ℕ) (k' : List Symbol) (vs' u : Values) (h : Passes p n k vs n' k' vs') → run n (p ++ r) k vs ≡ Ok (u, []) → (g : List LevelStep) × Spelled k vs g u × (take (length p) (levels 0 g) ≡ levels 0 h.steps)
passed_whole p r n k vs n' k' vs' u h e =
    let on : run n' r k' vs' ≡ Ok (u, []) = sym (goes_on_from p n k vs n' k' vs' h r) ∙ e in
    let f = finished r [] n' k' vs' u (ap (λ (x : List Word). run n' x k' vs') (append-nil r) ∙ on) in (
      h.steps ++ f.steps,
      h.spells f.steps u f.spells,
      ap (λ (x : List Word). take (length x) (levels 0 (h.steps ++ f.steps))) (sym h.spelled) ∙ levels_front h.steps f.steps 0,
    )

-- two wholes that the machine takes and that begin with the same words
two_wholes : (p q r : List Word) (n : ℕ) (k : List Symbol) (vs u v : Values) → run n (p ++ q) k vs ≡ Ok (u, []) → run n (p ++ r) k vs ≡ Ok (v, []) → (g : List LevelStep) × (h : List LevelStep) × Spelled k vs g u × Spelled k vs h v × (take (length p) (levels 0 g) ≡ take (length p) (levels 0 h))
two_wholes p q r n k vs u v a b =
    let at = passes_front p q n k vs (omega (arith, ap (λ o. length (left o)) a)) in
    let x = passed_whole p q n k vs at.0 at.1 at.2 u at.3 a in
    let y = passed_whole p r n k vs at.0 at.1 at.2 v at.3 b in
    (x.0, y.0, x.1, y.1, x.2 ∙ sym y.2)

pub line_levels : (p q r : List Word) (l m : LineTree) → IsLine (p ++ q) l → IsLine (p ++ r) m → take (length p) (levels 0 (line_steps l)) ≡ take (length p) (levels 0 (line_steps m))
line_levels p q r l m a b =
    let x = reads_lines.takes (p ++ q) l a in
    let y = reads_lines.takes (p ++ r) m b in
    let n = x.0 + y.0 in
    let s = two_wholes p q r n line_symbols line_values (made_line l) (made_line m) (x.1 n (omega arith)) (y.1 n (omega arith)) in
    ap (λ (z : List LevelStep). take (length p) (levels 0 z)) (sym (steps_are s.0 l s.2)) ∙ s.4 ∙ ap (λ (z : List LevelStep). take (length p) (levels 0 z)) (steps_are s.1 m s.3) where
      steps_are : (g : List LevelStep) (l : LineTree) → Spelled line_symbols line_values g (made_line l) → g ≡ line_steps l
      steps_are g l h = let i = reads_lines.spells g (made_line l) h in i.1 ∙ ap line_steps (reads_lines.apart i.0 l i.3)

either : (w : Want) (ws : List Word) (t : Tree) → IsExpr w ws t → IsExpr want.Either ws t
either w ws t h = record { tree = h.tree; kind = tt; spelling = h.spelling }

pub expression_levels : (v w : Want) (p q r : List Word) (t u : Tree) → IsExpr v (p ++ q) t → IsExpr w (p ++ r) u → take (length p) (levels 0 (steps_of t)) ≡ take (length p) (levels 0 (steps_of u))
expression_levels v w p q r t u a b =
    let n = depth_of t + depth_of u in
    let x = taken_whole n want.Either (p ++ q) t (either v (p ++ q) t a) (omega arith) in
    let y = taken_whole n want.Either (p ++ r) u (either w (p ++ r) u b) (omega arith) in
    let s = two_wholes p q r n (Level loosest want.Either ∷ []) [] (Term t ∷ []) (Term u ∷ []) x y in
    ap (λ (z : List LevelStep). take (length p) (levels 0 z)) (sym (steps_are s.0 t s.2)) ∙ s.4 ∙ ap (λ (z : List LevelStep). take (length p) (levels 0 z)) (steps_are s.1 u s.3) where
      steps_are : (g : List LevelStep) (t : Tree) → Spelled (Level loosest want.Either ∷ []) [] g (Term t ∷ []) → g ≡ steps_of t
      steps_are g t h = let i = is_tree want.Either g (Term t ∷ []) h in i.1 ∙ ap steps_of (ap top i.3)

pub levels_settled : LevelsAreSettled
levels_settled = record { lines = line_levels; expressions = expression_levels }

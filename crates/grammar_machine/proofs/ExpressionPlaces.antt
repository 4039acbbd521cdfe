-- If the machine stops after a place, the words from that place on are an expression, begin one, or
-- are rejected.
use Rattle.std.proofs.Common.{subst, ◌≡◌, ℕ, ◌+◌, ◌-◌, ◌<◌, ◌≤◌, List, [], ◌∷◌, ◌++◌, length, drop, None, Ok, Err, refl, sym, ap, ◌∙◌, arith}
use Rattle.std.proofs.lemmas.List.{append-nil}
use Rattle.basic_tree.specs.declared.kinds.Want.{Want}
use Rattle.basic_tree.specs.declared.tokens.Cause.TheVariants as cause
use Rattle.basic_tree.specs.SpellingWords.{Word, LevelStep, words, most_levels, too_deep}
use Rattle.basic_tree.specs.Trees.{Tree}
use Rattle.basic_tree.specs.SpellingExpressions.{steps_of, IsExpr}
use Rattle.basic_tree.specs.GrammarPlaces.{ExprWhole, between, IsLimit, IsRead, RefusesExpr}
use Rattle.grammar_machine.specs.MachineStack.{Term, Values, top, Symbol, Level, loosest}
use Rattle.grammar_machine.specs.MachineRun.{Wrong, TooDeep, MachineOutcome, run}
use Rattle.grammar_machine.proofs.MachineSpelled.{Spelled}
use Rattle.grammar_machine.proofs.MachineComplete.{depth_of}
use Rattle.grammar_machine.proofs.MachineForms.{taken_whole}
use Rattle.grammar_machine.proofs.MachinePasses.{left}
use Rattle.grammar_machine.proofs.MachineLevels.{Above, tree_above}
use Rattle.grammar_machine.proofs.MachineStops.{Nests, finished, finished_flat, TakesWhole}
use Rattle.grammar_machine.proofs.MachineRefusals.{none_there}
use Rattle.grammar_machine.proofs.ExpressionSymbols.{ALevel}
use Rattle.grammar_machine.proofs.BetweenLemmas.{cut_between, drop_between, inside_between, before_between}
use Rattle.grammar_machine.proofs.WholePlaces.{AnyWhole, ReadsWhole, flat_there, limit_there, deep_there}

abbrev wanted : Want → List Symbol
wanted w = Level loosest w ∷ []

-- ---- one expression is expected

-- it is a tree's steps
pub is_tree : (w : Want) (x : List LevelStep) (u : Values) → Spelled (wanted w) [] x u → (t : Tree) × (x ≡ steps_of t) × IsExpr w (words x) t × (Term t ∷ [] ≡ u)
is_tree w x u s =
    let e = s.2 ∙ ap (λ y. steps_of s.0 ++ y) s.4.0 ∙ append-nil (steps_of s.0) in
    (s.0, e, record { tree = s.3.tree; kind = s.3.kind; spelling = ap (λ y. words y) e }, s.4.1)

-- it ends the nesting levels that it opens
pub expression_nests : (w : Want) → Nests (wanted w) []
expression_nests w x u s =
    let i = is_tree w x u s in
    subst (λ y. Above 0 y) (sym (i.1 ∙ sym (append-nil (steps_of i.0)))) (tree_above i.0 0 [] tt)

expression_taken : (w : Want) → TakesWhole (AnyWhole (ExprWhole w)) (wanted w) []
expression_taken w ws x =
    let t = x.1.0 in
    (depth_of t, Term t ∷ [], taken_whole (most_levels + depth_of t) w ws t x.1.1 (omega arith))

reads_expression : (w : Want) → ReadsWhole (ExprWhole w) (wanted w) []
reads_expression w = record {
  spells = λ x u s. let i = is_tree w x u s in (i.0, i.2, i.1);
  takes = expression_taken w;
  nests = expression_nests w;
}

-- ---- the words from a place on

at_cut : (w : Want) (ws : List Word) (from k : ℕ) (o : MachineOutcome) (n : ℕ) → from ≤ k → run n (drop from ws) (wanted w) [] ≡ o → run n (between ws from k ++ drop k ws) (wanted w) [] ≡ o
at_cut w ws from k o n le h = ap (λ (x : List Word). run n x (wanted w) []) (cut_between ws from k le) ∙ h

limit_behind : (w : Want) (ws : List Word) (from k : ℕ) (o : MachineOutcome) → from ≤ k → k ≤ length ws → run most_levels (drop from ws) (wanted w) [] ≡ o → left o ≡ drop k ws → (o ≡ Err (TooDeep (drop k ws)) → ⊥) → IsLimit (ExprWhole w) (drop from ws) (k - from)
limit_behind w ws from k o le inside h l not_deep =
    let e : drop (k - from) (drop from ws) ≡ drop k ws = drop_between ws from k le in
    limit_there (ExprWhole w) (wanted w) [] (reads_expression w) (drop from ws) (k - from) o (inside_between ws from k inside) h (l ∙ sym e) (λ d. not_deep (d ∙ ap (λ (x : List Word). Err (TooDeep x)) e))

-- the words that were passed are those of the tree, however many nesting levels are left
pub last_taken : (w : Want) (ws : List Word) (n from k : ℕ) (t : Tree) → from ≤ k → k ≤ length ws → run n (drop from ws) (wanted w) [] ≡ Ok (Term t ∷ [], drop k ws) → between ws from k ≡ words (steps_of t)
last_taken w ws n from k t le inside h =
    let f = finished (between ws from k) (drop k ws) n (wanted w) [] (Term t ∷ []) (at_cut w ws from k (Ok (Term t ∷ [], drop k ws)) n le h) in
    let i = is_tree w f.steps (Term t ∷ []) f.spells in
    let same : i.0 ≡ t = ap top i.3 in
    sym f.spelled ∙ ap (λ x. words x) i.1 ∙ ap (λ x. words (steps_of x)) same

pub expression_read : (w : Want) (ws : List Word) (from k : ℕ) (t : Tree) → from ≤ k → k ≤ length ws → run most_levels (drop from ws) (Level loosest w ∷ []) [] ≡ Ok (Term t ∷ [], drop k ws) → IsRead w ws from t k
expression_read w ws from k t le inside h =
    let f = finished_flat (between ws from k) (drop k ws) (wanted w) [] (Term t ∷ []) (expression_nests w) (at_cut w ws from k (Ok (Term t ∷ [], drop k ws)) most_levels le h) in
    let i = is_tree w f.0.steps (Term t ∷ []) f.0.spells in
    let same : i.0 ≡ t = ap top i.3 in
    record {
      after = le;
      limit = limit_behind w ws from k (Ok (Term t ∷ [], drop k ws)) le inside h refl (λ e. cc);
      expression = subst (λ (x : Tree). IsExpr w (between ws from k) x) same (subst (λ (x : List Word). IsExpr w x i.0) f.0.spelled i.2);
      flat = subst (λ (x : Tree). too_deep (steps_of x) ≡ None) same (subst (λ (x : List LevelStep). too_deep x ≡ None) i.1 f.1);
    }

-- ---- a word that is rejected

pub expression_wrong : (w : Want) (ws : List Word) (from k : ℕ) → from ≤ k → k ≤ length ws → run most_levels (drop from ws) (Level loosest w ∷ []) [] ≡ Err (Wrong (drop k ws)) → RefusesExpr w ws from k cause.Syntax
expression_wrong w ws from k le inside h =
    let here = at_cut w ws from k (Err (Wrong (drop k ws))) most_levels le h in (
      le,
      record {
        limit = limit_behind w ws from k (Err (Wrong (drop k ws))) le inside h refl (λ e. cc);
        flat = flat_there (ExprWhole w) (wanted w) [] (reads_expression w) (drop from ws) (k - from) (Err (Wrong (drop k ws))) (inside_between ws from k inside) h (sym (drop_between ws from k le));
        none = λ g x. none_there (AnyWhole (ExprWhole w)) (wanted w) [] (ALevel loosest w, tt) (expression_taken w) (between ws from k) (drop k ws) here (g, x);
      },
    )

-- ---- a word that is nested too deep

pub expression_deep : (w : Want) (ws : List Word) (from k : ℕ) → from ≤ k → k < length ws → run most_levels (drop from ws) (Level loosest w ∷ []) [] ≡ Err (TooDeep (drop k ws)) → RefusesExpr w ws from k cause.TooDeep
expression_deep w ws from k le lt h =
    let there = h ∙ ap (λ (x : List Word). Err (TooDeep x)) (sym (drop_between ws from k le)) in
    (le, deep_there (ExprWhole w) (wanted w) [] (reads_expression w) (drop from ws) (k - from) (before_between ws from k le lt) there)

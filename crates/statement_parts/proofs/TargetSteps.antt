-- What follows a name is read as a target.
use Rattle.std.proofs.Common.{◌≡◌, ℕ, true, false, ◌+◌, ◌≤◌, List, [], ◌∷◌, ◌++◌, drop, None, Ok, Err, refl, ap, sym, ◌∙◌, subst}
use Rattle.basic_expr.specs.declared.failures.Failure.{Failure}
use Rattle.basic_expr.specs.declared.failures.Failure.TheVariants as failure
use Rattle.basic_expr.specs.ParsedSymbols.{First, RefusesAt, WordStands}
use Rattle.basic_tree.specs.declared.kinds.Want.{Want}
use Rattle.basic_tree.specs.declared.names.Name.{Name}
use Rattle.basic_tree.specs.SpellingWords.{Word, Named}
use Rattle.basic_tree.specs.SpellingPieces.{is_target}
use Rattle.basic_tree.specs.Trees.{Tree}
use Rattle.basic_tree.specs.GrammarPlaces.{between}
use Rattle.grammar_machine.specs.MachineStarts.{takes}
use Rattle.grammar_machine.specs.MachineStack.{Values, Term, top, Symbol, Subscripts, Go, Await, Form, TargetOf}
use Rattle.grammar_machine.specs.MachineRun.{Halt, Wrong, run}
use Rattle.grammar_machine.proofs.BetweenLemmas.{cut_between}
use Rattle.grammar_machine.proofs.FormBack.{led_target}
use Rattle.grammar_machine.proofs.FormSteps.{run_await, target_taken}
use Rattle.grammar_machine.proofs.MachineStops.{finished}
use Rattle.statement_parts.specs.ParsedForms.{IsPlaced, Leads, Halts, is_variable_name, NameAt}
use Rattle.statement_parts.proofs.Parts.{some_halt}

-- at the end of what is expected the machine stops
at_end : (n : ℕ) (ws : List Word) (vs : Values) → run n ws [] vs ≡ Ok (vs, ws)
unfolding run
at_end n [] vs = refl
at_end n (t ∷ ws) vs = refl

-- what was read after a name is a variable or an array element
pub subscripts_target : (n : ℕ) (ws : List Word) (name : Name) (from end : ℕ) (t : Tree) → from ≤ end → ((k : List Symbol) (vs : Values) → run n (drop from ws) (Subscripts name ∷ k) vs ≡ run n (drop end ws) k (Term t ∷ vs)) → is_target t ≡ true
subscripts_target n ws name from end t le h =
    let whole : run n (between ws from end ++ drop end ws) (Subscripts name ∷ []) [] ≡ Ok (Term t ∷ [], drop end ws) =
    ap (λ (x : List Word). run n x (Subscripts name ∷ []) []) (cut_between ws from end le) ∙ h [] [] ∙ at_end n (drop end ws) (Term t ∷ []) in
    let f = finished (between ws from end) (drop end ws) n (Subscripts name ∷ []) [] (Term t ∷ []) whole in
    let s = f.spells in
    let same : s.0 ≡ t = ap top s.5.1 in
    subst (λ (x : Tree). is_target x ≡ true) same (led_target name s.1 s.0 s.4.spelled s.4.level)

pub target_leads : (n : ℕ) (ws : List Word) (name : Name) (w : Want) (from end : ℕ) (t : Tree)
    → WordStands ws (Named name) from
    → takes w name.text ≡ true
    → ((k : List Symbol) (vs : Values) → run n (drop (from + 1) ws) (Subscripts name ∷ k) vs ≡ run n (drop end ws) k (Term t ∷ vs))
    → (g : Tree → Form)
    → Leads n n ws from end (TargetOf w g) (g t)
target_leads n ws name w from end t h fits reads g = λ k vs. rw h.1 (target_taken n w g name (drop (from + 1) ws) k vs fits) ∙ reads (Await g ∷ k) vs ∙ run_await n g (drop end ws) k t vs

pub target_halts : (n : ℕ) (ws : List Word) (name : Name) (w : Want) (from : ℕ) (e : Failure)
    → WordStands ws (Named name) from
    → takes w name.text ≡ true
    → RefusesAt n ws (Subscripts name) (from + 1) e
    → IsPlaced ws e × ((g : Tree → Form) → Halts n ws from (TargetOf w g) e)
target_halts n ws name w from failure.NoMemory h fits stops = (tt, λ g halt e. absurd cc)
target_halts n ws name w from (failure.Wrong place) h fits stops = (stops.0, λ g halt e k vs. rw h.1 (target_taken n w g name (drop (from + 1) ws) k vs fits) ∙ stops.1 (Await g ∷ k) vs ∙ ap (λ (x : Halt). Err x) (some_halt e))
target_halts n ws name w from (failure.TooDeep place) h fits stops = (stops.0, λ g halt e k vs. rw h.1 (target_taken n w g name (drop (from + 1) ws) k vs fits) ∙ stops.1 (Await g ∷ k) vs ∙ ap (λ (x : Halt). Err x) (some_halt e))

pub target_unfit : (n : ℕ) (ws : List Word) (name : Name) (w : Want) (from : ℕ) → WordStands ws (Named name) from → takes w name.text ≡ false → (g : Tree → Form) → Halts n ws from (TargetOf w g) (failure.Wrong from)
unfolding run
target_unfit n ws name w from h unfit g = λ halt e k vs. rw h.1 (rw unfit (ap (λ (x : Halt). Err x) (ap (λ (x : List Word). Wrong x) (sym h.1) ∙ some_halt e)))

pub target_missing : (n : ℕ) (ws : List Word) (w : Want) (from : ℕ) → NameAt ws from None → (g : Tree → Form) → Halts n ws from (TargetOf w g) (failure.Wrong from)
unfolding run
target_missing n ws w from h g = λ halt e k vs. go (drop from ws) k vs h ∙ ap (λ (x : Halt). Err x) (some_halt e) where
  go : (ws : List Word) (k : List Symbol) (vs : Values) → First is_variable_name ws → run n ws (Go (TargetOf w g) ∷ k) vs ≡ Err (Wrong ws)
  go [] k vs h = refl
  go (Named name ∷ ws) k vs h = absurd cc
  go (t ∷ ws) k vs h = refl

pub no_other_target : (n : ℕ) (ws : List Word) (name : Name) (from end : ℕ) (t : Tree) → from ≤ end → ((k : List Symbol) (vs : Values) → run n (drop from ws) (Subscripts name ∷ k) vs ≡ run n (drop end ws) k (Term t ∷ vs)) → is_target t ≡ false → ⊥
no_other_target n ws name from end t le h not_one = let is : is_target t ≡ true = subscripts_target n ws name from end t le h in cc

pub same_target : (n : ℕ) (ws : List Word) (name : Name) (w : Want) (from end : ℕ) (t u : Tree)
    → WordStands ws (Named name) from
    → takes w name.text ≡ true
    → ((k : List Symbol) (vs : Values) → run n (drop (from + 1) ws) (Subscripts name ∷ k) vs ≡ run n (drop end ws) k (Term t ∷ vs))
    → u ≡ t
    → (g : Tree → Form)
    → Leads n n ws from end (TargetOf w g) (g u)
same_target n ws name w from end t u h fits reads same g = rw same (target_leads n ws name w from end t h fits reads g)

pub ruleset targets = (same_target, target_halts, target_unfit, target_missing)

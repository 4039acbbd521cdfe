-- Modifiers at a place, and a statement with the modifiers after it.
use Rattle.std.proofs.Common.{◌≡◌, ℕ, suc, true, ◌+◌, ◌-◌, ◌<◌, ◌≤◌, List, [], ◌∷◌, length, drop, Option, Some, None, Result, Ok, Err, MatchOption, refl, ap, sym, ◌∙◌, subst, arith}
use Rattle.basic_expr.specs.declared.failures.Failure.{Failure}
use Rattle.basic_expr.specs.declared.failures.Failure.TheVariants as failure
use Rattle.basic_expr.specs.ParsedSymbols.{WordStands}
use Rattle.basic_tree.specs.declared.tokens.Keyword.{Keyword}
use Rattle.basic_tree.specs.declared.tokens.Keyword.TheVariants as keyword
use Rattle.basic_tree.specs.SpellingWords.{Word, Key}
use Rattle.basic_tree.specs.declared.statements.Statement.{Statement}
use Rattle.basic_tree.specs.StatementViews.{statement_of}
use Rattle.basic_tree.specs.Trees.{StatementTree, Modified, ModifierTree}
use Rattle.grammar_machine.specs.MachineStack.{Values, Stated, Modifying, Modify, Symbol, Go, Form, TakeKey, Modifiers, Close, Do}
use Rattle.grammar_machine.specs.MachineSentences.{key_modifier, modifier_of}
use Rattle.grammar_machine.specs.MachineRun.{Halt, TooDeep, run}
use Rattle.grammar_machine.proofs.MachineSteps.{run_do, run_close}
use Rattle.grammar_machine.proofs.FormSteps.{key_opened, run_made}
use Rattle.grammar_machine.proofs.FormWords.{key_is_same}
use Rattle.grammar_machine.proofs.LineSteps as steps
use Rattle.basic_tree.specs.SpellingStatements.{wants_else}
use Rattle.statement_parts.specs.declared.read.Read.{Read}
use Rattle.statement_parts.specs.ParsedForms.{Makes, Halts}
use Rattle.statement_modifiers.specs.ModifierForms.{Modifies, ModifiesAll, NoModifier, StopsModifying, key_as, kind_in, kind_of, modifier_form}
use Rattle.statement_modifiers.specs.declared.modifier_list.Modifying.{Modifying as Kind}
use Rattle.statement_modifiers.specs.declared.modifier_list.Modifying.TheVariants as kind

same_halt : {x y : Halt} → Some x ≡ Some y → x ≡ y
same_halt e = cc

-- ---- which modifier begins at a place

same_none : (ws : List Word) → NoModifier ws → steps.NoModifier ws
same_none [] h = h
same_none (t ∷ ts) h = h

-- no modifier begins
pub unmodified : (n : ℕ) (ws : List Word) (from : ℕ) (s : StatementTree) → NoModifier (drop from ws) → Modifies n ws from from s s
unmodified n ws from s h = λ k vs. steps.run_no_modifier n (drop from ws) k s vs (same_none (drop from ws) h)

pub none_at_end : (ws : List Word) (from : ℕ) → drop from ws ≡ [] → NoModifier (drop from ws)
none_at_end ws from e = rw e tt

key_kind : (k : Keyword) (o : Option Kind) → o ≡ kind_of k → MatchOption o (key_modifier k ≡ None) (λ m. k ≡ key_as m)
key_kind keyword.If o e = rw e refl
key_kind k o e = rw e refl

pub modifier_there : (ws : List Word) (from : ℕ) (t : Word) (o : Option Kind) → from < length ws → drop from ws ≡ t ∷ drop (from + 1) ws → o ≡ kind_in t → MatchOption o (NoModifier (drop from ws)) (λ m. WordStands ws (Key (key_as m)) from)
modifier_there ws from (Key k) None inside e h = rw e (key_kind k None h)
modifier_there ws from (Key k) (Some m) inside e h = (inside, e ∙ ap (λ x. Key x ∷ drop (from + 1) ws) (key_kind k (Some m) h))
modifier_there ws from t None inside e h = rw e refl
modifier_there ws from t (Some m) inside e h = absurd cc

pub ruleset modifier_places = (none_at_end, modifier_there)

-- ---- one modifier

known : (m : Kind) → modifier_of (Key (key_as m)) ≡ Some (TakeKey true (key_as m) (modifier_form m))
known kind.If = refl
known m = refl

-- the word of a modifier opens a nesting level that ends with the statement
opened : (n : ℕ) (ws : List Word) (m : Kind) (k : List Symbol) (vs : Values) → run (suc n) (Key (key_as m) ∷ ws) (Modifiers ∷ k) vs ≡ run n ws (Go (modifier_form m) ∷ Do Modify ∷ Modifiers ∷ Close ∷ k) vs
opened n ws m k vs = steps.run_modifier (suc n) (Key (key_as m)) ws (TakeKey true (key_as m) (modifier_form m)) k vs (known m) ∙ key_opened n (key_as m) (modifier_form m) ws (Do Modify ∷ Modifiers ∷ Close ∷ k) vs

too_deep : (key : _) (f : Form) (ws : List Word) (k : List Symbol) (vs : Values) → run 0 (Key key ∷ ws) (Go (TakeKey true key f) ∷ k) vs ≡ Err (TooDeep (Key key ∷ ws))
unfolding run
too_deep key f ws k vs = rw (key_is_same key) refl

-- no nesting level is left for a modifier
pub modifier_too_deep : (ws : List Word) (from : ℕ) (m : Kind) (s : StatementTree) → WordStands ws (Key (key_as m)) from → StopsModifying 0 ws from s (failure.TooDeep from)
modifier_too_deep ws from m s h =
    λ halt e k vs.
    rw h.1
    (steps.run_modifier 0 (Key (key_as m)) (drop (from + 1) ws) (TakeKey true (key_as m) (modifier_form m)) k (Stated s ∷ vs) (known m)
    ∙ too_deep (key_as m) (modifier_form m) (drop (from + 1) ws) (Do Modify ∷ Modifiers ∷ Close ∷ k) (Stated s ∷ vs))
    ∙ ap (λ (x : List Word). Err (TooDeep x)) (sym h.1) ∙ ap (λ (x : Halt). Err x) (same_halt e)

at_level : (n : ℕ) (ws : List Word) (from : ℕ) (m : Kind) → 0 < n → WordStands ws (Key (key_as m)) from → (k : List Symbol) (vs : Values) → run n (drop from ws) (Modifiers ∷ k) vs ≡ run (n - 1) (drop (from + 1) ws) (Go (modifier_form m) ∷ Do Modify ∷ Modifiers ∷ Close ∷ k) vs
at_level n ws from m h at k vs =
    let e : n ≡ suc (n - 1) = omega arith in
    ap (λ (x : ℕ). run x (drop from ws) (Modifiers ∷ k) vs) e ∙ rw at.1 (opened (n - 1) (drop (from + 1) ws) m k vs)

-- one modifier is there, and others after it
pub modified_on : (n : ℕ) (ws : List Word) (from behind end : ℕ) (m : Kind) (s t : StatementTree) (x : ModifierTree) → 0 < n → WordStands ws (Key (key_as m)) from → Makes (n - 1) ws (from + 1) behind (modifier_form m) (Modifying x) → Modifies (n - 1) ws behind end (Modified s x) t → Modifies n ws from end s t
modified_on n ws from behind end m s t x h at body more =
    let e : suc (n - 1) ≡ n = omega arith in
    λ k vs.
    at_level n ws from m h at k (Stated s ∷ vs)
    ∙ body (Do Modify ∷ Modifiers ∷ Close ∷ k) (Stated s ∷ vs)
    ∙ run_do (n - 1) Modify (drop behind ws) (Modifiers ∷ Close ∷ k) (Modifying x ∷ Stated s ∷ vs)
    ∙ more (Close ∷ k) vs
    ∙ run_close (n - 1) (drop end ws) k (Stated t ∷ vs)
    ∙ ap (λ (y : ℕ). run y (drop end ws) k (Stated t ∷ vs)) e

-- it stops in the modifier, or after it
pub modifier_stops : (n : ℕ) (ws : List Word) (from : ℕ) (m : Kind) (s : StatementTree) (e : Failure) → 0 < n → WordStands ws (Key (key_as m)) from → Halts (n - 1) ws (from + 1) (modifier_form m) e → StopsModifying n ws from s e
modifier_stops n ws from m s e h at body = λ halt same k vs. at_level n ws from m h at k (Stated s ∷ vs) ∙ body halt same (Do Modify ∷ Modifiers ∷ Close ∷ k) (Stated s ∷ vs)

pub modifiers_stop : (n : ℕ) (ws : List Word) (from behind : ℕ) (m : Kind) (s : StatementTree) (x : ModifierTree) (e : Failure) → 0 < n → WordStands ws (Key (key_as m)) from → Makes (n - 1) ws (from + 1) behind (modifier_form m) (Modifying x) → StopsModifying (n - 1) ws behind (Modified s x) e → StopsModifying n ws from s e
modifiers_stop n ws from behind m s x e h at body more =
    λ halt same k vs.
    at_level n ws from m h at k (Stated s ∷ vs)
    ∙ body (Do Modify ∷ Modifiers ∷ Close ∷ k) (Stated s ∷ vs)
    ∙ run_do (n - 1) Modify (drop behind ws) (Modifiers ∷ Close ∷ k) (Modifying x ∷ Stated s ∷ vs)
    ∙ more halt same (Close ∷ k) vs

-- the statement with the modifiers after this one
pub all_modified : (n : ℕ) (ws : List Word) (from behind : ℕ) (m : Kind) (s u : StatementTree) (x : ModifierTree) (r : Result (Read Statement) Failure) → 0 < n → from ≤ behind → WordStands ws (Key (key_as m)) from → Makes (n - 1) ws (from + 1) behind (modifier_form m) (Modifying x) → u ≡ Modified s x → ModifiesAll (n - 1) ws behind u r → ModifiesAll n ws from s r
all_modified n ws from behind m s u x (Ok y) h le at body e more = (
  (omega (arith, more.0.0), more.0.1),
  modified_on n ws from behind y.end m s (statement_of y.value) x h at body (subst (λ z. Modifies (n - 1) ws behind y.end z (statement_of y.value)) e more.1),
  λ closed. more.2 (ap wants_else e),
)
all_modified n ws from behind m s u x (Err f) h le at body e more = (more.0, modifiers_stop n ws from behind m s x f h at body (subst (λ z. StopsModifying (n - 1) ws behind z f) e more.1))

pub ruleset bodies = (run_made)

pub ruleset modifying = (unmodified, modifier_too_deep, modified_on, modifier_stops, modifiers_stop)

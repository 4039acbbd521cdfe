-- How the contracts of the parser's functions compose.
use Rattle.std.proofs.Common.{◌==◌, ◌≡◌, ◌≤◌, ◌<◌, ◌+◌, ◌-◌, ℕ, zero, suc, Bool, true, false, nat_lt, cond, ◌&&◌, List, [], ◌∷◌, ◌++◌, drop, length, Option, Some, None, Result, Ok, Err, refl, sym, ap, ◌∙◌, subst, arith, get_or, length-append}
use Rattle.std.proofs.lemmas.Bool.{eqb-true}
use Rattle.basic_tree.specs.declared.names.Name.{Name}
use Rattle.basic_tree.specs.declared.tokens.Keyword.{Keyword}
use Rattle.basic_tree.specs.declared.tokens.Sign.{Sign}
use Rattle.basic_tree.specs.declared.tokens.Sign.TheVariants as sign
use Rattle.basic_tree.specs.declared.expressions.Expr.{Expr}
use Rattle.basic_tree.specs.declared.expressions.Function.{Function}
use Rattle.basic_tree.specs.declared.expressions.Relation.{Relation}
use Rattle.basic_tree.specs.declared.kinds.Want.{Want}
use Rattle.basic_tree.specs.declared.kinds.Want.TheVariants as want
use Rattle.basic_tree.specs.SpellingWords.{Word, Key, Punctuation, Named, FnNamed, Number, Quotation, Item}
use Rattle.basic_tree.specs.SpellingExpressions.{is_text, want_of}
use Rattle.basic_tree.specs.Trees.{Tree, Trees, FunctionOf, Literal, Quoted, Variable, Call, NoTrees, AndTrees}
use Rattle.basic_tree.specs.TreeViews.{tree_of}
use Rattle.basic_tree.specs.GrammarTables.{arguments_of, gives_text}
use Rattle.grammar_machine.specs.GrammarWords.{function_of}
use Rattle.grammar_machine.specs.MachineStack.{Action, Arguments, Close, Collect, Do, Expect, Level, MakeCall, MakeComparison, MakeElement, MakeFunction, MakeParenthesized, More, MoreArguments, Opening, SecondSubscript, Several, Subscripts, Symbol, Term, Values, loosest, made, others, with_last}
use Rattle.grammar_machine.specs.MachineStarts.{Start, arguments_expected, function_start, more_expected, relations, side, takes}
use Rattle.grammar_machine.specs.MachineMoves.{begun}
use Rattle.grammar_machine.specs.MachineRun.{TooDeep, Wrong, moved, run, turn, turned}
use Rattle.grammar_machine.proofs.MachineSteps.{run_chain, run_relations, run_do, run_close}
use Rattle.basic_expr.specs.declared.failures.Failure.{Failure}
use Rattle.basic_expr.specs.declared.failures.Failure.TheVariants as failure
use Rattle.basic_expr.specs.declared.failures.Found.{Found}
use Rattle.basic_expr.specs.declared.signs.Prefix.{Prefix}
use Rattle.basic_expr.specs.declared.signs.Prefix.TheVariants as prefix
use Rattle.basic_expr.specs.declared.words.Word.{Word as CodeWord}
use Rattle.basic_expr.specs.Views.{as_word}
use Rattle.basic_expr.specs.declared.precedence.Precedence.{Precedence}
use Rattle.basic_expr.specs.declared.precedence.Precedence.TheVariants as precedence
use Rattle.basic_expr.specs.Precedences.{is_chain, level_number}
use Rattle.grammar_machine.proofs.FormWords.{sign_is_same}
use Rattle.basic_expr.specs.ParsedSymbols.{First, PrefixAt, ReadsAll, RefusesAll, RefusesSign, RelationAt, action_of, begins_atom, fits_function, function_expected, is_sign, prefixed, takes_relations, trees_in}

-- ---- contracts

-- the machine goes from these symbols to those, whatever is below both
abbrev pub Becomes : ℕ → List Word → List Symbol → Values → ℕ → ℕ → List Symbol → Values → ℕ → Type 0
Becomes n ws ss v from m ss' v' from' = (k : List Symbol) (vs : Values) → run n (drop from ws) (ss ++ k) (v ++ vs) ≡ run m (drop from' ws) (ss' ++ k) (v' ++ vs)

-- the machine goes from these symbols to those, on top of more
abbrev pub Enters : ℕ → List Word → List Symbol → Values → ℕ → ℕ → List Symbol → Values → ℕ → Type 0
Enters n ws ss v from m ss' v' from' = (k : List Symbol) (vs : Values) → (k' : List Symbol) × (vs' : Values) × (run n (drop from ws) (ss ++ k) (v ++ vs) ≡ run m (drop from' ws) (ss' ++ k') (v' ++ vs'))

pub inside : (n : ℕ) (ws : List Word) (ss : List Symbol) (v : Values) (from m : ℕ) (ss' : List Symbol) (v' : Values) (from' : ℕ) (e : Failure) → Enters n ws ss v from m ss' v' from' → RefusesAll m ws ss' v' from' e → RefusesAll n ws ss v from e
inside n ws ss v from m ss' v' from' failure.NoMemory comes h = tt
inside n ws ss v from m ss' v' from' (failure.Wrong place) comes h = (h.0, λ k vs. let there = comes k vs in there.2 ∙ h.1 there.0 there.1)
inside n ws ss v from m ss' v' from' (failure.TooDeep place) comes h = (h.0, λ k vs. let there = comes k vs in there.2 ∙ h.1 there.0 there.1)

pub through : (n : ℕ) (ws : List Word) (ss : List Symbol) (v : Values) (from : ℕ) (ss' : List Symbol) (v' : Values) (from' : ℕ) (r : Result Found Failure) → Becomes n ws ss v from n ss' v' from' → ReadsAll n ws ss' v' from' r → ReadsAll n ws ss v from r
through n ws ss v from ss' v' from' (Ok f) comes h = λ k vs. comes k vs ∙ h k vs
through n ws ss v from ss' v' from' (Err e) comes h = inside n ws ss v from n ss' v' from' e (λ k vs. (k, vs, comes k vs)) h

-- ---- nesting levels

pub closed : (n : ℕ) (ts : List Word) (k : List Symbol) (vs : Values) → 0 < n → run (n - 1) ts (Close ∷ k) vs ≡ run n ts k vs
closed n ts k vs h = let e : suc (n - 1) ≡ n = omega arith in run_close (n - 1) ts k vs ∙ ap (λ m. run m ts k vs) e

pub chained : (n : ℕ) (p : Precedence) (m : ℕ) (w : Want) (ts : List Word) (k : List Symbol) (vs : Values) → is_chain p ≡ true → m ≡ level_number p - 1 → run n ts (Level (level_number p) w ∷ k) vs ≡ run n ts (Level m w ∷ More (level_number p) ∷ k) vs
chained n p m w ts k vs h e = chain_of p h ∙ ap (λ l. run n ts (Level l w ∷ More (level_number p) ∷ k) vs) (sym e) where
  chain_of : (p : Precedence) → is_chain p ≡ true → run n ts (Level (level_number p) w ∷ k) vs ≡ run n ts (Level (level_number p - 1) w ∷ More (level_number p) ∷ k) vs
  chain_of precedence.Atom h = absurd cc
  chain_of precedence.Sign h = absurd cc
  chain_of precedence.Relation h = absurd cc
  chain_of precedence.Not h = absurd cc
  chain_of p h = run_chain n (level_number p - 1) w ts k vs refl

-- without a prefix the words are those of the next higher precedence
pub tighter_by : (n l m : ℕ) (w : Want) (ts : List Word) (k : List Symbol) (vs : Values) → ((n : ℕ) (w : Want) (k : List Symbol) (vs : Values) → run n ts (Level l w ∷ k) vs ≡ run n ts (Level (l - 1) w ∷ k) vs) → m ≡ l - 1 → run n ts (Level l w ∷ k) vs ≡ run n ts (Level m w ∷ k) vs
tighter_by n l m w ts k vs h e = h n w k vs ∙ ap (λ x. run n ts (Level x w ∷ k) vs) (sym e)

pub related : (n : ℕ) (w : Want) (ts : List Word) (k : List Symbol) (vs : Values) → run n ts (Level 5 w ∷ k) vs ≡ run n ts (Level 4 (side w) ∷ (relations w ++ k)) vs
related n w ts k vs = run_relations n 4 w ts k vs refl

pub prefix_made : (n : ℕ) (p : Prefix) (ts : List Word) (k : List Symbol) (a : Tree) (vs : Values) → run n ts (Do (action_of p) ∷ k) (Term a ∷ vs) ≡ run n ts k (Term (prefixed p a) ∷ vs)
prefix_made n prefix.Minus ts k a vs = run_do n _ ts k (Term a ∷ vs)
prefix_made n prefix.Plus ts k a vs = run_do n _ ts k (Term a ∷ vs)
prefix_made n prefix.Not ts k a vs = run_do n _ ts k (Term a ∷ vs)

-- ---- signs that have to be there

pub not_expected : (n : ℕ) (ts : List Word) (s : Sign) (k : List Symbol) (vs : Values) → First (is_sign s) ts → run n ts (Expect s ∷ k) vs ≡ Err (Wrong ts)
unfolding run
not_expected n [] s k vs h = refl
not_expected n (Punctuation t ∷ ts) s k vs h = rw h refl
not_expected n (t ∷ ts) s k vs h = refl

pub not_opened : (n : ℕ) (ts : List Word) (k : List Symbol) (vs : Values) → First (is_sign sign.Opening) ts → run n ts (Opening ∷ k) vs ≡ Err (Wrong ts)
unfolding run
not_opened n [] k vs h = refl
not_opened n (Punctuation sign.Opening ∷ ts) k vs h = absurd cc
not_opened n (Punctuation t ∷ ts) k vs h = refl
not_opened n (t ∷ ts) k vs h = refl

pub no_list : (n : ℕ) (ts : List Word) (name : Name) (k : List Symbol) (vs : Values) → First (is_sign sign.Opening) ts → run n ts (Subscripts name ∷ k) vs ≡ run n ts k (Term (Variable name) ∷ vs)
unfolding run
no_list n [] name k vs h = refl
no_list n (Punctuation sign.Opening ∷ ts) name k vs h = absurd cc
no_list n (Punctuation s ∷ ts) name k vs h = refl
no_list n (t ∷ ts) name k vs h = refl

pub no_call_list : (n : ℕ) (ts : List Word) (name : Name) (k : List Symbol) (vs : Values) → First (is_sign sign.Opening) ts → run n ts (Arguments name ∷ k) vs ≡ run n ts k (Term (Call name NoTrees) ∷ vs)
unfolding run
no_call_list n [] name k vs h = refl
no_call_list n (Punctuation sign.Opening ∷ ts) name k vs h = absurd cc
no_call_list n (Punctuation s ∷ ts) name k vs h = refl
no_call_list n (t ∷ ts) name k vs h = refl

pub no_second : (n : ℕ) (ts : List Word) (k : List Symbol) (several : Trees) (vs : Values) → First (is_sign sign.Comma) ts → run n ts (SecondSubscript ∷ k) (Several several ∷ vs) ≡ run n ts k (Several several ∷ vs)
unfolding run
no_second n [] k several vs h = refl
no_second n (Punctuation sign.Comma ∷ ts) k several vs h = absurd cc
no_second n (Punctuation s ∷ ts) k several vs h = refl
no_second n (t ∷ ts) k several vs h = refl

pub no_more_arguments : (n : ℕ) (ts : List Word) (k : List Symbol) (several : Trees) (vs : Values) → First (is_sign sign.Comma) ts → run n ts (MoreArguments ∷ k) (Several several ∷ vs) ≡ run n ts k (Several several ∷ vs)
unfolding run
no_more_arguments n [] k several vs h = refl
no_more_arguments n (Punctuation sign.Comma ∷ ts) k several vs h = absurd cc
no_more_arguments n (Punctuation s ∷ ts) k several vs h = refl
no_more_arguments n (t ∷ ts) k several vs h = refl

-- ---- signs that are there

pub opens_parentheses : (n : ℕ) (ts rest : List Word) (w : Want) (k : List Symbol) (vs : Values) → ts ≡ Punctuation sign.Opening ∷ rest → 0 < n → run n ts (Level 0 w ∷ k) vs ≡ run (n - 1) rest (Level loosest w ∷ Expect sign.Closing ∷ Close ∷ Do MakeParenthesized ∷ k) vs
unfolding run
opens_parentheses zero ts rest w k vs at h = absurd (omega arith)
opens_parentheses (suc n) ts rest w k vs at h = let e : suc n - 1 ≡ n = omega arith in rw (at, e) refl

pub deep_parentheses : (ts rest : List Word) (w : Want) (k : List Symbol) (vs : Values) → ts ≡ Punctuation sign.Opening ∷ rest → run 0 ts (Level 0 w ∷ k) vs ≡ Err (TooDeep ts)
unfolding run
deep_parentheses ts rest w k vs at = rw at refl

pub opens_subscripts : (n : ℕ) (ts rest : List Word) (name : Name) (k : List Symbol) (vs : Values) → ts ≡ Punctuation sign.Opening ∷ rest → 0 < n → run n ts (Subscripts name ∷ k) vs ≡ run (n - 1) rest (Level loosest want.Number ∷ Do Collect ∷ SecondSubscript ∷ Expect sign.Closing ∷ Close ∷ Do (MakeElement name) ∷ k) (Several NoTrees ∷ vs)
unfolding run
opens_subscripts zero ts rest name k vs at h = absurd (omega arith)
opens_subscripts (suc n) ts rest name k vs at h = let e : suc n - 1 ≡ n = omega arith in rw (at, e) refl

pub deep_subscripts : (ts rest : List Word) (name : Name) (k : List Symbol) (vs : Values) → ts ≡ Punctuation sign.Opening ∷ rest → run 0 ts (Subscripts name ∷ k) vs ≡ Err (TooDeep ts)
unfolding run
deep_subscripts ts rest name k vs at = rw at refl

pub opens_call : (n : ℕ) (ts rest : List Word) (name : Name) (k : List Symbol) (vs : Values) → ts ≡ Punctuation sign.Opening ∷ rest → 0 < n → run n ts (Arguments name ∷ k) vs ≡ run (n - 1) rest (Level loosest want.Either ∷ Do Collect ∷ MoreArguments ∷ Expect sign.Closing ∷ Close ∷ Do (MakeCall name) ∷ k) (Several NoTrees ∷ vs)
unfolding run
opens_call zero ts rest name k vs at h = absurd (omega arith)
opens_call (suc n) ts rest name k vs at h = let e : suc n - 1 ≡ n = omega arith in rw (at, e) refl

pub deep_call : (ts rest : List Word) (name : Name) (k : List Symbol) (vs : Values) → ts ≡ Punctuation sign.Opening ∷ rest → run 0 ts (Arguments name ∷ k) vs ≡ Err (TooDeep ts)
unfolding run
deep_call ts rest name k vs at = rw at refl

pub opens_arguments : (n : ℕ) (ts rest : List Word) (k : List Symbol) (vs : Values) → ts ≡ Punctuation sign.Opening ∷ rest → 0 < n → run n ts (Opening ∷ k) vs ≡ run (n - 1) rest k vs
unfolding run
opens_arguments zero ts rest k vs at h = absurd (omega arith)
opens_arguments (suc n) ts rest k vs at h = let e : suc n - 1 ≡ n = omega arith in rw (at, e) refl

pub deep_arguments : (ts rest : List Word) (k : List Symbol) (vs : Values) → ts ≡ Punctuation sign.Opening ∷ rest → run 0 ts (Opening ∷ k) vs ≡ Err (TooDeep ts)
unfolding run
deep_arguments ts rest k vs at = rw at refl

pub second_taken : (n : ℕ) (ts rest : List Word) (k : List Symbol) (vs : Values) → ts ≡ Punctuation sign.Comma ∷ rest → run n ts (SecondSubscript ∷ k) vs ≡ run n rest (Level loosest want.Number ∷ Do Collect ∷ k) vs
unfolding run
second_taken n ts rest k vs at = rw at refl

pub argument_taken : (n : ℕ) (ts rest : List Word) (k : List Symbol) (vs : Values) → ts ≡ Punctuation sign.Comma ∷ rest → run n ts (MoreArguments ∷ k) vs ≡ run n rest (Level loosest want.Either ∷ Do Collect ∷ MoreArguments ∷ k) vs
unfolding run
argument_taken n ts rest k vs at = rw at refl

pub sign_taken : (n : ℕ) (ts rest : List Word) (s : Sign) (k : List Symbol) (vs : Values) → ts ≡ Punctuation s ∷ rest → run n ts (Expect s ∷ k) vs ≡ run n rest k vs
unfolding run
sign_taken n ts rest s k vs at = rw (at, sign_is_same s) refl

-- ---- atoms

pub no_word_atom : (n : ℕ) (ts : List Word) (w : Want) (k : List Symbol) (vs : Values) → ts ≡ [] → run n ts (Level 0 w ∷ k) vs ≡ Err (Wrong ts)
unfolding run
no_word_atom n ts w k vs at = rw at refl

pub no_atom : (n : ℕ) (ts rest : List Word) (t : Word) (w : Want) (k : List Symbol) (vs : Values) → ts ≡ t ∷ rest → begins_atom w t ≡ false → run n ts (Level 0 w ∷ k) vs ≡ Err (Wrong ts)
unfolding run
no_atom n ts rest (Key j) w k vs at h = rw at (go (function_of j) h) where
  go : (o : Option Function) → fits_function w o ≡ false → turned (moved (begun (function_start w vs o)) n k (λ m vs'. turn k m vs' (Some (Key j)))) (Key j ∷ rest) (λ m vs' k'. run m rest k' vs') ≡ Err (Wrong (Key j ∷ rest))
  go None h = refl
  go (Some f) h = rw h refl
no_atom n ts rest (Punctuation sign.Opening) w k vs at h = absurd cc
no_atom n ts rest (Punctuation s) w k vs at h = rw at refl
no_atom n ts rest (Named name) w k vs at h = rw (at, h) refl
no_atom n ts rest (FnNamed name) w k vs at h = rw (at, h) refl
no_atom n ts rest (Number x) w k vs at h = rw at (go (takes w false) (nat_lt x 32768) h) where
  go : (a b : Bool) → (a && b) ≡ false → turned (moved (begun (cond a (cond {A = Option Start} b (Some (record { opens = false; values = Term (Literal x) ∷ vs; expected = [] })) None) None)) n k (λ m vs'. turn k m vs' (Some (Number x)))) (Number x ∷ rest) (λ m vs' k'. run m rest k' vs') ≡ Err (Wrong (Number x ∷ rest))
  go true true h = absurd cc
  go true false h = refl
  go false b h = refl
no_atom n ts rest (Quotation text) w k vs at h = rw (at, h) refl
no_atom n ts rest (Item bytes) w k vs at h = rw at refl

both : (a b : Bool) → (a && b) ≡ true → (a ≡ true) × (b ≡ true)
both true b h = (refl, h)
both false b h = absurd cc

pub number_atom : (n : ℕ) (ts rest : List Word) (m : ℕ) (w : Want) (k : List Symbol) (vs : Values) → ts ≡ Number m ∷ rest → begins_atom w (Number m) ≡ true → run n ts (Level 0 w ∷ k) vs ≡ run n rest k (Term (Literal m) ∷ vs)
unfolding run
number_atom n ts rest m w k vs at h = let b = both (takes w false) (nat_lt m 32768) h in let b0 = b.0 in let b1 = b.1 in rw (at, b0, b1) refl

pub quoted_atom : (n : ℕ) (ts rest : List Word) (text : List ℕ) (w : Want) (k : List Symbol) (vs : Values) → ts ≡ Quotation text ∷ rest → takes w true ≡ true → run n ts (Level 0 w ∷ k) vs ≡ run n rest k (Term (Quoted text) ∷ vs)
unfolding run
quoted_atom n ts rest text w k vs at h = rw (at, h) refl

pub named_atom : (n : ℕ) (ts rest : List Word) (name : Name) (w : Want) (k : List Symbol) (vs : Values) → ts ≡ Named name ∷ rest → takes w name.text ≡ true → run n ts (Level 0 w ∷ k) vs ≡ run n rest (Subscripts name ∷ k) vs
unfolding run
named_atom n ts rest name w k vs at h = rw (at, h) refl

pub call_atom : (n : ℕ) (ts rest : List Word) (name : Name) (w : Want) (k : List Symbol) (vs : Values) → ts ≡ FnNamed name ∷ rest → takes w name.text ≡ true → run n ts (Level 0 w ∷ k) vs ≡ run n rest (Arguments name ∷ k) vs
unfolding run
call_atom n ts rest name w k vs at h = rw (at, h) refl

pub function_atom : (n : ℕ) (ts rest : List Word) (j : Keyword) (f : Function) (w : Want) (k : List Symbol) (vs : Values) → ts ≡ Key j ∷ rest → function_of j ≡ Some f → takes w (gives_text f) ≡ true → run n ts (Level 0 w ∷ k) vs ≡ run n rest (function_expected f ++ k) (Several NoTrees ∷ vs)
unfolding run
function_atom n ts rest j f w k vs at is h = rw (at, is, h) refl

-- the word that begins an atom, by its variant
pub atom_word : (ws : List Word) (from : ℕ) (w : Want) (x y : CodeWord) → drop from ws ≡ as_word x ∷ drop (from + 1) ws → begins_atom w (as_word x) ≡ true → x ≡ y → (drop from ws ≡ as_word y ∷ drop (from + 1) ws) × (begins_atom w (as_word y) ≡ true)
atom_word ws from w x y at b e = (at ∙ ap (λ (z : CodeWord). as_word z ∷ drop (from + 1) ws) e, subst (λ (z : CodeWord). begins_atom w (as_word z) ≡ true) e b)

-- ---- prefixes

pub prefix_opens : (n : ℕ) (fits : Want → Bool) (s : Want → Symbol) (operand : Symbol) (tighter : Want → Symbol) (ws : List Word) (from : ℕ) (p : Prefix) (w : Want) (k : List Symbol) (vs : Values) → 0 < n → PrefixAt fits s operand tighter ws from (Some p) → fits w ≡ true → run n (drop from ws) (s w ∷ k) vs ≡ run (n - 1) (drop (from + 1) ws) (operand ∷ Close ∷ Do (action_of p) ∷ k) vs
prefix_opens n fits s operand tighter ws from p w k vs pos at fit =
    let e : suc (n - 1) ≡ n = omega arith in
    subst (λ m. run m (drop from ws) (s w ∷ k) vs ≡ run (n - 1) (drop (from + 1) ws) (operand ∷ Close ∷ Do (action_of p) ∷ k) vs) e (at.1 (n - 1) w k vs fit)

pub prefix_refused : (n : ℕ) (fits : Want → Bool) (s : Want → Symbol) (operand : Symbol) (tighter : Want → Symbol) (ws : List Word) (from : ℕ) (p : Prefix) (w : Want) (e : Failure) → 0 < n → PrefixAt fits s operand tighter ws from (Some p) → fits w ≡ true → RefusesAll (n - 1) ws (operand ∷ []) [] (from + 1) e → RefusesAll n ws (s w ∷ []) [] from e
prefix_refused n fits s operand tighter ws from p w e pos at fit h =
    inside n ws (s w ∷ []) [] from (n - 1) (operand ∷ []) [] (from + 1) e (λ k vs. (Close ∷ Do (action_of p) ∷ k, vs, prefix_opens n fits s operand tighter ws from p w k vs pos at fit)) h

pub prefix_read : (n : ℕ) (fits : Want → Bool) (s : Want → Symbol) (operand : Symbol) (tighter : Want → Symbol) (ws : List Word) (from end : ℕ) (p : Prefix) (w : Want) (a t : Tree) → 0 < n → PrefixAt fits s operand tighter ws from (Some p) → fits w ≡ true → ((k : List Symbol) (vs : Values) → run (n - 1) (drop (from + 1) ws) (operand ∷ k) vs ≡ run (n - 1) (drop end ws) k (Term a ∷ vs)) → t ≡ prefixed p a → (k : List Symbol) (vs : Values) → run n (drop from ws) (s w ∷ k) vs ≡ run n (drop end ws) k (Term t ∷ vs)
prefix_read n fits s operand tighter ws from end p w a t pos at fit inner e k vs =
    prefix_opens n fits s operand tighter ws from p w k vs pos at fit
    ∙ inner (Close ∷ Do (action_of p) ∷ k) vs
    ∙ closed n (drop end ws) (Do (action_of p) ∷ k) (Term a ∷ vs) pos
    ∙ prefix_made n p (drop end ws) k a vs
    ∙ ap (λ z. run n (drop end ws) k (Term z ∷ vs)) (sym e)

-- ---- a sign that is not there

pub sign_refused : (n : ℕ) (ws : List Word) (ss : List Symbol) (v : Values) (from m : ℕ) (s : Sign) (from' : ℕ) (e : Failure) → Enters n ws ss v from m (Expect s ∷ []) [] from' → RefusesSign ws s from' e → RefusesAll n ws ss v from e
sign_refused n ws ss v from m s from' failure.NoMemory comes h = absurd h
sign_refused n ws ss v from m s from' (failure.Wrong place) comes h =
    (h.0, λ k vs. let there = comes k vs in there.2 ∙ ap (λ i. run m (drop i ws) (Expect s ∷ there.0) there.1) (sym h.1) ∙ not_expected m (drop place ws) s there.0 there.1 h.2)
sign_refused n ws ss v from m s from' (failure.TooDeep place) comes h = absurd h

-- ---- if no nesting level is left

pub deep : (n : ℕ) (ws : List Word) (s : Symbol) (from : ℕ) → n ≡ 0 → from < length ws → ((k : List Symbol) (vs : Values) → run 0 (drop from ws) (s ∷ k) vs ≡ Err (TooDeep (drop from ws))) → RefusesAll n ws (s ∷ []) [] from (failure.TooDeep from)
deep n ws s from e within h = (within, λ k vs. subst (λ m. run m (drop from ws) (s ∷ k) vs ≡ Err (TooDeep (drop from ws))) (sym e) (h k vs))

-- ---- lists

pub trees_in_push : (es : List Expr) (e : Expr) → trees_in (es ++ e ∷ []) ≡ with_last (trees_in es) (tree_of e)
trees_in_push [] e = refl
trees_in_push (x ∷ es) e = ap (λ ts. AndTrees (tree_of x) ts) (trees_in_push es e)

-- one more argument is added
pub collected : (n : ℕ) (ts : List Word) (k : List Symbol) (es items : List Expr) (e : Expr) (vs : Values) → items ≡ es ++ e ∷ [] → run n ts (Do Collect ∷ k) (Term (tree_of e) ∷ Several (trees_in es) ∷ vs) ≡ run n ts k (Several (trees_in items) ∷ vs)
collected n ts k es items e vs is = run_do n Collect ts k (Term (tree_of e) ∷ Several (trees_in es) ∷ vs) ∙ ap (λ z. run n ts k (Several z ∷ vs)) (sym (ap trees_in is ∙ trees_in_push es e))

-- ---- relations

pub relation_taken : (n : ℕ) (ws : List Word) (place : ℕ) (r : Relation) (w : Want) (k : List Symbol) (a : Tree) (vs : Values) → takes_relations w ≡ true → RelationAt ws place (Some r) → run n (drop place ws) (relations w ++ k) (Term a ∷ vs) ≡ run n (drop (place + 1) ws) (Level 4 (want_of (is_text a)) ∷ Do (MakeComparison r) ∷ (relations w ++ k)) (Term a ∷ vs)
relation_taken n ws place r want.Number k a vs e at = at.1 n true k a vs
relation_taken n ws place r want.Text k a vs e at = absurd cc
relation_taken n ws place r want.Either k a vs e at = at.1 n false k a vs

pub related_by : (n : ℕ) (w v : Want) (ts : List Word) (k : List Symbol) (vs : Values) → v ≡ side w → run n ts (Level 5 w ∷ k) vs ≡ run n ts (Level 4 v ∷ (relations w ++ k)) vs
related_by n w v ts k vs e = related n w ts k vs ∙ ap (λ z. run n ts (Level 4 z ∷ (relations w ++ k)) vs) (sym e)

pub without_relations : (n : ℕ) (w v : Want) (ts : List Word) (k : List Symbol) (vs : Values) → v ≡ side w → takes_relations w ≡ false → run n ts (Level 5 w ∷ k) vs ≡ run n ts (Level 4 v ∷ k) vs
without_relations n want.Number v ts k vs e h = absurd cc
without_relations n want.Text v ts k vs e h = related_by n want.Text v ts k vs e
without_relations n want.Either v ts k vs e h = absurd cc

-- ---- subscripts

-- up to the end of the first subscript
pub first_subscript : (n : ℕ) (ws : List Word) (from end : ℕ) (name : Name) (a : Tree) → 0 < n → drop from ws ≡ Punctuation sign.Opening ∷ drop (from + 1) ws → ((k : List Symbol) (vs : Values) → run (n - 1) (drop (from + 1) ws) (Level loosest want.Number ∷ k) vs ≡ run (n - 1) (drop end ws) k (Term a ∷ vs)) → (k : List Symbol) (vs : Values) → run n (drop from ws) (Subscripts name ∷ k) vs ≡ run (n - 1) (drop end ws) (SecondSubscript ∷ Expect sign.Closing ∷ Close ∷ Do (MakeElement name) ∷ k) (Several (AndTrees a NoTrees) ∷ vs)
first_subscript n ws from end name a pos at first k vs =
    opens_subscripts n (drop from ws) (drop (from + 1) ws) name k vs at pos
    ∙ first (Do Collect ∷ SecondSubscript ∷ Expect sign.Closing ∷ Close ∷ Do (MakeElement name) ∷ k) (Several NoTrees ∷ vs)
    ∙ run_do (n - 1) Collect (drop end ws) (SecondSubscript ∷ Expect sign.Closing ∷ Close ∷ Do (MakeElement name) ∷ k) (Term a ∷ Several NoTrees ∷ vs)

-- a closing parenthesis, the end of the nesting level, and the action that makes the tree
pub ended : (n : ℕ) (ts rest : List Word) (a : Action) (k : List Symbol) (vs : Values) → 0 < n → ts ≡ Punctuation sign.Closing ∷ rest → run (n - 1) ts (Expect sign.Closing ∷ Close ∷ Do a ∷ k) vs ≡ run n rest k (made a vs ∷ others a vs)
ended n ts rest a k vs pos at =
    sign_taken (n - 1) ts rest sign.Closing (Close ∷ Do a ∷ k) vs at
    ∙ closed n rest (Do a ∷ k) vs pos
    ∙ run_do n a rest k vs

-- ---- arguments

-- up to the end of the first argument of a function of the program
pub first_argument : (n : ℕ) (ws : List Word) (from end : ℕ) (name : Name) (e : Expr) (items : List Expr) → 0 < n → drop from ws ≡ Punctuation sign.Opening ∷ drop (from + 1) ws → ((k : List Symbol) (vs : Values) → run (n - 1) (drop (from + 1) ws) (Level loosest want.Either ∷ k) vs ≡ run (n - 1) (drop end ws) k (Term (tree_of e) ∷ vs)) → items ≡ e ∷ [] → (k : List Symbol) (vs : Values) → run n (drop from ws) (Arguments name ∷ k) vs ≡ run (n - 1) (drop end ws) (MoreArguments ∷ Expect sign.Closing ∷ Close ∷ Do (MakeCall name) ∷ k) (Several (trees_in items) ∷ vs)
first_argument n ws from end name e items pos at first is k vs =
    opens_call n (drop from ws) (drop (from + 1) ws) name k vs at pos
    ∙ first (Do Collect ∷ MoreArguments ∷ Expect sign.Closing ∷ Close ∷ Do (MakeCall name) ∷ k) (Several NoTrees ∷ vs)
    ∙ collected (n - 1) (drop end ws) (MoreArguments ∷ Expect sign.Closing ∷ Close ∷ Do (MakeCall name) ∷ k) [] items e vs is

-- one more argument
pub next_argument : (m : ℕ) (ws : List Word) (place end : ℕ) (e : Expr) (es items : List Expr) → drop place ws ≡ Punctuation sign.Comma ∷ drop (place + 1) ws → ((k : List Symbol) (vs : Values) → run m (drop (place + 1) ws) (Level loosest want.Either ∷ k) vs ≡ run m (drop end ws) k (Term (tree_of e) ∷ vs)) → items ≡ es ++ e ∷ [] → (k : List Symbol) (vs : Values) → run m (drop place ws) (MoreArguments ∷ k) (Several (trees_in es) ∷ vs) ≡ run m (drop end ws) (MoreArguments ∷ k) (Several (trees_in items) ∷ vs)
next_argument m ws place end e es items at next is k vs =
    argument_taken m (drop place ws) (drop (place + 1) ws) k (Several (trees_in es) ∷ vs) at
    ∙ next (Do Collect ∷ MoreArguments ∷ k) (Several (trees_in es) ∷ vs)
    ∙ collected m (drop end ws) (MoreArguments ∷ k) es items e vs is

-- what is expected of a function after this many arguments
abbrev pub left_of : Function → ℕ → List Symbol
left_of f i = more_expected (drop i (arguments_of f)) ++ Do (MakeFunction f) ∷ []

-- the kind of an argument
abbrev pub wanted : List Want → ℕ → Want
wanted wants i = get_or wants i want.Number

-- a function without arguments
pub no_arguments : (n : ℕ) (ts : List Word) (f : Function) (k : List Symbol) (vs : Values) → arguments_of f ≡ [] → run n ts (function_expected f ++ k) (Several NoTrees ∷ vs) ≡ run n ts k (Term (FunctionOf f NoTrees) ∷ vs)
no_arguments n ts f k vs none = rw none (run_do n (MakeFunction f) ts k (Several NoTrees ∷ vs))

opened : (n : ℕ) (ts : List Word) (wants : List Want) (b : Symbol) (k : List Symbol) (vs : Values) → 0 < length wants → run n ts ((arguments_expected wants ++ b ∷ []) ++ k) vs ≡ run n ts (Opening ∷ Level loosest (wanted wants 0) ∷ Do Collect ∷ ((more_expected (drop 1 wants) ++ b ∷ []) ++ k)) vs
opened n ts [] b k vs h = absurd (omega arith)
opened n ts (w ∷ ws) b k vs h = refl

pub no_opening : (n : ℕ) (ts : List Word) (f : Function) (k : List Symbol) (vs : Values) → 0 < length (arguments_of f) → First (is_sign sign.Opening) ts → run n ts (function_expected f ++ k) vs ≡ Err (Wrong ts)
no_opening n ts f k vs some h = opened n ts (arguments_of f) (Do (MakeFunction f)) k vs some ∙ not_opened n ts _ vs h

pub deep_function : (n : ℕ) (ws : List Word) (f : Function) (v : Values) (from : ℕ) → n ≡ 0 → from < length ws → 0 < length (arguments_of f) → drop from ws ≡ Punctuation sign.Opening ∷ drop (from + 1) ws → RefusesAll n ws (function_expected f) v from (failure.TooDeep from)
deep_function n ws f v from e within some at = (
  within,
  λ k vs.
      opened n (drop from ws) (arguments_of f) (Do (MakeFunction f)) k (v ++ vs) some
      ∙ subst (λ m. run m (drop from ws) (Opening ∷ Level loosest (wanted (arguments_of f) 0) ∷ Do Collect ∷ (left_of f 1 ++ k)) (v ++ vs) ≡ Err (TooDeep (drop from ws))) (sym e) (deep_arguments (drop from ws) (drop (from + 1) ws) _ (v ++ vs) at),
)

pub function_opens : (n : ℕ) (ts rest : List Word) (f : Function) (k : List Symbol) (vs : Values) → 0 < n → 0 < length (arguments_of f) → ts ≡ Punctuation sign.Opening ∷ rest → run n ts (function_expected f ++ k) vs ≡ run (n - 1) rest (Level loosest (wanted (arguments_of f) 0) ∷ Do Collect ∷ (left_of f 1 ++ k)) vs
function_opens n ts rest f k vs pos some at = opened n ts (arguments_of f) (Do (MakeFunction f)) k vs some ∙ opens_arguments n ts rest _ vs at pos

-- the comma before one more argument
comma_expected : (wants : List Want) (i : ℕ) (b : Symbol) (k : List Symbol) → i < length wants → (more_expected (drop i wants) ++ b ∷ []) ++ k ≡ Expect sign.Comma ∷ Level loosest (wanted wants i) ∷ Do Collect ∷ ((more_expected (drop (suc i) wants) ++ b ∷ []) ++ k)
comma_expected [] i b k h = absurd (omega arith)
comma_expected (w ∷ ws) zero b k h = refl
comma_expected (w ∷ ws) (suc i) b k h = comma_expected ws i b k (omega arith)

pub left_comma : (f : Function) (i : ℕ) (k : List Symbol) → i < length (arguments_of f) → left_of f i ++ k ≡ Expect sign.Comma ∷ Level loosest (wanted (arguments_of f) i) ∷ Do Collect ∷ (left_of f (suc i) ++ k)
left_comma f i k h = comma_expected (arguments_of f) i (Do (MakeFunction f)) k h

end_expected : (wants : List Want) (i : ℕ) (b : Symbol) (k : List Symbol) → length wants ≤ i → (more_expected (drop i wants) ++ b ∷ []) ++ k ≡ Expect sign.Closing ∷ Close ∷ b ∷ k
end_expected [] zero b k h = refl
end_expected [] (suc i) b k h = refl
end_expected (w ∷ ws) zero b k h = absurd (omega arith)
end_expected (w ∷ ws) (suc i) b k h = end_expected ws i b k (omega arith)

pub left_end : (f : Function) (i : ℕ) (k : List Symbol) → length (arguments_of f) ≤ i → left_of f i ++ k ≡ Expect sign.Closing ∷ Close ∷ Do (MakeFunction f) ∷ k
left_end f i k h = end_expected (arguments_of f) i (Do (MakeFunction f)) k h

pub not_empty : (xs ys : List Want) (b : Bool) → xs ≡ ys → b ≡ (length xs == 0) → b ≡ false → 0 < length ys
not_empty [] ys b e is h = absurd cc
not_empty (x ∷ xs) ys b e is h = omega (arith, ap length e)

pub all_empty : (xs ys : List Want) → xs ≡ ys → true ≡ (length xs == 0) → ys ≡ []
all_empty [] ys e h = sym e
all_empty (x ∷ xs) ys e h = let z : length (x ∷ xs) ≡ 0 = eqb-true (length (x ∷ xs)) 0 (sym h) in absurd (omega arith)

-- the first argument is expected
pub opens_function : (n : ℕ) (ws : List Word) (from : ℕ) (f : Function) (wants : List Want) (k : List Symbol) (vs : Values) → 0 < n → 0 < length (arguments_of f) → wants ≡ arguments_of f → drop from ws ≡ Punctuation sign.Opening ∷ drop (from + 1) ws → run n (drop from ws) (function_expected f ++ k) vs ≡ run (n - 1) (drop (from + 1) ws) (Level loosest (wanted wants 0) ∷ Do Collect ∷ (left_of f 1 ++ k)) vs
opens_function n ws from f wants k vs pos some same at =
    function_opens n (drop from ws) (drop (from + 1) ws) f k vs pos some at
    ∙ ap (λ xs. run (n - 1) (drop (from + 1) ws) (Level loosest (wanted xs 0) ∷ Do Collect ∷ (left_of f 1 ++ k)) vs) (sym same)

pub first_of_function : (n : ℕ) (ws : List Word) (from end : ℕ) (f : Function) (wants : List Want) (e : Expr) (items : List Expr) → 0 < n → 0 < length (arguments_of f) → wants ≡ arguments_of f → drop from ws ≡ Punctuation sign.Opening ∷ drop (from + 1) ws → ((k : List Symbol) (vs : Values) → run (n - 1) (drop (from + 1) ws) (Level loosest (wanted wants 0) ∷ k) vs ≡ run (n - 1) (drop end ws) k (Term (tree_of e) ∷ vs)) → items ≡ e ∷ [] → (k : List Symbol) (vs : Values) → run n (drop from ws) (function_expected f ++ k) (Several NoTrees ∷ vs) ≡ run (n - 1) (drop end ws) (left_of f (length items) ++ k) (Several (trees_in items) ∷ vs)
first_of_function n ws from end f wants e items pos some same at first is k vs =
    opens_function n ws from f wants k (Several NoTrees ∷ vs) pos some same at
    ∙ first (Do Collect ∷ (left_of f 1 ++ k)) (Several NoTrees ∷ vs)
    ∙ collected (n - 1) (drop end ws) (left_of f 1 ++ k) [] items e vs is
    ∙ ap (λ i. run (n - 1) (drop end ws) (left_of f i ++ k) (Several (trees_in items) ∷ vs)) (sym (ap length is))

-- one more argument is expected, after a comma
pub comma_wanted : (m : ℕ) (ws : List Word) (place behind i : ℕ) (f : Function) (wants : List Want) (es : List Expr) (k : List Symbol) (vs : Values) → wants ≡ arguments_of f → i ≡ length es → length es < length (arguments_of f) → drop place ws ≡ Punctuation sign.Comma ∷ drop behind ws → run m (drop place ws) (left_of f (length es) ++ k) vs ≡ run m (drop behind ws) (Level loosest (wanted wants i) ∷ Do Collect ∷ (left_of f (suc (length es)) ++ k)) vs
comma_wanted m ws place behind i f wants es k vs same count more at =
    ap (λ ss. run m (drop place ws) ss vs) (left_comma f (length es) k more)
    ∙ sign_taken m (drop place ws) (drop behind ws) sign.Comma (Level loosest (wanted (arguments_of f) (length es)) ∷ Do Collect ∷ (left_of f (suc (length es)) ++ k)) vs at
    ∙ ap (λ xs. run m (drop behind ws) (Level loosest (wanted xs (length es)) ∷ Do Collect ∷ (left_of f (suc (length es)) ++ k)) vs) (sym same)
    ∙ ap (λ j. run m (drop behind ws) (Level loosest (wanted wants j) ∷ Do Collect ∷ (left_of f (suc (length es)) ++ k)) vs) (sym count)

pub next_of_function : (m : ℕ) (ws : List Word) (place behind end i : ℕ) (f : Function) (wants : List Want) (e : Expr) (es items : List Expr) → wants ≡ arguments_of f → i ≡ length es → length es < length (arguments_of f) → drop place ws ≡ Punctuation sign.Comma ∷ drop behind ws → ((k : List Symbol) (vs : Values) → run m (drop behind ws) (Level loosest (wanted wants i) ∷ k) vs ≡ run m (drop end ws) k (Term (tree_of e) ∷ vs)) → items ≡ es ++ e ∷ [] → (k : List Symbol) (vs : Values) → run m (drop place ws) (left_of f (length es) ++ k) (Several (trees_in es) ∷ vs) ≡ run m (drop end ws) (left_of f (length items) ++ k) (Several (trees_in items) ∷ vs)
next_of_function m ws place behind end i f wants e es items same count more at next is k vs =
    let one_more : suc (length es) ≡ length items = omega (arith, ap length is, length-append es (e ∷ [])) in
    comma_wanted m ws place behind i f wants es k (Several (trees_in es) ∷ vs) same count more at
    ∙ next (Do Collect ∷ (left_of f (suc (length es)) ++ k)) (Several (trees_in es) ∷ vs)
    ∙ collected m (drop end ws) (left_of f (suc (length es)) ++ k) es items e vs is
    ∙ ap (λ j. run m (drop end ws) (left_of f j ++ k) (Several (trees_in items) ∷ vs)) one_more

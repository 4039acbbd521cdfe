-- Single steps of the machine, as the parser's functions use them.
use Rattle.std.proofs.Common.{◌≡◌, ℕ, Bool, false, ◌+◌, ◌<◌, ◌≤◌, List, [], ◌∷◌, drop, Some, Result, Ok, Err, refl, ap, sym, ◌∙◌, subst, arith}
use Rattle.basic_expr.specs.declared.failures.Failure.{Failure}
use Rattle.basic_expr.specs.declared.failures.Failure.TheVariants as failure
use Rattle.basic_expr.specs.ParsedSymbols.{RefusesAt, First, WordStands, is_key, is_sign}
use Rattle.basic_tree.specs.declared.tokens.Keyword.{Keyword}
use Rattle.basic_tree.specs.declared.tokens.Sign.{Sign}
use Rattle.basic_tree.specs.declared.kinds.Want.{Want}
use Rattle.basic_tree.specs.SpellingWords.{Word, Key, Punctuation}
use Rattle.basic_tree.specs.Trees.{Tree}
use Rattle.grammar_machine.specs.MachineStack.{Values, Term, Symbol, Level, Go, Await, Form, IfKey, IfSign, TakeKey, TakeSign, ExprOf, loosest}
use Rattle.grammar_machine.specs.MachineRun.{Halt, Wrong, run}
use Rattle.grammar_machine.proofs.FormSteps.{run_made, run_await, run_expr, key_taken, sign_taken, if_key, if_sign}
use Rattle.basic_tree.specs.declared.statements.Statement.{Statement}
use Rattle.statement_parts.specs.declared.read.Read.{Read}
use Rattle.statement_parts.specs.ParsedForms.{IsPlaced, Leads, Halts, States, StatesFrom, TakesKeyword, SkipsKey, TakesSign, SkipsSign}

-- ---- words and signs

pub key_stands : (ws : List Word) (from : ℕ) (key : Keyword) → WordStands ws (Key key) from → TakesKeyword ws from key
key_stands ws from key h = (h.0, λ n f g k vs. rw h.1 (if_key n key f g (drop (from + 1) ws) k vs), λ n f k vs. rw h.1 (key_taken n key f (drop (from + 1) ws) k vs))

pub key_stands_not : (ws : List Word) (from : ℕ) (key : Keyword) → First (is_key key) (drop from ws) → SkipsKey ws from key
unfolding run
key_stands_not ws from key h = λ n opens f g k vs. go (drop from ws) n opens f g k vs h where
  go : (ws : List Word) (n : ℕ) (opens : Bool) (f g : Form) (k : List Symbol) (vs : Values) → First (is_key key) ws → run n ws (Go (IfKey opens key f g) ∷ k) vs ≡ run n ws (Go g ∷ k) vs
  go [] n opens f g k vs h = refl
  go (Key l ∷ ws) n opens f g k vs h = rw h refl
  go (t ∷ ws) n opens f g k vs h = refl

pub sign_stands : (ws : List Word) (from : ℕ) (s : Sign) → WordStands ws (Punctuation s) from → TakesSign ws from s
sign_stands ws from s h = (h.0, λ n f g k vs. rw h.1 (if_sign n s f g (drop (from + 1) ws) k vs), λ n f k vs. rw h.1 (sign_taken n s f (drop (from + 1) ws) k vs))

pub sign_stands_not : (ws : List Word) (from : ℕ) (s : Sign) → First (is_sign s) (drop from ws) → SkipsSign ws from s
unfolding run
sign_stands_not ws from s h = λ n opens f g k vs. go (drop from ws) n opens f g k vs h where
  go : (ws : List Word) (n : ℕ) (opens : Bool) (f g : Form) (k : List Symbol) (vs : Values) → First (is_sign s) ws → run n ws (Go (IfSign opens s f g) ∷ k) vs ≡ run n ws (Go g ∷ k) vs
  go [] n opens f g k vs h = refl
  go (Punctuation l ∷ ws) n opens f g k vs h = rw h refl
  go (t ∷ ws) n opens f g k vs h = refl

-- if another word is there, the machine stops there
pub key_missing : (ws : List Word) (from : ℕ) (key : Keyword) → First (is_key key) (drop from ws) → (n : ℕ) (f : Form) → Halts n ws from (TakeKey false key f) (failure.Wrong from)
unfolding run
key_missing ws from key h = λ n f halt e k vs. go (drop from ws) n f k vs h ∙ ap (λ (x : Halt). Err x) (some_same e) where
  some_same : {x y : Halt} → Some x ≡ Some y → x ≡ y
  some_same e = cc

  go : (ws : List Word) (n : ℕ) (f : Form) (k : List Symbol) (vs : Values) → First (is_key key) ws → run n ws (Go (TakeKey false key f) ∷ k) vs ≡ Err (Wrong ws)
  go [] n f k vs h = refl
  go (Key l ∷ ws) n f k vs h = rw h refl
  go (t ∷ ws) n f k vs h = refl

pub sign_missing : (ws : List Word) (from : ℕ) (s : Sign) → First (is_sign s) (drop from ws) → (n : ℕ) (f : Form) → Halts n ws from (TakeSign false s f) (failure.Wrong from)
unfolding run
sign_missing ws from s h = λ n f halt e k vs. go (drop from ws) n f k vs h ∙ ap (λ (x : Halt). Err x) (some_same e) where
  some_same : {x y : Halt} → Some x ≡ Some y → x ≡ y
  some_same e = cc

  go : (ws : List Word) (n : ℕ) (f : Form) (k : List Symbol) (vs : Values) → First (is_sign s) ws → run n ws (Go (TakeSign false s f) ∷ k) vs ≡ Err (Wrong ws)
  go [] n f k vs h = refl
  go (Punctuation l ∷ ws) n f k vs h = rw h refl
  go (t ∷ ws) n f k vs h = refl

pub ruleset words_at = (key_stands, key_stands_not, sign_stands, sign_stands_not, key_missing, sign_missing)

-- ---- expressions

pub expression_leads : (n : ℕ) (ws : List Word) (from end : ℕ) (w : Want) (t : Tree)
    → ((k : List Symbol) (vs : Values) → run n (drop from ws) (Level loosest w ∷ k) vs ≡ run n (drop end ws) k (Term t ∷ vs))
    → (g : Tree → Form)
    → Leads n n ws from end (ExprOf w g) (g t)
expression_leads n ws from end w t h g = λ k vs. run_expr n w g (drop from ws) k vs ∙ h (Await g ∷ k) vs ∙ run_await n g (drop end ws) k t vs

some_halt : {x y : Halt} → Some x ≡ Some y → x ≡ y
some_halt e = cc

pub expression_halts : (n : ℕ) (ws : List Word) (from : ℕ) (w : Want) (e : Failure) → RefusesAt n ws (Level loosest w) from e → IsPlaced ws e × ((g : Tree → Form) → Halts n ws from (ExprOf w g) e)
expression_halts n ws from w failure.NoMemory h = (tt, λ g halt e. absurd cc)
expression_halts n ws from w (failure.Wrong place) h = (h.0, λ g halt e k vs. run_expr n w g (drop from ws) k vs ∙ h.1 (Await g ∷ k) vs ∙ ap (λ (x : Halt). Err x) (some_halt e))
expression_halts n ws from w (failure.TooDeep place) h = (h.0, λ g halt e k vs. run_expr n w g (drop from ws) k vs ∙ h.1 (Await g ∷ k) vs ∙ ap (λ (x : Halt). Err x) (some_halt e))

pub ruleset expressions = (expression_leads, expression_halts)

-- ---- statements

pub ruleset leading = (run_made)

-- ---- results

-- if the result is a failure
pub on_err : {A : Type 0} (P : Result A Failure → Type 0) (r : Result A Failure) (e : Failure) → r ≡ Err e → P (Err e) → P r
on_err P r e same p = subst P (sym same) p

-- what is read further on, after what leads there
pub states_on : (n : ℕ) (ws : List Word) (from at : ℕ) (f g : Form) (r : Result (Read Statement) Failure) → from ≤ at → Leads n n ws from at f g → States n ws at g r → States n ws from f r
states_on n ws from at f g (Ok x) le h s = ((omega (arith, s.0.0), s.0.1), λ k vs. h k vs ∙ s.1 k vs)
states_on n ws from at f g (Err e) le h s = (s.0, λ halt is k vs. h k vs ∙ s.1 halt is k vs)

-- the same, if it may be empty
pub states_on_from : (n : ℕ) (ws : List Word) (from at : ℕ) (f g : Form) (r : Result (Read Statement) Failure) → from < at → Leads n n ws from at f g → StatesFrom n ws at g r → States n ws from f r
states_on_from n ws from at f g (Ok x) lt h s = ((omega (arith, s.0.0), s.0.1), λ k vs. h k vs ∙ s.1 k vs)
states_on_from n ws from at f g (Err e) lt h s = (s.0, λ halt is k vs. h k vs ∙ s.1 halt is k vs)

-- Single steps of the machine, as the parser's functions take them.
use Rattle.std.proofs.Common.{◌≡◌, ◌<◌, ◌+◌, ℕ, Bool, true, false, ◌&&◌, List, [], ◌∷◌, drop, length, Option, Some, None, Err, refl, sym}
use Rattle.basic_tree.specs.declared.tokens.Keyword.TheVariants as keyword
use Rattle.basic_tree.specs.declared.tokens.Sign.TheVariants as sign
use Rattle.basic_tree.specs.declared.expressions.Operator.{Operator}
use Rattle.basic_tree.specs.declared.expressions.Relation.{Relation}
use Rattle.basic_tree.specs.declared.kinds.Want.{Want}
use Rattle.basic_tree.specs.declared.kinds.Want.TheVariants as want
use Rattle.basic_tree.specs.SpellingWords.{Word, Key, Punctuation}
use Rattle.basic_tree.specs.SpellingExpressions.{is_text}
use Rattle.basic_tree.specs.Trees.{Tree}
use Rattle.grammar_machine.specs.GrammarWords.{operator_of, relation_of}
use Rattle.grammar_machine.specs.MachineStack.{Exponent, Level, Symbol, Term, Values}
use Rattle.grammar_machine.specs.MachineMoves.{related}
use Rattle.grammar_machine.specs.MachineRun.{Wrong, moved, run, turn, turned}
use Rattle.basic_expr.specs.declared.signs.Prefix.TheVariants as prefix
use Rattle.basic_expr.specs.ParsedSymbols.{First, OperatorAt, PrefixAt, RelationAt, always, exponents, goes_on, is_key, is_sign, number_atom, signed_level, takes_number}

-- ---- operators

pub operator_there : (ws : List Word) (place level : ℕ) (text : Bool) (t : Word) (o : Operator) → place < length ws → drop place ws ≡ t ∷ drop (place + 1) ws → operator_of t ≡ Some o → goes_on o level text ≡ true → OperatorAt ws place level text (Some o)
unfolding run
operator_there ws place level text t o within at is goes = (within, λ n k a vs kind. rw (at, is, kind, goes) refl)

pub operator_elsewhere : (ws : List Word) (place level : ℕ) (text : Bool) (t : Word) (o : Operator) → drop place ws ≡ t ∷ drop (place + 1) ws → operator_of t ≡ Some o → goes_on o level text ≡ false → OperatorAt ws place level text None
unfolding run
operator_elsewhere ws place level text t o at is goes = λ n k a vs kind. rw (at, is, kind, goes) refl

pub no_operator : (ws : List Word) (place level : ℕ) (text : Bool) (t : Word) → drop place ws ≡ t ∷ drop (place + 1) ws → operator_of t ≡ None → OperatorAt ws place level text None
unfolding run
no_operator ws place level text t at is = λ n k a vs kind. rw (at, is) refl

pub no_word_operator : (ws : List Word) (place level : ℕ) (text : Bool) → drop place ws ≡ [] → OperatorAt ws place level text None
unfolding run
no_word_operator ws place level text at = λ n k a vs kind. rw at refl

-- ---- relations

relation_case : (ws : List Word) (place : ℕ) (t : Word) (o : Option Relation) → place < length ws → drop place ws ≡ t ∷ drop (place + 1) ws → relation_of t ≡ o → RelationAt ws place o
unfolding run
relation_case ws place t None within at is = (λ n b k a vs skips. rw (at, is) (skipped n b k a vs skips), λ n k a vs kind. rw (at, is, kind) refl) where
  skipped : (n : ℕ) (b : Bool) (k : List Symbol) (a : Tree) (vs : Values) → (b && is_text a) ≡ false → turned (moved (related None b (is_text a) (Term a ∷ vs)) n k (λ m vs'. turn k m vs' (Some t))) (t ∷ drop (place + 1) ws) (λ m vs' k'. run m (drop (place + 1) ws) k' vs') ≡ turned (turn k n (Term a ∷ vs) (Some t)) (t ∷ drop (place + 1) ws) (λ m vs' k'. run m (drop (place + 1) ws) k' vs')
  skipped n true k a vs skips = rw skips refl
  skipped n false k a vs skips = refl
relation_case ws place t (Some r) within at is = (within, λ n b k a vs. rw (at, is) refl)

pub relation_there : (ws : List Word) (place : ℕ) (t : Word) (o : Option Relation) → place < length ws → drop place ws ≡ t ∷ drop (place + 1) ws → o ≡ relation_of t → RelationAt ws place o
relation_there ws place t o within at is = relation_case ws place t o within at (sym is)

pub no_word_relation : (ws : List Word) (place : ℕ) → drop place ws ≡ [] → RelationAt ws place None
unfolding run
no_word_relation ws place at = (λ n b k a vs skips. rw at (skipped n b k a vs skips), λ n k a vs kind. rw (at, kind) refl) where
  skipped : (n : ℕ) (b : Bool) (k : List Symbol) (a : Tree) (vs : Values) → (b && is_text a) ≡ false → turned (moved (related None b (is_text a) (Term a ∷ vs)) n k (λ m vs'. turn k m vs' None)) [] (λ m vs' k'. Err (Wrong [])) ≡ turned (turn k n (Term a ∷ vs) None) [] (λ m vs' k'. Err (Wrong []))
  skipped n true k a vs skips = rw skips refl
  skipped n false k a vs skips = refl

-- ---- prefixes

pub minus_signed : (ws : List Word) (place : ℕ) → place < length ws → drop place ws ≡ Punctuation sign.Minus ∷ drop (place + 1) ws → PrefixAt takes_number (signed_level 2) (Level 2 want.Number) (signed_level 1) ws place (Some prefix.Minus)
unfolding run
minus_signed ws place within at = (within, λ n w k vs fits. rw (at, fits) refl, λ w k vs fits. rw (at, fits) refl, λ n w k vs fits. rw (at, fits) refl)

pub plus_signed : (ws : List Word) (place : ℕ) → place < length ws → drop place ws ≡ Punctuation sign.Plus ∷ drop (place + 1) ws → PrefixAt takes_number (signed_level 2) (Level 2 want.Number) (signed_level 1) ws place (Some prefix.Plus)
unfolding run
plus_signed ws place within at = (within, λ n w k vs fits. rw (at, fits) refl, λ w k vs fits. rw (at, fits) refl, λ n w k vs fits. rw (at, fits) refl)

pub minus_exponent : (ws : List Word) (place : ℕ) → place < length ws → drop place ws ≡ Punctuation sign.Minus ∷ drop (place + 1) ws → PrefixAt always exponents Exponent number_atom ws place (Some prefix.Minus)
unfolding run
minus_exponent ws place within at = (within, λ n w k vs fits. rw at refl, λ w k vs fits. rw at refl, λ n w k vs fits. absurd cc)

pub plus_exponent : (ws : List Word) (place : ℕ) → place < length ws → drop place ws ≡ Punctuation sign.Plus ∷ drop (place + 1) ws → PrefixAt always exponents Exponent number_atom ws place (Some prefix.Plus)
unfolding run
plus_exponent ws place within at = (within, λ n w k vs fits. rw at refl, λ w k vs fits. rw at refl, λ n w k vs fits. absurd cc)

pub not_negated : (ws : List Word) (place : ℕ) → place < length ws → drop place ws ≡ Key keyword.Not ∷ drop (place + 1) ws → PrefixAt takes_number (signed_level 6) (Level 6 want.Number) (signed_level 5) ws place (Some prefix.Not)
unfolding run
not_negated ws place within at = (within, λ n w k vs fits. rw (at, fits) refl, λ w k vs fits. rw (at, fits) refl, λ n w k vs fits. rw (at, fits) refl)

unsigned : (n : ℕ) (w : Want) (ts : List Word) (k : List Symbol) (vs : Values) → First (is_sign sign.Minus) ts → First (is_sign sign.Plus) ts → run n ts (Level 2 w ∷ k) vs ≡ run n ts (Level 1 w ∷ k) vs
unfolding run
unsigned n w [] k vs a b = refl
unsigned n w (Punctuation sign.Minus ∷ ts) k vs a b = absurd cc
unsigned n w (Punctuation sign.Plus ∷ ts) k vs a b = absurd cc
unsigned n w (Punctuation s ∷ ts) k vs a b = refl
unsigned n w (t ∷ ts) k vs a b = refl

pub no_sign : (ws : List Word) (place : ℕ) → First (is_sign sign.Minus) (drop place ws) → First (is_sign sign.Plus) (drop place ws) → PrefixAt takes_number (signed_level 2) (Level 2 want.Number) (signed_level 1) ws place None
no_sign ws place a b = λ n w k vs. unsigned n w (drop place ws) k vs a b

plain_exponent : (n : ℕ) (ts : List Word) (k : List Symbol) (vs : Values) → First (is_sign sign.Minus) ts → First (is_sign sign.Plus) ts → run n ts (Exponent ∷ k) vs ≡ run n ts (Level 0 want.Number ∷ k) vs
unfolding run
plain_exponent n [] k vs a b = refl
plain_exponent n (Punctuation sign.Minus ∷ ts) k vs a b = absurd cc
plain_exponent n (Punctuation sign.Plus ∷ ts) k vs a b = absurd cc
plain_exponent n (Punctuation s ∷ ts) k vs a b = refl
plain_exponent n (t ∷ ts) k vs a b = refl

pub no_exponent_sign : (ws : List Word) (place : ℕ) → First (is_sign sign.Minus) (drop place ws) → First (is_sign sign.Plus) (drop place ws) → PrefixAt always exponents Exponent number_atom ws place None
no_exponent_sign ws place a b = λ n w k vs. plain_exponent n (drop place ws) k vs a b

positive : (n : ℕ) (w : Want) (ts : List Word) (k : List Symbol) (vs : Values) → First (is_key keyword.Not) ts → run n ts (Level 6 w ∷ k) vs ≡ run n ts (Level 5 w ∷ k) vs
unfolding run
positive n w [] k vs a = refl
positive n w (Key keyword.Not ∷ ts) k vs a = absurd cc
positive n w (Key s ∷ ts) k vs a = refl
positive n w (t ∷ ts) k vs a = refl

pub no_not : (ws : List Word) (place : ℕ) → First (is_key keyword.Not) (drop place ws) → PrefixAt takes_number (signed_level 6) (Level 6 want.Number) (signed_level 5) ws place None
no_not ws place a = λ n w k vs. positive n w (drop place ws) k vs a

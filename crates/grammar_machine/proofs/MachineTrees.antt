-- The words of every expression lead the machine to its tree: one case for each production.
use Rattle.std.proofs.Common.{subst, ◌≡◌, ◌||◌, not, ℕ, suc, ◌≤◌, Bool, true, false, List, [], ◌∷◌, ◌++◌, refl, sym, ap, ◌∙◌, arith}
use Rattle.basic_tree.specs.declared.tokens.Sign.TheVariants as sign
use Rattle.basic_tree.specs.declared.expressions.Operator.{Operator}
use Rattle.basic_tree.specs.declared.expressions.Operator.TheVariants as operator
use Rattle.basic_tree.specs.declared.expressions.Relation.{Relation}
use Rattle.basic_tree.specs.declared.expressions.Relation.TheVariants as relation
use Rattle.basic_tree.specs.declared.kinds.Want.{Want}
use Rattle.basic_tree.specs.declared.kinds.Want.TheVariants as want
use Rattle.basic_tree.specs.SpellingWords.{Word, Punctuation, Plain, Closes, words}
use Rattle.basic_tree.specs.Trees.{Tree, Operation, Comparison}
use Rattle.basic_tree.specs.SpellingExpressions.{steps_of, mark, is_text, want_of, Fits, level_of, is_exponent, IsRight, IsTree}
use Rattle.basic_tree.specs.GrammarTables.{operator_level, operator_word, joins_texts, relation_sign}
use Rattle.grammar_machine.specs.MachineStack.{Term, Values, MakeOperation, MakeComparison, Symbol, Level, More, Exponent, Do}
use Rattle.grammar_machine.specs.MachineStarts.{side, relations}
use Rattle.grammar_machine.specs.MachineMoves.{right_of}
use Rattle.grammar_machine.specs.MachineRun.{run}
use Rattle.grammar_machine.proofs.MachineSteps.{First, is_opening, is_plus_or_minus, run_do}
use Rattle.grammar_machine.proofs.MachineLeads.{Follows, Parted, TreeLeads, more_at, first_at, operand, at_level, words_parts, no_sign_first}
use Rattle.grammar_machine.proofs.MachineComplete.{fits_want}

-- the words of a tree lead to it at its precedence level, and after `^`
pub record Complete (n : ℕ) (t : Tree) : Type 0 where
  pub leads : TreeLeads n (level_of t) t
  pub exponent : is_exponent t ≡ true → Fits want.Number t → (r : List Word) (k : List Symbol) (vs : Values) → Parted t r → run n (words (steps_of t) ++ r) (Exponent ∷ k) vs ≡ run n r k (Term t ∷ vs)

-- after `^` an atom is read as elsewhere
run_exponent : (n : ℕ) (ts : List Word) (k : List Symbol) (vs : Values) → First is_plus_or_minus ts → run n ts (Exponent ∷ k) vs ≡ run n ts (Level 0 want.Number ∷ k) vs
unfolding run
run_exponent n [] k vs h = refl
run_exponent n (Punctuation sign.Plus ∷ ts) k vs h = absurd cc
run_exponent n (Punctuation sign.Minus ∷ ts) k vs h = absurd cc
run_exponent n (Punctuation s ∷ ts) k vs h = refl
run_exponent n (t ∷ ts) k vs h = refl

pub atom_complete : (n : ℕ) (t : Tree) → IsTree t → level_of t ≡ 0 → TreeLeads n 0 t → Complete n t
atom_complete n t i e h = record {
  leads = subst (λ (l : ℕ). TreeLeads n l t) (sym e) h;
  exponent = λ x f r k vs p. run_exponent n (words (steps_of t) ++ r) k vs (no_sign_first t r i (omega (arith, e))) ∙ h.by want.Number r k vs f tt p;
}

-- ---- signs and NOT

-- a tree that opens a nesting level, its operand at a precedence level, and the end
pub prefixed_words : (a : Tree) (r : List Word) (n : ℕ) (k : List Symbol) (vs : Values) → run n (words (steps_of a ++ Closes ∷ []) ++ r) k vs ≡ run n (words (steps_of a) ++ r) k vs
prefixed_words a r n k vs = ap (λ ws. run n ws k vs) (words_parts (steps_of a) (Closes ∷ []) r)

-- ---- operators

chain_at : (o : Operator) (w : Want) → more_at (operator_level o) w ≡ More (operator_level o) ∷ []
chain_at operator.Power w = refl
chain_at o w = refl

first_of : (o : Operator) (w : Want) → first_at (operator_level o) w ≡ w
first_of operator.Power w = refl
first_of o w = refl

operator_follows : (o : Operator) (ts : List Word) → Follows (operator_level o) (operator_word o ∷ ts)
operator_follows operator.Power ts = (tt, refl)
operator_follows operator.Times ts = (((tt, refl), refl), refl)
operator_follows operator.Divided ts = (((tt, refl), refl), refl)
operator_follows operator.Plus ts = ((((tt, refl), refl), refl), refl)
operator_follows operator.Minus ts = ((((tt, refl), refl), refl), refl)
operator_follows operator.And ts = (((((((tt, refl), refl), refl), refl), refl), refl), refl)
operator_follows operator.Or ts = ((((((((tt, refl), refl), refl), refl), refl), refl), refl), refl)
operator_follows operator.Xor ts = (((((((((tt, refl), refl), refl), refl), refl), refl), refl), refl), refl)
operator_follows operator.Imp ts = ((((((((((tt, refl), refl), refl), refl), refl), refl), refl), refl), refl), refl)
operator_follows operator.Eqv ts = (((((((((((tt, refl), refl), refl), refl), refl), refl), refl), refl), refl), refl), refl)

no_list_opens : (o : Operator) → is_opening (operator_word o) ≡ false
no_list_opens operator.Power = refl
no_list_opens o = refl

operator_taken : (n : ℕ) (o : Operator) (a : Tree) (ts : List Word) (k : List Symbol) (vs : Values) → (not (is_text a) || joins_texts o) ≡ true → run n (operator_word o ∷ ts) (More (operator_level o) ∷ k) (Term a ∷ vs) ≡ run n ts (right_of o (is_text a) ∷ Do (MakeOperation o) ∷ More (operator_level o) ∷ k) (Term a ∷ vs)
unfolding run
operator_taken n operator.Power a ts k vs h = rw h refl
operator_taken n o a ts k vs h = rw h refl

right_at : (n l : ℕ) (b : Tree) → IsTree b → Complete n b → level_of b ≤ l → (w : Want) (r : List Word) (k : List Symbol) (vs : Values) → Fits w b → Follows (suc l) r → Parted b r → run n (words (steps_of b) ++ r) (Level l w ∷ k) vs ≡ run n r k (Term b ∷ vs)
right_at n l b i c h w r k vs f s p = operand n l b (at_level (level_of b) l n b h i (omega arith) c.leads) w r k vs f s p

right_leads : (o : Operator) (n : ℕ) (b : Tree) → IsTree b → Complete n b → IsRight o b → (x : Bool) → is_text b ≡ x → (not x || joins_texts o) ≡ true → (r : List Word) (k : List Symbol) (vs : Values) → Follows (operator_level o) r → Parted b r → run n (words (steps_of b) ++ r) (right_of o x ∷ k) vs ≡ run n r k (Term b ∷ vs)
right_leads operator.Power n b i c h true e j r k vs s p = absurd cc
right_leads operator.Power n b i c h false e j r k vs s p = c.exponent h e r k vs p
right_leads operator.Times n b i c h x e j r k vs s p = right_at n 2 b i c (omega (arith, h)) (want_of x) r k vs (fits_want x b e) s p
right_leads operator.Divided n b i c h x e j r k vs s p = right_at n 2 b i c (omega (arith, h)) (want_of x) r k vs (fits_want x b e) s p
right_leads operator.Plus n b i c h x e j r k vs s p = right_at n 3 b i c (omega (arith, h)) (want_of x) r k vs (fits_want x b e) s p
right_leads operator.Minus n b i c h x e j r k vs s p = right_at n 3 b i c (omega (arith, h)) (want_of x) r k vs (fits_want x b e) s p
right_leads operator.And n b i c h x e j r k vs s p = right_at n 6 b i c (omega (arith, h)) (want_of x) r k vs (fits_want x b e) s p
right_leads operator.Or n b i c h x e j r k vs s p = right_at n 7 b i c (omega (arith, h)) (want_of x) r k vs (fits_want x b e) s p
right_leads operator.Xor n b i c h x e j r k vs s p = right_at n 8 b i c (omega (arith, h)) (want_of x) r k vs (fits_want x b e) s p
right_leads operator.Imp n b i c h x e j r k vs s p = right_at n 9 b i c (omega (arith, h)) (want_of x) r k vs (fits_want x b e) s p
right_leads operator.Eqv n b i c h x e j r k vs s p = right_at n 10 b i c (omega (arith, h)) (want_of x) r k vs (fits_want x b e) s p

pub operation_leads : (n : ℕ) (o : Operator) (a b : Tree) → IsTree (Operation a o b) → Complete n a → Complete n b → TreeLeads n (operator_level o) (Operation a o b)
operation_leads n o a b i ca cb = record {
  by = λ w r k vs fits s p.
      let left = at_level (level_of a) (operator_level o) n a i.2 i.0 (omega arith) ca.leads in
      ap (λ ws. run n ws (Level (operator_level o) w ∷ k) vs) (words_parts (steps_of a) (Plain (operator_word o) ∷ steps_of b) r)
      ∙ left.by w (operator_word o ∷ (words (steps_of b) ++ r)) k vs (same_fits w (first_at (operator_level o) w) fits) (operator_follows o (words (steps_of b) ++ r)) (λ e. no_list_opens o)
      ∙ ap (λ ks. run n (operator_word o ∷ (words (steps_of b) ++ r)) (ks ++ k) (Term a ∷ vs)) (chain_at o w)
      ∙ operator_taken n o a (words (steps_of b) ++ r) k vs i.5
      ∙ right_leads o n b i.1 cb i.3 (is_text a) i.4 i.5 r (Do (MakeOperation o) ∷ More (operator_level o) ∷ k) (Term a ∷ vs) s p
      ∙ run_do n (MakeOperation o) r (More (operator_level o) ∷ k) (Term b ∷ Term a ∷ vs)
      ∙ ap (λ ks. run n r (ks ++ k) (Term (Operation a o b) ∷ vs)) (sym (chain_at o w));
} where
  same_fits : (w v : Want) → Fits v (Operation a o b) → Fits v a
  same_fits w want.Number f = f
  same_fits w want.Text f = f
  same_fits w want.Either f = f

-- ---- relations

relation_follows : (q : Relation) (ts : List Word) → Follows 5 (Punctuation (relation_sign q) ∷ ts)
relation_follows relation.Equal ts = (((((tt, refl), refl), refl), refl), refl)
relation_follows q ts = (((((tt, refl), refl), refl), refl), refl)

no_list_behind : (q : Relation) → is_opening (Punctuation (relation_sign q)) ≡ false
no_list_behind relation.Equal = refl
no_list_behind q = refl

any_side : (w : Want) (a b : Tree) → is_text b ≡ false → Fits (side w) b → Fits (side w) a
any_side want.Number a b e f = tt
any_side want.Text a b e f = absurd cc
any_side want.Either a b e f = tt

relation_taken : (n : ℕ) (w : Want) (q : Relation) (a b : Tree) → is_text b ≡ false → Fits (side w) b → (ts : List Word) (k : List Symbol) (vs : Values) → run n (Punctuation (relation_sign q) ∷ ts) (relations w ++ k) (Term a ∷ vs) ≡ run n ts (Level 4 (want_of (is_text a)) ∷ Do (MakeComparison q) ∷ (relations w ++ k)) (Term a ∷ vs)
unfolding run
relation_taken n want.Number relation.Equal a b e f ts k vs = refl
relation_taken n want.Number q a b e f ts k vs = refl
relation_taken n want.Text q a b e f ts k vs = absurd cc
relation_taken n want.Either relation.Equal a b e f ts k vs = refl
relation_taken n want.Either q a b e f ts k vs = refl

pub comparison_leads : (n : ℕ) (q : Relation) (a b : Tree) → IsTree (Comparison a q b) → Complete n a → Complete n b → TreeLeads n 5 (Comparison a q b)
comparison_leads n q a b i ca cb = record {
  by = λ w r k vs fits s p.
      let left = at_level (level_of a) 5 n a i.2 i.0 (omega arith) ca.leads in
      ap (λ ws. run n ws (Level 5 w ∷ k) vs) (words_parts (steps_of a) (mark (relation_sign q) ∷ steps_of b) r)
      ∙ left.by w (Punctuation (relation_sign q) ∷ (words (steps_of b) ++ r)) k vs (any_side w a (Comparison a q b) refl fits) (relation_follows q (words (steps_of b) ++ r)) (λ e. no_list_behind q)
      ∙ relation_taken n w q a (Comparison a q b) refl fits (words (steps_of b) ++ r) k vs
      ∙ right_at n 4 b i.1 cb (omega (arith, i.3)) (want_of (is_text a)) r (Do (MakeComparison q) ∷ (relations w ++ k)) (Term a ∷ vs) (fits_want (is_text a) b i.4) s p
      ∙ run_do n (MakeComparison q) r (relations w ++ k) (Term b ∷ Term a ∷ vs);
}

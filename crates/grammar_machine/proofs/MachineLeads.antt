-- The words of an expression lead the machine to its tree: from one precedence to a lower one.
use Rattle.std.proofs.Common.{subst, ◌≡◌, ◌+◌, ◌-◌, ℕ, zero, suc, ◌≤◌, Bool, true, false, List, [], ◌∷◌, ◌++◌, refl, sym, ap, ◌∙◌, append_assoc, arith}
use Rattle.basic_tree.specs.declared.expressions.Operator.{Operator}
use Rattle.basic_tree.specs.declared.expressions.Operator.TheVariants as operator
use Rattle.basic_tree.specs.declared.expressions.Function.{Function}
use Rattle.basic_tree.specs.declared.expressions.Function.TheVariants as function
use Rattle.basic_tree.specs.declared.kinds.Want.{Want}
use Rattle.basic_tree.specs.declared.kinds.Want.TheVariants as want
use Rattle.basic_tree.specs.SpellingWords.{Word, Key, LevelStep, Plain, Opens, Closes, words}
use Rattle.basic_tree.specs.Trees.{Tree, Literal, Quoted, Variable, Element, FunctionOf, Call, Parenthesized, Negative, Positive, Not, Operation, Comparison, NoTrees, AndTrees}
use Rattle.basic_tree.specs.SpellingExpressions.{steps_of, Fits, level_of, IsTree}
use Rattle.basic_tree.specs.GrammarTables.{operator_level, sign_level, not_level, function_keyword}
use Rattle.grammar_machine.specs.MachineStack.{Term, Values, Symbol, Level, More}
use Rattle.grammar_machine.specs.MachineStarts.{side, relations, Rank, Signs, Relations, Nots, Chain, rank_of}
use Rattle.grammar_machine.specs.MachineRun.{run}
use Rattle.grammar_machine.proofs.MachineBack.{RankFact, rank_fact}
use Rattle.grammar_machine.proofs.MachineSteps.{is_plus_or_minus, is_not, First, run_chain, run_relations, run_signs, run_nots, continues, NoMore, no_operator, no_relations, is_opening}

-- the first word is no operator or relation that binds more tightly
abbrev pub Follows : ℕ → List Word → Type 0
Follows zero r = Unit {0}
Follows (suc l) r = Follows l r × NoMore l r

-- the last word of a tree is a name, which a list could follow
abbrev pub ends_bare : Tree → Bool
ends_bare (Variable name) = true
ends_bare (Call name NoTrees) = true
ends_bare (Call name (AndTrees a more)) = false
ends_bare (Negative a) = ends_bare a
ends_bare (Positive a) = ends_bare a
ends_bare (Not a) = ends_bare a
ends_bare (Operation a o b) = ends_bare b
ends_bare (Comparison a r b) = ends_bare b
ends_bare other = false

-- no parenthesis follows a name
abbrev pub Parted : Tree → List Word → Type 0
Parted t r = ends_bare t ≡ true → First is_opening r

-- what is still expected after an operand of a precedence level, and which kind is expected
abbrev pub more_ranked : Rank → ℕ → Want → List Symbol
more_ranked Signs l w = []
more_ranked Relations l w = relations w
more_ranked Nots l w = []
more_ranked Chain l w = More l ∷ []

abbrev pub first_ranked : Rank → Want → Want
first_ranked Signs w = w
first_ranked Relations w = side w
first_ranked Nots w = w
first_ranked Chain w = w

abbrev pub more_at : ℕ → Want → List Symbol
more_at zero w = []
more_at (suc l) w = more_ranked (rank_of (suc l)) (suc l) w

abbrev pub first_at : ℕ → Want → Want
first_at zero w = w
first_at (suc l) w = first_ranked (rank_of (suc l)) w

-- the words of a tree lead the machine to the tree
pub record TreeLeads (n l : ℕ) (t : Tree) : Type 0 where
  pub by : (w : Want) (r : List Word) (k : List Symbol) (vs : Values) → Fits (first_at l w) t → Follows l r → Parted t r → run n (words (steps_of t) ++ r) (Level l w ∷ k) vs ≡ run n r (more_at l w ++ k) (Term t ∷ vs)

fits_side : (w : Want) (t : Tree) → Fits w t → Fits (side w) t
fits_side want.Number t f = tt
fits_side want.Text t f = f
fits_side want.Either t f = f

fits_ranked : (x : Rank) (w : Want) (t : Tree) → Fits w t → Fits (first_ranked x w) t
fits_ranked Signs w t f = f
fits_ranked Relations w t f = fits_side w t f
fits_ranked Nots w t f = f
fits_ranked Chain w t f = f

pub fits_first : (l : ℕ) (w : Want) (t : Tree) → Fits w t → Fits (first_at l w) t
fits_first zero w t f = f
fits_first (suc l) w t f = fits_ranked (rank_of (suc l)) w t f

skip_ranked : (x : Rank) (n l : ℕ) (w : Want) (r : List Word) (k : List Symbol) (t : Tree) (vs : Values) → Fits w t → First (continues x l) r → run n r (more_ranked x l w ++ k) (Term t ∷ vs) ≡ run n r k (Term t ∷ vs)
skip_ranked Signs n l w r k t vs f h = refl
skip_ranked Relations n l w r k t vs f h = no_relations n r w k t vs f (relation_first r h) where
  relation_first : (r : List Word) → First (continues Relations l) r → First (continues Relations 0) r
  relation_first [] h = tt
  relation_first (x ∷ r) h = h
skip_ranked Nots n l w r k t vs f h = refl
skip_ranked Chain n l w r k t vs f h = no_operator n l r k t vs h

-- if no more operands of a precedence level follow, what is expected of it is skipped
pub skip_more : (n l : ℕ) (w : Want) (r : List Word) (k : List Symbol) (t : Tree) (vs : Values) → Fits w t → NoMore l r → run n r (more_at l w ++ k) (Term t ∷ vs) ≡ run n r k (Term t ∷ vs)
skip_more n zero w r k t vs f h = refl
skip_more n (suc l) w r k t vs f h = skip_ranked (rank_of (suc l)) n (suc l) w r k t vs f h

-- an operand at its precedence level, as a whole
pub operand : (n l : ℕ) (t : Tree) → TreeLeads n l t → (w : Want) (r : List Word) (k : List Symbol) (vs : Values) → Fits w t → Follows (suc l) r → Parted t r → run n (words (steps_of t) ++ r) (Level l w ∷ k) vs ≡ run n r k (Term t ∷ vs)
operand n l t h w r k vs f s p = h.by w r k vs (fits_first l w t f) s.0 p ∙ skip_more n l w r k t vs f s.1

-- ---- how a tree begins

first_append : (test : Word → Bool) (a b r : List Word) → ((q : List Word) → First test (a ++ q)) → First test (a ++ (b ++ r))
first_append test a b r h = h (b ++ r)

pub words_append : (a b : List LevelStep) → words (a ++ b) ≡ words a ++ words b
words_append [] b = refl
words_append (Plain w ∷ a) b = ap (λ x. w ∷ x) (words_append a b)
words_append (Opens w ∷ a) b = ap (λ x. w ∷ x) (words_append a b)
words_append (Closes ∷ a) b = words_append a b

-- the words of two parts, and what follows
pub words_parts : (a b : List LevelStep) (r : List Word) → words (a ++ b) ++ r ≡ words a ++ (words b ++ r)
words_parts a b r = ap (λ x. x ++ r) (words_append a b) ∙ append_assoc (words a) (words b) r

operator_loose : (o : Operator) → operator_level o ≤ 1 → o ≡ operator.Power
operator_loose operator.Power h = refl
operator_loose o h = absurd (omega (arith, h))

-- a tree that is not a sign and binds more tightly does not begin with a sign
pub no_sign_first : (t : Tree) (r : List Word) → IsTree t → level_of t ≤ 1 → First is_plus_or_minus (words (steps_of t) ++ r)
no_sign_first (Negative a) r i h = absurd (omega (arith, h))
no_sign_first (Positive a) r i h = absurd (omega (arith, h))
no_sign_first (Not a) r i h = absurd (omega (arith, h))
no_sign_first (Operation a o b) r i h = subst (λ x. First is_plus_or_minus x) (sym (words_parts (steps_of a) (Plain _ ∷ steps_of b) r)) (no_sign_first a _ i.0 (omega (arith, h, i.2)))
no_sign_first (Comparison a o b) r i h = absurd (omega (arith, h))
no_sign_first t r i h = refl

function_is_no_not : (f : Function) → is_not (Key (function_keyword f)) ≡ false
function_is_no_not function.Len = refl
function_is_no_not f = refl

-- a tree that is not a NOT and binds more tightly does not begin with NOT
pub no_not_first : (t : Tree) (r : List Word) → IsTree t → level_of t ≤ 5 → First is_not (words (steps_of t) ++ r)
no_not_first (Literal n) r i h = refl
no_not_first (Quoted text) r i h = refl
no_not_first (Variable name) r i h = refl
no_not_first (Element name ts) r i h = refl
no_not_first (FunctionOf f ts) r i h = function_is_no_not f
no_not_first (Call name ts) r i h = refl
no_not_first (Parenthesized a) r i h = refl
no_not_first (Negative a) r i h = refl
no_not_first (Positive a) r i h = refl
no_not_first (Not a) r i h = absurd (omega (arith, h))
no_not_first (Operation a o b) r i h = subst (λ x. First is_not x) (sym (words_parts (steps_of a) (Plain _ ∷ steps_of b) r)) (no_not_first a _ i.0 (omega (arith, h, i.2)))
no_not_first (Comparison a o b) r i h = subst (λ x. First is_not x) (sym (words_parts (steps_of a) (Plain _ ∷ steps_of b) r)) (no_not_first a _ i.0 (omega (arith, h, i.2)))

-- ---- from one precedence to a lower one

-- as TreeLeads, at the precedence level after l, whose rank is x
abbrev RankedLeads : Rank → ℕ → ℕ → Tree → Type 0
RankedLeads x n l t = (w : Want) (r : List Word) (k : List Symbol) (vs : Values) → Fits (first_ranked x w) t → Follows (suc l) r → Parted t r → run n (words (steps_of t) ++ r) (Level (suc l) w ∷ k) vs ≡ run n r (more_ranked x (suc l) w ++ k) (Term t ∷ vs)

raise_ranked : (x : Rank) (n l : ℕ) (t : Tree) → rank_of (suc l) ≡ x → IsTree t → level_of t ≤ l → TreeLeads n l t → RankedLeads x n l t
raise_ranked Signs n l t e i h d = λ w r k vs f s p. run_signs n l w (words (steps_of t) ++ r) k vs e (no_sign_first t r i (at_sign l e h)) ∙ operand n l t d w r k vs f s p where
  at_sign : (l : ℕ) → rank_of (suc l) ≡ Signs → level_of t ≤ l → level_of t ≤ 1
  at_sign l e h =
      let two : suc l ≡ sign_level = subst (λ x. RankFact x (suc l)) e (rank_fact (suc l)) in
      omega (arith, two, h)
raise_ranked Relations n l t e i h d = λ w r k vs f s p. run_relations n l w (words (steps_of t) ++ r) k vs e ∙ operand n l t d (side w) r (relations w ++ k) vs f s p
raise_ranked Nots n l t e i h d = λ w r k vs f s p. run_nots n l w (words (steps_of t) ++ r) k vs e (no_not_first t r i (at_not l e h)) ∙ operand n l t d w r k vs f s p where
  at_not : (l : ℕ) → rank_of (suc l) ≡ Nots → level_of t ≤ l → level_of t ≤ 5
  at_not l e h =
      let six : suc l ≡ not_level = subst (λ x. RankFact x (suc l)) e (rank_fact (suc l)) in
      omega (arith, six, h)
raise_ranked Chain n l t e i h d = λ w r k vs f s p. run_chain n l w (words (steps_of t) ++ r) k vs e ∙ operand n l t d w r (More (suc l) ∷ k) vs f s p

pub raise_leads : (n l : ℕ) (t : Tree) → IsTree t → level_of t ≤ l → TreeLeads n l t → TreeLeads n (suc l) t
raise_leads n l t i h d = record { by = raise_ranked (rank_of (suc l)) n l t refl i h d }

-- to any lower precedence
to_level : (d l m : ℕ) (n : ℕ) (t : Tree) → m ≡ d + l → IsTree t → level_of t ≤ l → TreeLeads n l t → TreeLeads n m t
to_level zero l m n t e i h x = subst (λ (y : ℕ). TreeLeads n y t) (sym (e ∙ omega arith)) x
to_level (suc d) l m n t e i h x =
    let same : suc (d + l) ≡ m = omega (arith, e) in
    subst (λ (y : ℕ). TreeLeads n y t) same (raise_leads n (d + l) t i (omega (arith, h)) (to_level d l (d + l) n t refl i h x))

pub at_level : (l m : ℕ) (n : ℕ) (t : Tree) → l ≤ m → IsTree t → level_of t ≤ l → TreeLeads n l t → TreeLeads n m t
at_level l m n t le i h x = to_level (m - l) l m n t (omega (arith, le)) i h x

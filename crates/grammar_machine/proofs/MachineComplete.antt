-- The words of every expression lead the machine to its tree.
use Rattle.std.proofs.Common.{◌≡◌, ℕ, zero, suc, max, ◌≤◌, Bool, true, false, List, [], ◌∷◌, ◌++◌, Some, refl, sym, ap, ◌∙◌, arith}
use Rattle.std.specs.Prelude.{nat_lt}
use Rattle.basic_tree.specs.declared.tokens.Sign.TheVariants as sign
use Rattle.basic_tree.specs.declared.expressions.Operator.{Operator}
use Rattle.basic_tree.specs.declared.expressions.Operator.TheVariants as operator
use Rattle.basic_tree.specs.declared.expressions.Function.{Function}
use Rattle.basic_tree.specs.declared.expressions.Function.TheVariants as function
use Rattle.basic_tree.specs.declared.kinds.Want.{Want}
use Rattle.basic_tree.specs.declared.kinds.Want.TheVariants as want
use Rattle.basic_tree.specs.SpellingWords.{Word, Punctuation, words}
use Rattle.basic_tree.specs.Trees.{Tree, Literal, Quoted, Variable, Element, FunctionOf, Call, Parenthesized, Negative, Positive, Not, Operation, Comparison, Trees, NoTrees, AndTrees}
use Rattle.basic_tree.specs.SpellingExpressions.{steps_of, list_steps, more_steps, is_text, want_of, Fits, level_of, Fill, AreSubscripts, IsTree, AreTrees}
use Rattle.basic_tree.specs.GrammarTables.{operator_level, function_keyword}
use Rattle.grammar_machine.specs.GrammarWords.{function_of}
use Rattle.grammar_machine.specs.MachineStack.{Term, Several, Values, with_last, Collect, MakeFunction, Symbol, Level, Expect, Close, Do, SecondSubscript, MoreArguments, loosest}
use Rattle.grammar_machine.specs.MachineStarts.{takes, more_expected, arguments_expected}
use Rattle.grammar_machine.specs.MachineRun.{run}
use Rattle.grammar_machine.proofs.MachineSpelled.{joined_trees}
use Rattle.grammar_machine.proofs.MachineBack.{joined-with_last}
use Rattle.grammar_machine.proofs.MachineMoves.{joined-nil}
use Rattle.grammar_machine.proofs.MachineSteps.{run_do, run_close}
use Rattle.grammar_machine.proofs.MachineLeads.{Follows, Parted, TreeLeads, operand, at_level, words_parts}

-- the levels of nesting in a tree, and in a list
abbrev mutual
  pub depth_of : Tree → ℕ
  depth_of (Literal n) = 0
  depth_of (Quoted text) = 0
  depth_of (Variable name) = 0
  depth_of (Element name ts) = opened ts
  depth_of (FunctionOf f ts) = opened ts
  depth_of (Call name ts) = opened ts
  depth_of (Parenthesized a) = suc (depth_of a)
  depth_of (Negative a) = suc (depth_of a)
  depth_of (Positive a) = suc (depth_of a)
  depth_of (Not a) = suc (depth_of a)
  depth_of (Operation a o b) = max (depth_of a) (depth_of b)
  depth_of (Comparison a r b) = max (depth_of a) (depth_of b)

  pub opened : Trees → ℕ
  opened NoTrees = 0
  opened (AndTrees a more) = suc (max (depth_of a) (list_depth more))

  pub list_depth : Trees → ℕ
  list_depth NoTrees = 0
  list_depth (AndTrees a more) = max (depth_of a) (list_depth more)

-- ---- a whole expression

operator_within : (o : Operator) → operator_level o ≤ 11
operator_within operator.Power = omega arith
operator_within o = omega arith

level_within : (t : Tree) → level_of t ≤ 11
level_within (Negative a) = omega arith
level_within (Positive a) = omega arith
level_within (Not a) = omega arith
level_within (Operation a o b) = operator_within o
level_within (Comparison a r b) = omega arith
level_within t = omega arith

pub whole : (n : ℕ) (t : Tree) → IsTree t → TreeLeads n (level_of t) t → (w : Want) (r : List Word) (k : List Symbol) (vs : Values) → Fits w t → Follows 12 r → Parted t r → run n (words (steps_of t) ++ r) (Level loosest w ∷ k) vs ≡ run n r k (Term t ∷ vs)
whole n t i x w r k vs f s p = operand n 11 t (at_level (level_of t) 11 n t (level_within t) i (omega arith) x) w r k vs f s p

-- ---- lists

pub closing_follows : (r : List Word) → Follows 12 (Punctuation sign.Closing ∷ r)
closing_follows r = ((((((((((((tt, refl), refl), refl), refl), refl), refl), refl), refl), refl), refl), refl), refl)

comma_follows : (r : List Word) → Follows 12 (Punctuation sign.Comma ∷ r)
comma_follows r = ((((((((((((tt, refl), refl), refl), refl), refl), refl), refl), refl), refl), refl), refl), refl)

more_follows : (more : Trees) (r : List Word) → Follows 12 (words (more_steps more) ++ r)
more_follows NoTrees r = closing_follows r
more_follows (AndTrees a more) r = comma_follows (words (steps_of a ++ more_steps more) ++ r)

more_parted : (t : Tree) (more : Trees) (r : List Word) → Parted t (words (more_steps more) ++ r)
more_parted t NoTrees r = λ e. refl
more_parted t (AndTrees a more) r = λ e. refl

abbrev pub AllLead : ℕ → Trees → Type 0
AllLead n NoTrees = Unit {0}
AllLead n (AndTrees a more) = TreeLeads n (level_of a) a × AllLead n more

-- an expression of a list, up to what follows it
pub one_of_list : (n : ℕ) (a : Tree) (more : Trees) → IsTree a → TreeLeads n (level_of a) a → (w : Want) (r : List Word) (k : List Symbol) (vs : Values) → Fits w a → run n (words (steps_of a ++ more_steps more) ++ r) (Level loosest w ∷ k) vs ≡ run n (words (more_steps more) ++ r) k (Term a ∷ vs)
one_of_list n a more i x w r k vs f =
    ap (λ ws. run n ws (Level loosest w ∷ k) vs) (words_parts (steps_of a) (more_steps more) r)
    ∙ whole n a i x w (words (more_steps more) ++ r) k vs f (more_follows more r) (more_parted a more r)

pub closing_taken : (n : ℕ) (r : List Word) (k : List Symbol) (vs : Values) → run n (Punctuation sign.Closing ∷ r) (Expect sign.Closing ∷ Close ∷ k) vs ≡ run (suc n) r k vs
unfolding run
closing_taken n r k vs = run_close n r k vs

more_leads : (more : Trees) (n : ℕ) → AreTrees more → AllLead n more → (ws : List Want) → Fill ws more → (f : Function) (acc : Trees) (r : List Word) (k : List Symbol) (vs : Values) → run n (words (more_steps more) ++ r) (more_expected ws ++ Do (MakeFunction f) ∷ k) (Several acc ∷ vs) ≡ run (suc n) r k (Term (FunctionOf f (joined_trees acc more)) ∷ vs)
unfolding run
more_leads NoTrees n i x [] h f acc r k vs = closing_taken n r (Do (MakeFunction f) ∷ k) (Several acc ∷ vs) ∙ run_do (suc n) (MakeFunction f) r k (Several acc ∷ vs) ∙ ap (λ z. run (suc n) r k (Term (FunctionOf f z) ∷ vs)) (sym (joined-nil acc))
more_leads NoTrees n i x (w ∷ ws) h f acc r k vs = absurd h
more_leads (AndTrees a more) n i x [] h f acc r k vs = absurd h
more_leads (AndTrees a more) n i x (w ∷ ws) h f acc r k vs =
    one_of_list n a more i.0 x.0 w r (Do Collect ∷ (more_expected ws ++ Do (MakeFunction f) ∷ k)) (Several acc ∷ vs) h.0
    ∙ run_do n Collect (words (more_steps more) ++ r) (more_expected ws ++ Do (MakeFunction f) ∷ k) (Term a ∷ Several acc ∷ vs)
    ∙ more_leads more n i.1 x.1 ws h.1 f (with_last acc a) r k vs
    ∙ ap (λ z. run (suc n) r k (Term (FunctionOf f z) ∷ vs)) (joined-with_last acc a more)

-- the arguments of a function
pub arguments_lead : (ts : Trees) (n : ℕ) → AreTrees ts → opened ts ≤ n → ((m : ℕ) → list_depth ts ≤ m → AllLead m ts) → (ws : List Want) → Fill ws ts → (f : Function) (r : List Word) (k : List Symbol) (vs : Values) → run n (words (list_steps ts) ++ r) (arguments_expected ws ++ Do (MakeFunction f) ∷ k) (Several NoTrees ∷ vs) ≡ run n r k (Term (FunctionOf f ts) ∷ vs)
unfolding run
arguments_lead NoTrees n i d x [] h f r k vs = run_do n (MakeFunction f) r k (Several NoTrees ∷ vs)
arguments_lead NoTrees n i d x (w ∷ ws) h f r k vs = absurd h
arguments_lead (AndTrees a more) n i d x [] h f r k vs = absurd h
arguments_lead (AndTrees a more) zero i d x (w ∷ ws) h f r k vs = absurd (omega (arith, d))
arguments_lead (AndTrees a more) (suc n) i d x (w ∷ ws) h f r k vs =
    one_of_list n a more i.0 (x n (omega (arith, d))).0 w r (Do Collect ∷ (more_expected ws ++ Do (MakeFunction f) ∷ k)) (Several NoTrees ∷ vs) h.0
    ∙ run_do n Collect (words (more_steps more) ++ r) (more_expected ws ++ Do (MakeFunction f) ∷ k) (Term a ∷ Several NoTrees ∷ vs)
    ∙ more_leads more n i.1 (x n (omega (arith, d))).1 ws h.1 f (AndTrees a NoTrees) r k vs

-- subscripts, after their parenthesis
pub subscripts_lead : (a : Tree) (more : Trees) (n : ℕ) → IsTree a → AreTrees more → TreeLeads n (level_of a) a → AllLead n more → AreSubscripts (AndTrees a more) → (k : List Symbol) (vs : Values) (r : List Word) → run n (words (steps_of a ++ more_steps more) ++ r) (Level loosest want.Number ∷ Do Collect ∷ SecondSubscript ∷ Expect sign.Closing ∷ Close ∷ k) (Several NoTrees ∷ vs) ≡ run (suc n) r k (Several (AndTrees a more) ∷ vs)
unfolding run
subscripts_lead a NoTrees n i is x xs h k vs r =
    one_of_list n a NoTrees i x want.Number r (Do Collect ∷ SecondSubscript ∷ Expect sign.Closing ∷ Close ∷ k) (Several NoTrees ∷ vs) h
    ∙ run_do n Collect (Punctuation sign.Closing ∷ r) (SecondSubscript ∷ Expect sign.Closing ∷ Close ∷ k) (Term a ∷ Several NoTrees ∷ vs)
    ∙ closing_taken n r k (Several (AndTrees a NoTrees) ∷ vs)
subscripts_lead a (AndTrees b NoTrees) n i is x xs h k vs r =
    one_of_list n a (AndTrees b NoTrees) i x want.Number r (Do Collect ∷ SecondSubscript ∷ Expect sign.Closing ∷ Close ∷ k) (Several NoTrees ∷ vs) h.0
    ∙ run_do n Collect (words (more_steps (AndTrees b NoTrees)) ++ r) (SecondSubscript ∷ Expect sign.Closing ∷ Close ∷ k) (Term a ∷ Several NoTrees ∷ vs)
    ∙ one_of_list n b NoTrees is.0 xs.0 want.Number r (Do Collect ∷ Expect sign.Closing ∷ Close ∷ k) (Several (AndTrees a NoTrees) ∷ vs) h.1.0
    ∙ run_do n Collect (Punctuation sign.Closing ∷ r) (Expect sign.Closing ∷ Close ∷ k) (Term b ∷ Several (AndTrees a NoTrees) ∷ vs)
    ∙ closing_taken n r k (Several (AndTrees a (AndTrees b NoTrees)) ∷ vs)
subscripts_lead a (AndTrees b (AndTrees c more)) n i is x xs h k vs r = absurd h.1.1

-- more arguments of a function of the program
pub more_arguments_lead : (more : Trees) (n : ℕ) → AreTrees more → AllLead n more → (acc : Trees) (k : List Symbol) (vs : Values) (r : List Word) → run n (words (more_steps more) ++ r) (MoreArguments ∷ Expect sign.Closing ∷ Close ∷ k) (Several acc ∷ vs) ≡ run (suc n) r k (Several (joined_trees acc more) ∷ vs)
unfolding run
more_arguments_lead NoTrees n i x acc k vs r = closing_taken n r k (Several acc ∷ vs) ∙ ap (λ z. run (suc n) r k (Several z ∷ vs)) (sym (joined-nil acc))
more_arguments_lead (AndTrees a more) n i x acc k vs r =
    one_of_list n a more i.0 x.0 want.Either r (Do Collect ∷ MoreArguments ∷ Expect sign.Closing ∷ Close ∷ k) (Several acc ∷ vs) tt
    ∙ run_do n Collect (words (more_steps more) ++ r) (MoreArguments ∷ Expect sign.Closing ∷ Close ∷ k) (Term a ∷ Several acc ∷ vs)
    ∙ more_arguments_lead more n i.1 x.1 (with_last acc a) k vs r
    ∙ ap (λ z. run (suc n) r k (Several z ∷ vs)) (joined-with_last acc a more)

-- ---- kinds

pub takes_kind : (w : Want) (x : Bool) (t : Tree) → is_text t ≡ x → Fits w t → takes w x ≡ true
takes_kind want.Number x t e f = rw (sym e ∙ f) refl
takes_kind want.Text x t e f = sym e ∙ f
takes_kind want.Either x t e f = refl

pub fits_want : (x : Bool) (t : Tree) → is_text t ≡ x → Fits (want_of x) t
fits_want true t e = e
fits_want false t e = e

pub small : (n : ℕ) → n ≤ 32767 → nat_lt n 32768 ≡ true
small n h = grind (arith, h)

pub known_function : (f : Function) → function_of (function_keyword f) ≡ Some f
known_function function.Len = refl
known_function f = refl

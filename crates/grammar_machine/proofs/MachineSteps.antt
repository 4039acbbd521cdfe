-- Single steps of the machine: how a precedence level begins as a higher one does, and what is
-- skipped.
use Rattle.std.proofs.Common.{◌==◌, ◌≡◌, ℕ, suc, Bool, true, false, List, [], ◌∷◌, ◌++◌, Option, Some, None, refl, ap, ◌∙◌, append_assoc}
use Rattle.basic_tree.specs.declared.names.Name.{Name}
use Rattle.basic_tree.specs.declared.tokens.Keyword.TheVariants as keyword
use Rattle.basic_tree.specs.declared.tokens.Sign.TheVariants as sign
use Rattle.basic_tree.specs.declared.expressions.Operator.{Operator}
use Rattle.basic_tree.specs.declared.expressions.Relation.{Relation}
use Rattle.basic_tree.specs.declared.kinds.Want.{Want}
use Rattle.basic_tree.specs.declared.kinds.Want.TheVariants as want
use Rattle.basic_tree.specs.SpellingWords.{Word, Key, Punctuation}
use Rattle.basic_tree.specs.Trees.{Tree, Variable, Call, NoTrees}
use Rattle.basic_tree.specs.SpellingExpressions.{is_text, Fits}
use Rattle.basic_tree.specs.GrammarTables.{operator_level}
use Rattle.grammar_machine.specs.GrammarWords.{operator_of, relation_of}
use Rattle.grammar_machine.specs.MachineStack.{Term, Values, made, others, Action, Symbol, Level, More, MoreRelations, Close, Do, Subscripts, Arguments}
use Rattle.grammar_machine.specs.MachineStarts.{Start, behind, side, relations, Rank, Signs, Relations, Nots, Chain, rank_of, ranked, start}
use Rattle.grammar_machine.specs.MachineMoves.{Skips, begun, more_of, no_relation, related}
use Rattle.grammar_machine.specs.MachineRun.{Turn, moved, turn, turned, run}

-- ---- how a precedence level begins

moved_behind : (s : Option Start) (n : ℕ) (more k : List Symbol) (f g : ℕ → Values → Turn) → moved (begun (behind more s)) n k f ≡ moved (begun s) n (more ++ k) g
moved_behind None n more k f g = refl
moved_behind (Some s) n more k f g = rw append_assoc refl

run_turned : (t : Word) (ts : List Word) (x y : Turn) → x ≡ y → turned x (t ∷ ts) (λ m vs' k'. run m ts k' vs') ≡ turned y (t ∷ ts) (λ m vs' k'. run m ts k' vs')
run_turned t ts x y e = ap (λ (z : Turn). turned z (t ∷ ts) (λ m vs' k'. run m ts k' vs')) e

-- the first word is no sign, or no NOT
abbrev pub is_plus_or_minus : Word → Bool
is_plus_or_minus (Punctuation sign.Plus) = true
is_plus_or_minus (Punctuation sign.Minus) = true
is_plus_or_minus other = false

abbrev pub is_not : Word → Bool
is_not (Key keyword.Not) = true
is_not other = false

abbrev pub First : (Word → Bool) → List Word → Type 0
First test [] = Unit {0}
First test (t ∷ ts) = test t ≡ false

pub run_chain : (n l : ℕ) (w : Want) (ts : List Word) (k : List Symbol) (vs : Values) → rank_of (suc l) ≡ Chain → run n ts (Level (suc l) w ∷ k) vs ≡ run n ts (Level l w ∷ More (suc l) ∷ k) vs
unfolding run
run_chain n l w [] k vs e = refl
run_chain n l w (t ∷ ts) k vs e =
    run_turned t ts _ _ (ap (λ r. moved (begun (ranked r (suc l) w vs t (λ v. start l v vs t))) n k (λ m vs'. turn k m vs' (Some t))) e ∙ moved_behind (start l w vs t) n (More (suc l) ∷ []) k (λ m vs'. turn k m vs' (Some t)) (λ m vs'. turn (More (suc l) ∷ k) m vs' (Some t)))

pub run_relations : (n l : ℕ) (w : Want) (ts : List Word) (k : List Symbol) (vs : Values) → rank_of (suc l) ≡ Relations → run n ts (Level (suc l) w ∷ k) vs ≡ run n ts (Level l (side w) ∷ (relations w ++ k)) vs
unfolding run
run_relations n l w [] k vs e = refl
run_relations n l w (t ∷ ts) k vs e =
    run_turned t ts _ _ (ap (λ r. moved (begun (ranked r (suc l) w vs t (λ v. start l v vs t))) n k (λ m vs'. turn k m vs' (Some t))) e ∙ moved_behind (start l (side w) vs t) n (relations w) k (λ m vs'. turn k m vs' (Some t)) (λ m vs'. turn (relations w ++ k) m vs' (Some t)))

pub run_signs : (n l : ℕ) (w : Want) (ts : List Word) (k : List Symbol) (vs : Values) → rank_of (suc l) ≡ Signs → First is_plus_or_minus ts → run n ts (Level (suc l) w ∷ k) vs ≡ run n ts (Level l w ∷ k) vs
unfolding run
run_signs n l w [] k vs e h = refl
run_signs n l w (t ∷ ts) k vs e h =
    run_turned t ts _ _ (ap (λ r. moved (begun (ranked r (suc l) w vs t (λ v. start l v vs t))) n k (λ m vs'. turn k m vs' (Some t))) e ∙ go t h) where
      go : (t : Word) → is_plus_or_minus t ≡ false → moved (begun (ranked Signs (suc l) w vs t (λ v. start l v vs t))) n k (λ m vs'. turn k m vs' (Some t)) ≡ moved (begun (start l w vs t)) n k (λ m vs'. turn k m vs' (Some t))
      go (Punctuation sign.Plus) h = absurd cc
      go (Punctuation sign.Minus) h = absurd cc
      go (Punctuation s) h = refl
      go t h = refl

pub run_nots : (n l : ℕ) (w : Want) (ts : List Word) (k : List Symbol) (vs : Values) → rank_of (suc l) ≡ Nots → First is_not ts → run n ts (Level (suc l) w ∷ k) vs ≡ run n ts (Level l w ∷ k) vs
unfolding run
run_nots n l w [] k vs e h = refl
run_nots n l w (t ∷ ts) k vs e h =
    run_turned t ts _ _ (ap (λ r. moved (begun (ranked r (suc l) w vs t (λ v. start l v vs t))) n k (λ m vs'. turn k m vs' (Some t))) e ∙ go t h) where
      go : (t : Word) → is_not t ≡ false → moved (begun (ranked Nots (suc l) w vs t (λ v. start l v vs t))) n k (λ m vs'. turn k m vs' (Some t)) ≡ moved (begun (start l w vs t)) n k (λ m vs'. turn k m vs' (Some t))
      go (Key keyword.Not) h = absurd cc
      go (Key s) h = refl
      go t h = refl

-- ---- what needs no word

pub run_do : (n : ℕ) (a : Action) (ts : List Word) (k : List Symbol) (vs : Values) → run n ts (Do a ∷ k) vs ≡ run n ts k (made a vs ∷ others a vs)
unfolding run
run_do n a [] k vs = refl
run_do n a (t ∷ ts) k vs = refl

pub run_close : (n : ℕ) (ts : List Word) (k : List Symbol) (vs : Values) → run n ts (Close ∷ k) vs ≡ run (suc n) ts k vs
unfolding run
run_close n [] k vs = refl
run_close n (t ∷ ts) k vs = refl

-- ---- if no more of a precedence level follows

abbrev pub is_operator_at : ℕ → Option Operator → Bool
is_operator_at l None = false
is_operator_at l (Some o) = operator_level o == l

abbrev pub is_relation : Option Relation → Bool
is_relation None = false
is_relation (Some r) = true

abbrev pub continues : Rank → ℕ → Word → Bool
continues Signs l t = false
continues Relations l t = is_relation (relation_of t)
continues Nots l t = false
continues Chain l t = is_operator_at l (operator_of t)

abbrev pub NoMore : ℕ → List Word → Type 0
NoMore l ts = First (continues (rank_of l) l) ts

pub no_operator : (n l : ℕ) (ts : List Word) (k : List Symbol) (a : Tree) (vs : Values) → First (continues Chain l) ts → run n ts (More l ∷ k) (Term a ∷ vs) ≡ run n ts k (Term a ∷ vs)
unfolding run
no_operator n l [] k a vs h = refl
no_operator n l (t ∷ ts) k a vs h = go (operator_of t) h where
  go : (o : Option Operator) → is_operator_at l o ≡ false → turned (moved (more_of l o (is_text a) (Term a ∷ vs)) n k (λ m vs'. turn k m vs' (Some t))) (t ∷ ts) (λ m vs' k'. run m ts k' vs') ≡ turned (turn k n (Term a ∷ vs) (Some t)) (t ∷ ts) (λ m vs' k'. run m ts k' vs')
  go None h = refl
  go (Some o) h = rw h refl

skips_relation : (n : ℕ) (ts : List Word) (b : Bool) (k : List Symbol) (a : Tree) (vs : Values) → no_relation b (is_text a) (Term a ∷ vs) ≡ Skips (Term a ∷ vs) → First (continues Relations 0) ts → run n ts (MoreRelations b ∷ k) (Term a ∷ vs) ≡ run n ts k (Term a ∷ vs)
unfolding run
skips_relation n [] b k a vs e h = rw e refl
skips_relation n (t ∷ ts) b k a vs e h = go (relation_of t) h where
  go : (o : Option Relation) → is_relation o ≡ false → turned (moved (related o b (is_text a) (Term a ∷ vs)) n k (λ m vs'. turn k m vs' (Some t))) (t ∷ ts) (λ m vs' k'. run m ts k' vs') ≡ turned (turn k n (Term a ∷ vs) (Some t)) (t ∷ ts) (λ m vs' k'. run m ts k' vs')
  go None h = rw e refl
  go (Some r) h = absurd cc

pub no_relations : (n : ℕ) (ts : List Word) (w : Want) (k : List Symbol) (a : Tree) (vs : Values) → Fits w a → First (continues Relations 0) ts → run n ts (relations w ++ k) (Term a ∷ vs) ≡ run n ts k (Term a ∷ vs)
no_relations n ts want.Number k a vs fits h = skips_relation n ts true k a vs (rw fits refl) h
no_relations n ts want.Text k a vs fits h = refl
no_relations n ts want.Either k a vs fits h = skips_relation n ts false k a vs refl h

-- no list opens after a name
abbrev pub is_opening : Word → Bool
is_opening (Punctuation sign.Opening) = true
is_opening other = false

pub no_subscripts : (n : ℕ) (ts : List Word) (name : Name) (k : List Symbol) (vs : Values) → First is_opening ts → run n ts (Subscripts name ∷ k) vs ≡ run n ts k (Term (Variable name) ∷ vs)
unfolding run
no_subscripts n [] name k vs h = refl
no_subscripts n (Punctuation sign.Opening ∷ ts) name k vs h = absurd cc
no_subscripts n (Punctuation s ∷ ts) name k vs h = refl
no_subscripts n (t ∷ ts) name k vs h = refl

pub no_arguments : (n : ℕ) (ts : List Word) (name : Name) (k : List Symbol) (vs : Values) → First is_opening ts → run n ts (Arguments name ∷ k) vs ≡ run n ts k (Term (Call name NoTrees) ∷ vs)
unfolding run
no_arguments n [] name k vs h = refl
no_arguments n (Punctuation sign.Opening ∷ ts) name k vs h = absurd cc
no_arguments n (Punctuation s ∷ ts) name k vs h = refl
no_arguments n (t ∷ ts) name k vs h = refl

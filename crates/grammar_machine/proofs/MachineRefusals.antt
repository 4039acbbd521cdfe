-- Words that are rejected because of what follows them are not an expression.
use Rattle.std.proofs.Common.{subst, ◌&&◌, ◌||◌, ◌==◌, not, ◌≡◌, ℕ, zero, suc, ◌+◌, Bool, true, false, List, [], ◌∷◌, ◌++◌, length, Option, Some, None, Ok, Err, refl, ap, arith, length-append}
use Rattle.basic_tree.specs.declared.tokens.Sign.TheVariants as sign
use Rattle.basic_tree.specs.declared.expressions.Operator.{Operator}
use Rattle.basic_tree.specs.declared.expressions.Relation.{Relation}
use Rattle.basic_tree.specs.SpellingWords.{Word, Punctuation, most_levels}
use Rattle.basic_tree.specs.SpellingExpressions.{is_text}
use Rattle.basic_tree.specs.GrammarTables.{operator_level, joins_texts}
use Rattle.grammar_machine.specs.GrammarWords.{operator_of, relation_of}
use Rattle.grammar_machine.specs.MachineStack.{Values, top, kept, Symbol}
use Rattle.grammar_machine.specs.MachineMoves.{MachineMove, Shifts, Skips, Closes, Refuses, joined, more_of, no_relation, related, move}
use Rattle.grammar_machine.specs.MachineRun.{Turn, Next, Ended, Stuck, Deep, entered, moved, turn, Wrong, turned, run}
use Rattle.grammar_machine.proofs.MachinePasses.{left, left_short, Further, turn_more}
use Rattle.grammar_machine.proofs.MachineStops.{TakesWhole}
use Rattle.grammar_machine.proofs.ExpressionSymbols.{InExpressions, ALevel, AMore, AMoreRelations, AnExponent, AnExpect, AnOpening, AClose, ADo, ASubscripts, ASecondSubscript, AnArguments, AMoreArguments, AllInExpressions, TurnsIn, turn_in}

-- ---- a symbol that is done at the end of the words is also done before a word, or takes the word

abbrev GoesOn : MachineMove → MachineMove → Type 0
GoesOn (Shifts opens a b) y = Unit {0}
GoesOn (Skips a) (Shifts opens b d) = Unit {0}
GoesOn (Skips a) (Skips b) = b ≡ a
GoesOn (Skips a) (Closes b) = ⊥
GoesOn (Skips a) Refuses = ⊥
GoesOn (Closes a) y = y ≡ Closes a
GoesOn Refuses y = Unit {0}

joined_goes : (b : Bool) (l : ℕ) (o : Operator) (x : Bool) (vs : Values) → GoesOn (Skips (kept vs)) (joined b l o x vs)
joined_goes true l o x vs = tt
joined_goes false l o x vs = refl

more_goes : (l : ℕ) (o : Option Operator) (x : Bool) (vs : Values) → GoesOn (Skips (kept vs)) (more_of l o x vs)
more_goes l None x vs = refl
more_goes l (Some o) x vs = joined_goes (operator_level o == l && (not x || joins_texts o)) l o x vs

relations_go : (o : Option Relation) (b x : Bool) (vs : Values) → GoesOn (no_relation b x vs) (related o b x vs)
relations_go None true true vs = tt
relations_go None true false vs = refl
relations_go None false x vs = refl
relations_go (Some r) true true vs = tt
relations_go (Some r) true false vs = tt
relations_go (Some r) false x vs = tt

goes_on : {s : Symbol} → InExpressions s → (vs : Values) (c : Word) → GoesOn (move s vs None) (move s vs (Some c))
goes_on (ALevel l w) vs c = tt
goes_on (AMore l) vs c = more_goes l (operator_of c) (is_text (top vs)) vs
goes_on (AMoreRelations b) vs c = relations_go (relation_of c) b (is_text (top vs)) vs
goes_on AnExponent vs c = tt
goes_on (AnExpect s) vs c = tt
goes_on AnOpening vs c = tt
goes_on AClose vs c = refl
goes_on (ADo a) vs c = refl
goes_on (ASubscripts name) vs (Punctuation sign.Opening) = tt
goes_on (ASubscripts name) vs c = refl
goes_on ASecondSubscript vs (Punctuation sign.Comma) = tt
goes_on ASecondSubscript vs c = refl
goes_on (AnArguments name) vs (Punctuation sign.Opening) = tt
goes_on (AnArguments name) vs c = refl
goes_on AMoreArguments vs (Punctuation sign.Comma) = tt
goes_on AMoreArguments vs c = refl

-- ---- the same for a stack

entered_not_stuck : (b : Bool) (n : ℕ) (vs : Values) (k : List Symbol) → entered b n vs k ≡ Stuck → ⊥
entered_not_stuck false n vs k h = cc
entered_not_stuck true zero vs k h = cc
entered_not_stuck true (suc n) vs k h = cc

entered_not_ended : (b : Bool) (n : ℕ) (vs u : Values) (k : List Symbol) → entered b n vs k ≡ Ended u → ⊥
entered_not_ended false n vs u k h = cc
entered_not_ended true zero vs u k h = cc
entered_not_ended true (suc n) vs u k h = cc

ends_not_stuck : (k : List Symbol) → AllInExpressions k → (n d : ℕ) (vs u : Values) (c : Word) → turn k (n + d) vs None ≡ Ended u → turn k n vs (Some c) ≡ Stuck → ⊥
ends_not_stuck [] i n d vs u c e h = cc
ends_not_stuck (s ∷ k) i n d vs u c e h = go (move s vs None) (move s vs (Some c)) (goes_on i.0 vs c) e h (λ m a. ends_not_stuck k i.1 m d a u c) where
  go : (a b : MachineMove) → GoesOn a b → moved a (n + d) k (λ m vs'. turn k m vs' None) ≡ Ended u → moved b n k (λ m vs'. turn k m vs' (Some c)) ≡ Stuck → ((m : ℕ) (a : Values) → turn k (m + d) a None ≡ Ended u → turn k m a (Some c) ≡ Stuck → ⊥) → ⊥
  go (Shifts o a b) y g e h on = entered_not_ended o (n + d) a u (b ++ k) e
  go Refuses y g e h on = cc
  go (Skips a) (Shifts o b w) g e h on = entered_not_stuck o n b (w ++ k) h
  go (Skips a) (Skips b) g e h on = on n a e (subst (λ (x : Values). turn k n x (Some c) ≡ Stuck) g h)
  go (Skips a) (Closes b) g e h on = absurd g
  go (Skips a) Refuses g e h on = absurd g
  go (Closes a) y g e h on =
      let same : suc (n + d) ≡ suc n + d = omega arith in
      on (suc n) a (subst (λ (i : ℕ). turn k i a None ≡ Ended u) same e) (subst (λ z. moved z n k (λ m vs'. turn k m vs' (Some c)) ≡ Stuck) g h)

-- ---- the machine

refused_here : (r : List Word) (n d : ℕ) (k : List Symbol) (vs u : Values) → AllInExpressions k → run n r k vs ≡ Err (Wrong r) → run (n + d) [] k vs ≡ Ok (u, []) → ⊥
unfolding run
refused_here [] n d k vs u i h g = go (turn k n vs None) (turn_more k n d vs None) h g where
  go : (x : Turn) → Further d x (turn k (n + d) vs None) → turned x [] (λ m vs' k'. Err (Wrong [])) ≡ Err (Wrong []) → turned (turn k (n + d) vs None) [] (λ m vs' k'. Err (Wrong [])) ≡ Ok (u, []) → ⊥
  go (Next m a b) y l g = let bad : turned (Next (m + d) a b) [] (λ m vs' k'. Err (Wrong [])) ≡ Ok (u, []) = rw y at g in cc
  go (Ended v) y l g = cc
  go Stuck y l g = let bad : turned Stuck [] (λ m vs' k'. Err (Wrong [])) ≡ Ok (u, []) = rw y at g in cc
  go Deep y l g = cc
refused_here (c ∷ r) n d k vs u i h g = go (turn k (n + d) vs None) refl g (turn k n vs (Some c)) refl h where
  go : (x : Turn) → turn k (n + d) vs None ≡ x → turned x [] (λ m vs' k'. Err (Wrong [])) ≡ Ok (u, []) → (y : Turn) → turn k n vs (Some c) ≡ y → turned y (c ∷ r) (λ m vs' k'. run m r k' vs') ≡ Err (Wrong (c ∷ r)) → ⊥
  go (Next m a b) e g y f h = cc
  go Stuck e g y f h = cc
  go Deep e g y f h = cc
  go (Ended v) e g (Next m a b) f h = omega (arith, ap (λ o. length (left o)) h, left_short r m b a)
  go (Ended v) e g (Ended w) f h = cc
  go (Ended v) e g Deep f h = cc
  go (Ended v) e g Stuck f h = ends_not_stuck k i n d vs v c e f

refused_behind : (p r : List Word) (n d : ℕ) (k : List Symbol) (vs u : Values) → AllInExpressions k → run n (p ++ r) k vs ≡ Err (Wrong r) → run (n + d) p k vs ≡ Ok (u, []) → ⊥
unfolding run
refused_behind [] r n d k vs u i h g = refused_here r n d k vs u i h g
refused_behind (t ∷ p) r n d k vs u i h g = go (turn k n vs (Some t)) (turn_more k n d vs (Some t)) (turn_in k n vs t i) h g (λ m a b. refused_behind p r m d b a u) where
  go : (x : Turn) → Further d x (turn k (n + d) vs (Some t)) → TurnsIn x → turned x (t ∷ (p ++ r)) (λ m vs' k'. run m (p ++ r) k' vs') ≡ Err (Wrong r) → turned (turn k (n + d) vs (Some t)) (t ∷ p) (λ m vs' k'. run m p k' vs') ≡ Ok (u, []) → ((m : ℕ) (a : Values) (b : List Symbol) → AllInExpressions b → run m (p ++ r) b a ≡ Err (Wrong r) → run (m + d) p b a ≡ Ok (u, []) → ⊥) → ⊥
  go (Next m a b) y i h g on = let more : turned (Next (m + d) a b) (t ∷ p) (λ m vs' k'. run m p k' vs') ≡ Ok (u, []) = rw y at g in on m a b i h more
  go (Ended v) y i h g on = cc
  go Stuck y i h g on = omega (arith, ap (λ o. length (left o)) h, length-append p r)
  go Deep y i h g on = cc

-- words after which the machine rejects the next word are no whole
pub none_there : (whole : List Word → Type 0) (k : List Symbol) (vs : Values) → AllInExpressions k → TakesWhole whole k vs → (p r : List Word) → run most_levels (p ++ r) k vs ≡ Err (Wrong r) → whole p → ⊥
none_there whole k vs i takes p r h x = let t = takes p x in refused_behind p r most_levels t.0 k vs t.1 i h t.2

-- What each move of the machine's symbols, and a turn of its whole stack, took is spelled so.
use Rattle.std.proofs.Common.{subst, ◌&&◌, ◌||◌, ◌==◌, not, ◌≡◌, ℕ, ◌≤◌, Bool, true, false, cond, List, [], ◌∷◌, ◌++◌, Option, Some, None, refl, sym, ap, ◌∙◌, append_assoc, arith}
use Rattle.std.proofs.lemmas.Bool.{eqb-true}
use Rattle.basic_tree.specs.declared.names.Name.{Name}
use Rattle.basic_tree.specs.declared.tokens.Sign.{Sign}
use Rattle.basic_tree.specs.declared.tokens.Sign.TheVariants as sign
use Rattle.basic_tree.specs.declared.expressions.Operator.{Operator}
use Rattle.basic_tree.specs.declared.expressions.Operator.TheVariants as operator
use Rattle.basic_tree.specs.declared.expressions.Relation.{Relation}
use Rattle.basic_tree.specs.declared.kinds.Want.{Want}
use Rattle.basic_tree.specs.declared.kinds.Want.TheVariants as want
use Rattle.basic_tree.specs.SpellingWords.{Word, Punctuation, LevelStep, Plain, Opens, Closes}
use Rattle.basic_tree.specs.Trees.{Tree, Variable, Element, Call, Negative, Positive, Not, Operation, Comparison, Trees, NoTrees, AndTrees}
use Rattle.basic_tree.specs.SpellingExpressions.{mark, steps_of, more_steps, is_text, Fits, want_of, level_of, is_exponent, IsRight, AreSubscripts, IsTree}
use Rattle.basic_tree.specs.GrammarTables.{sign_level, relation_level, operator_level, operator_word, joins_texts, relation_sign}
use Rattle.grammar_machine.specs.GrammarWords.{operator_of, relation_of, is_same_sign}
use Rattle.grammar_machine.specs.MachineStack.{Term, Several, Values, top, several, below, kept, kept_several, made, others, Action, MakeOperation, MakeComparison, Symbol, Level, More, MoreRelations, Exponent, Expect, Opening, Close, Do, Subscripts, SecondSubscript, Arguments, MoreArguments, Go, Await, AwaitClause, Modifiers, OneStatement, MoreStatements, with_last}
use Rattle.grammar_machine.proofs.SentenceBack.{go_back, await_back, await_clause_back, modifiers_back, one_statement_back, more_statements_back}
use Rattle.grammar_machine.specs.MachineStarts.{Start, atom, signed, start}
use Rattle.grammar_machine.specs.MachineMoves.{Shifts, Skips, Refuses, begun, right_of, joined, more_of, no_relation, related, expect, open_list, subscripts, second_subscript, arguments, more_arguments, move}
use Rattle.grammar_machine.specs.MachineMoves.{Closes as Ends}
use Rattle.grammar_machine.proofs.MachineSpelled.{IsSecond, joined_trees, Spelled, as_is}
pub use Rattle.grammar_machine.proofs.MachineBack.{MoveBack}
use Rattle.grammar_machine.proofs.FormWords.{signs_equal}
use Rattle.grammar_machine.proofs.MachineBack.{TakesBack, StartBack, joined-with_last, start_back, atom_back, operator_back, relation_back}

begun_back : (l : ℕ) (w : Want) (vs : Values) (t : Word) (s : Option Start) → StartBack l w vs t s → MoveBack (Level l w) vs (Some t) (begun s)
begun_back l w vs t None h = tt
begun_back l w vs t (Some s) h = h

-- ---- operators

want_fits : (x : Bool) (a : Tree) → Fits (want_of x) a → is_text a ≡ x
want_fits true a f = f
want_fits false a f = f

-- the right operand of an operator
abbrev Right : Operator → Bool → List Symbol → Values → List LevelStep → Values → Type 0
Right o x k vs q u = (b : Tree) × (r : List LevelStep) × (q ≡ steps_of b ++ r) × IsTree b × IsRight o b × Fits (want_of x) b × Spelled k (Term b ∷ vs) r u

right_back : (o : Operator) (x : Bool) → (not x || joins_texts o) ≡ true → (k : List Symbol) (vs : Values) (q : List LevelStep) (u : Values) → Spelled (right_of o x ∷ k) vs q u → Right o x k vs q u
right_back operator.Power false a k vs q u h = (h.0, h.1, h.2, h.3, h.4, h.5, h.6)
right_back operator.Power true a k vs q u h = absurd cc
right_back o x a k vs q u h = (h.0, h.1, h.2, h.3.tree, omega (arith, h.3.within), h.3.kind, h.4)

chain_skip : (l : ℕ) (o : Option Word) (vs : Values) → MoveBack (More l) vs o (Skips (kept vs))
chain_skip l None vs = λ k q u h. (top vs, [], q, refl, as_is l (top vs), refl, h)
chain_skip l (Some t) vs = λ k q u h. (top vs, [], q, refl, as_is l (top vs), refl, h)

joined_true : (l : ℕ) (o : Operator) (vs : Values) → operator_level o ≡ l → (not (is_text (top vs)) || joins_texts o) ≡ true → TakesBack false (More l) vs vs (operator_word o) (right_of o (is_text (top vs)) ∷ Do (MakeOperation o) ∷ More l ∷ [])
joined_true l o vs e allowed = λ k q u h.
    let b = right_back o (is_text (top vs)) allowed (Do (MakeOperation o) ∷ More l ∷ k) vs q u h in
    let m = b.6 in (
      m.0,
      Plain (operator_word o) ∷ (steps_of b.0 ++ m.1),
      m.2,
      ap (λ x. Plain (operator_word o) ∷ x) (b.2 ∙ ap (λ x. steps_of b.0 ++ x) m.3 ∙ sym (append_assoc (steps_of b.0) m.1 m.2)),
      record {
        spelled = m.4.spelled ∙ append_assoc (steps_of (top vs)) (Plain (operator_word o) ∷ steps_of b.0) m.1;
        tree = λ i w. m.4.tree (i, b.3, omega (arith, w, e), b.4, want_fits (is_text (top vs)) b.0 b.5, allowed) (omega (arith, e));
        within = λ w. m.4.within (omega (arith, e));
      },
      m.5,
      m.6,
    )

both_true : (a b : Bool) → (a && b) ≡ true → (a ≡ true) × (b ≡ true)
both_true true b h = (refl, h)
both_true false b h = absurd cc

joined_back : (l : ℕ) (t : Word) (o : Operator) (vs : Values) (b : Bool) → (operator_level o == l && (not (is_text (top vs)) || joins_texts o)) ≡ b → operator_of t ≡ Some o → MoveBack (More l) vs (Some t) (joined b l o (is_text (top vs)) vs)
joined_back l t o vs false e f = chain_skip l (Some t) vs
joined_back l t o vs true e f =
    let b = both_true (operator_level o == l) (not (is_text (top vs)) || joins_texts o) e in
    subst (λ x. TakesBack false (More l) vs vs x (right_of o (is_text (top vs)) ∷ Do (MakeOperation o) ∷ More l ∷ [])) (operator_back t o f) (joined_true l o vs (eqb-true (operator_level o) l b.0) b.1)

more_back : (l : ℕ) (t : Word) (vs : Values) (o : Option Operator) → operator_of t ≡ o → MoveBack (More l) vs (Some t) (more_of l o (is_text (top vs)) vs)
more_back l t vs None f = chain_skip l (Some t) vs
more_back l t vs (Some o) f = joined_back l t o vs (operator_level o == l && (not (is_text (top vs)) || joins_texts o)) refl f

-- ---- relations

relations_skip : (o : Option Word) (b : Bool) (x : Bool) (vs : Values) → is_text (top vs) ≡ x → MoveBack (MoreRelations b) vs o (no_relation b x vs)
relations_skip None true false vs e = λ k q u h. (top vs, [], q, refl, as_is relation_level (top vs), e, h)
relations_skip None true true vs e = tt
relations_skip None false x vs e = λ k q u h. (top vs, [], q, refl, as_is relation_level (top vs), tt, h)
relations_skip (Some t) true false vs e = λ k q u h. (top vs, [], q, refl, as_is relation_level (top vs), e, h)
relations_skip (Some t) true true vs e = tt
relations_skip (Some t) false x vs e = λ k q u h. (top vs, [], q, refl, as_is relation_level (top vs), tt, h)

related_true : (b : Bool) (r : Relation) (vs : Values) → TakesBack false (MoreRelations b) vs vs (Punctuation (relation_sign r)) (Level 4 (want_of (is_text (top vs))) ∷ Do (MakeComparison r) ∷ MoreRelations b ∷ [])
related_true b r vs = λ k q u h.
    let m = h.4 in (
      m.0,
      mark (relation_sign r) ∷ (steps_of h.0 ++ m.1),
      m.2,
      ap (λ x. mark (relation_sign r) ∷ x) (h.2 ∙ ap (λ x. steps_of h.0 ++ x) m.3 ∙ sym (append_assoc (steps_of h.0) m.1 m.2)),
      record {
        spelled = m.4.spelled ∙ append_assoc (steps_of (top vs)) (mark (relation_sign r) ∷ steps_of h.0) m.1;
        tree = λ i w. m.4.tree (i, h.3.tree, w, omega (arith, h.3.within), want_fits (is_text (top vs)) h.0 h.3.kind) (omega arith);
        within = λ w. m.4.within (omega arith);
      },
      m.5,
      m.6,
    )

related_back : (t : Word) (b : Bool) (vs : Values) (o : Option Relation) → relation_of t ≡ o → MoveBack (MoreRelations b) vs (Some t) (related o b (is_text (top vs)) vs)
related_back t b vs None f = relations_skip (Some t) b (is_text (top vs)) vs refl
related_back t b vs (Some r) f = subst (λ x. TakesBack false (MoreRelations b) vs vs x (Level 4 (want_of (is_text (top vs))) ∷ Do (MakeComparison r) ∷ MoreRelations b ∷ [])) (relation_back t r f) (related_true b r vs)

-- ---- after `^`

exponent_level : (t : Tree) → is_exponent t ≡ true → level_of t ≤ sign_level
exponent_level (Not a) h = absurd cc
exponent_level (Operation a o b) h = absurd cc
exponent_level (Comparison a r b) h = absurd cc
exponent_level t h = omega arith

operator_is_no_atom : (o : Operator) → operator_level o ≤ 0 → ⊥
operator_is_no_atom operator.Power h = omega (arith, h)
operator_is_no_atom o h = omega (arith, h)

atom_exponent : (t : Tree) → level_of t ≤ 0 → is_exponent t ≡ true
atom_exponent (Negative a) h = absurd (omega (arith, h))
atom_exponent (Positive a) h = absurd (omega (arith, h))
atom_exponent (Not a) h = absurd (omega (arith, h))
atom_exponent (Operation a o b) h = absurd (operator_is_no_atom o h)
atom_exponent (Comparison a r b) h = absurd (omega (arith, h))
atom_exponent t h = refl

exponent_atom : (vs : Values) (t : Word) (s : Option Start) → StartBack 0 want.Number vs t s → MoveBack Exponent vs (Some t) (begun s)
exponent_atom vs t None h = tt
exponent_atom vs t (Some s) h = λ k q u r. let g = h k q u r in (g.0, g.1, g.2, g.3.tree, atom_exponent g.0 g.3.within, g.3.kind, g.4)

exponent_back : (vs : Values) (t : Word) → MoveBack Exponent vs (Some t) (begun (signed want.Number vs Exponent t (atom want.Number vs t)))
exponent_back vs (Punctuation sign.Minus) = λ k q u h.
    let c = h.6 in
    (Negative h.0, c.0, ap (λ x. Opens (Punctuation sign.Minus) ∷ x) (h.2 ∙ ap (λ x. steps_of h.0 ++ x) c.1 ∙ sym (append_assoc (steps_of h.0) (Closes ∷ []) c.0)), (h.3, exponent_level h.0 h.4, h.5), h.4, refl, c.2)
exponent_back vs (Punctuation sign.Plus) = λ k q u h.
    let c = h.6 in
    (Positive h.0, c.0, ap (λ x. Opens (Punctuation sign.Plus) ∷ x) (h.2 ∙ ap (λ x. steps_of h.0 ++ x) c.1 ∙ sym (append_assoc (steps_of h.0) (Closes ∷ []) c.0)), (h.3, exponent_level h.0 h.4, h.5), h.4, refl, c.2)
exponent_back vs (Punctuation other) = exponent_atom vs (Punctuation other) (atom want.Number vs (Punctuation other)) (atom_back want.Number vs (Punctuation other))
exponent_back vs other = exponent_atom vs other (atom want.Number vs other) (atom_back want.Number vs other)

-- ---- signs, and the ends of nesting levels

sign_back : (s t : Sign) (vs : Values) (b : Bool) → is_same_sign s t ≡ b → MoveBack (Expect s) vs (Some (Punctuation t)) (cond b (Shifts false vs []) Refuses)
sign_back s t vs true e = λ k q u h. (q, ap (λ x. mark x ∷ q) (sym (signs_equal s t e)), h)
sign_back s t vs false e = tt

expect_back : (s : Sign) (vs : Values) (o : Option Word) → MoveBack (Expect s) vs o (expect s vs o)
expect_back s vs (Some (Punctuation t)) = sign_back s t vs (is_same_sign s t) refl
expect_back s vs (Some other) = tt
expect_back s vs None = tt

opening_back : (vs : Values) (o : Option Word) → MoveBack Opening vs o (open_list vs o)
opening_back vs (Some (Punctuation sign.Opening)) = λ k q u h. (q, refl, h)
opening_back vs (Some (Punctuation other)) = tt
opening_back vs (Some other) = tt
opening_back vs None = tt

-- ---- lists

pub joined-nil : (ts : Trees) → joined_trees ts NoTrees ≡ ts
joined-nil NoTrees = refl
joined-nil (AndTrees a ts) = ap (λ x. AndTrees a x) (joined-nil ts)

closed_list : (g r r2 r3 r4 : List LevelStep) (more : Trees) → r ≡ g ++ r2 → r2 ≡ mark sign.Closing ∷ r3 → r3 ≡ Closes ∷ r4 → more_steps more ≡ g ++ mark sign.Closing ∷ Closes ∷ [] → r ≡ more_steps more ++ r4
closed_list g r r2 r3 r4 more e1 e2 e3 e4 = e1 ∙ ap (λ x. g ++ x) (e2 ∙ ap (λ x. mark sign.Closing ∷ x) e3) ∙ sym (append_assoc g (mark sign.Closing ∷ Closes ∷ []) r4) ∙ ap (λ x. x ++ r4) (sym e4)

are_subscripts : (a : Tree) (more : Trees) → Fits want.Number a → IsSecond more → AreSubscripts (AndTrees a more)
are_subscripts a NoTrees f s = f
are_subscripts a (AndTrees b NoTrees) f s = (f, (s, tt))
are_subscripts a (AndTrees b (AndTrees c more)) f s = absurd s

name_skip : (name : Name) (vs : Values) (o : Option Word) → MoveBack (Subscripts name) vs o (Skips (Term (Variable name) ∷ vs))
name_skip name vs None = λ k q u h. (Variable name, [], q, refl, record { spelled = refl; tree = tt; level = refl; kind = refl; exponent = refl }, h)
name_skip name vs (Some t) = λ k q u h. (Variable name, [], q, refl, record { spelled = refl; tree = tt; level = refl; kind = refl; exponent = refl }, h)

subscripts_back : (name : Name) (vs : Values) (o : Option Word) → MoveBack (Subscripts name) vs o (subscripts name vs o)
subscripts_back name vs (Some (Punctuation sign.Opening)) = λ k q u h.
    let m = h.4 in
    let c = m.6 in
    let d = c.2 in
    (Element name (AndTrees h.0 m.0), Opens (Punctuation sign.Opening) ∷ (steps_of h.0 ++ more_steps m.0), d.0, ap (λ x. Opens (Punctuation sign.Opening) ∷ x) (h.2 ∙ ap (λ x. steps_of h.0 ++ x) (closed_list m.1 h.1 m.2 c.0 d.0 m.0 m.3 c.1 d.1 m.4.spelled) ∙ sym (append_assoc (steps_of h.0) (more_steps m.0) d.0)), record { spelled = refl; tree = ((h.3.tree, m.4.trees), are_subscripts h.0 m.0 h.3.kind m.5); level = refl; kind = refl; exponent = refl }, d.2)
subscripts_back name vs (Some (Punctuation other)) = name_skip name vs (Some (Punctuation other))
subscripts_back name vs (Some other) = name_skip name vs (Some other)
subscripts_back name vs None = name_skip name vs None

second_skip : (vs : Values) (o : Option Word) → MoveBack SecondSubscript vs o (Skips (kept_several vs))
second_skip vs None = λ k q u h. (NoTrees, [], q, refl, record { spelled = refl; trees = tt }, tt, subst (λ x. Spelled k (Several x ∷ below vs) q u) (sym (joined-nil (several vs))) h)
second_skip vs (Some t) = λ k q u h. (NoTrees, [], q, refl, record { spelled = refl; trees = tt }, tt, subst (λ x. Spelled k (Several x ∷ below vs) q u) (sym (joined-nil (several vs))) h)

second_back : (vs : Values) (o : Option Word) → MoveBack SecondSubscript vs o (second_subscript vs o)
second_back vs (Some (Punctuation sign.Comma)) = λ k q u h.
    (AndTrees h.0 NoTrees, mark sign.Comma ∷ steps_of h.0, h.1, ap (λ x. mark sign.Comma ∷ x) h.2, record { spelled = refl; trees = (h.3.tree, tt) }, h.3.kind, subst (λ x. Spelled k (Several x ∷ below vs) h.1 u) (sym (joined-nil (with_last (several vs) h.0)) ∙ joined-with_last (several vs) h.0 NoTrees) h.4)
second_back vs (Some (Punctuation other)) = second_skip vs (Some (Punctuation other))
second_back vs (Some other) = second_skip vs (Some other)
second_back vs None = second_skip vs None

call_skip : (name : Name) (vs : Values) (o : Option Word) → MoveBack (Arguments name) vs o (Skips (Term (Call name NoTrees) ∷ vs))
call_skip name vs None = λ k q u h. (Call name NoTrees, [], q, refl, record { spelled = refl; tree = tt; level = refl; kind = refl; exponent = refl }, h)
call_skip name vs (Some t) = λ k q u h. (Call name NoTrees, [], q, refl, record { spelled = refl; tree = tt; level = refl; kind = refl; exponent = refl }, h)

arguments_back : (name : Name) (vs : Values) (o : Option Word) → MoveBack (Arguments name) vs o (arguments name vs o)
arguments_back name vs (Some (Punctuation sign.Opening)) = λ k q u h.
    let m = h.4 in
    let c = m.5 in
    let d = c.2 in
    (Call name (AndTrees h.0 m.0), Opens (Punctuation sign.Opening) ∷ (steps_of h.0 ++ more_steps m.0), d.0, ap (λ x. Opens (Punctuation sign.Opening) ∷ x) (h.2 ∙ ap (λ x. steps_of h.0 ++ x) (closed_list m.1 h.1 m.2 c.0 d.0 m.0 m.3 c.1 d.1 m.4.spelled) ∙ sym (append_assoc (steps_of h.0) (more_steps m.0) d.0)), record { spelled = refl; tree = (h.3.tree, m.4.trees); level = refl; kind = refl; exponent = refl }, d.2)
arguments_back name vs (Some (Punctuation other)) = call_skip name vs (Some (Punctuation other))
arguments_back name vs (Some other) = call_skip name vs (Some other)
arguments_back name vs None = call_skip name vs None

more_skip : (vs : Values) (o : Option Word) → MoveBack MoreArguments vs o (Skips (kept_several vs))
more_skip vs None = λ k q u h. (NoTrees, [], q, refl, record { spelled = refl; trees = tt }, subst (λ x. Spelled k (Several x ∷ below vs) q u) (sym (joined-nil (several vs))) h)
more_skip vs (Some t) = λ k q u h. (NoTrees, [], q, refl, record { spelled = refl; trees = tt }, subst (λ x. Spelled k (Several x ∷ below vs) q u) (sym (joined-nil (several vs))) h)

more_arguments_back : (vs : Values) (o : Option Word) → MoveBack MoreArguments vs o (more_arguments vs o)
more_arguments_back vs (Some (Punctuation sign.Comma)) = λ k q u h.
    let m = h.4 in
    (AndTrees h.0 m.0, mark sign.Comma ∷ (steps_of h.0 ++ m.1), m.2, ap (λ x. mark sign.Comma ∷ x) (h.2 ∙ ap (λ x. steps_of h.0 ++ x) m.3 ∙ sym (append_assoc (steps_of h.0) m.1 m.2)), record { spelled = ap (λ x. mark sign.Comma ∷ x) (ap (λ x. steps_of h.0 ++ x) m.4.spelled ∙ sym (append_assoc (steps_of h.0) m.1 (mark sign.Closing ∷ Closes ∷ []))); trees = (h.3.tree, m.4.trees) }, subst (λ x. Spelled k (Several x ∷ below vs) m.2 u) (joined-with_last (several vs) h.0 m.0) m.5)
more_arguments_back vs (Some (Punctuation other)) = more_skip vs (Some (Punctuation other))
more_arguments_back vs (Some other) = more_skip vs (Some other)
more_arguments_back vs None = more_skip vs None

-- ---- every move

acted_back : (a : Action) (o : Option Word) (vs : Values) → MoveBack (Do a) vs o (Skips (made a vs ∷ others a vs))
acted_back a None vs = λ k q u h. h
acted_back a (Some t) vs = λ k q u h. h

close_back : (o : Option Word) (vs : Values) → MoveBack Close vs o (Ends vs)
close_back None vs = λ k q u h. (q, refl, h)
close_back (Some t) vs = λ k q u h. (q, refl, h)

pub move_back : (s : Symbol) (vs : Values) (o : Option Word) → MoveBack s vs o (move s vs o)
move_back (Level l w) vs None = tt
move_back (Level l w) vs (Some t) = begun_back l w vs t (start l w vs t) (start_back l w vs t)
move_back (More l) vs None = chain_skip l None vs
move_back (More l) vs (Some t) = more_back l t vs (operator_of t) refl
move_back (MoreRelations b) vs None = relations_skip None b (is_text (top vs)) vs refl
move_back (MoreRelations b) vs (Some t) = related_back t b vs (relation_of t) refl
move_back Exponent vs None = tt
move_back Exponent vs (Some t) = exponent_back vs t
move_back (Expect s) vs o = expect_back s vs o
move_back Opening vs o = opening_back vs o
move_back Close vs o = close_back o vs
move_back (Do a) vs o = acted_back a o vs
move_back (Subscripts name) vs o = subscripts_back name vs o
move_back SecondSubscript vs o = second_back vs o
move_back (Arguments name) vs o = arguments_back name vs o
move_back MoreArguments vs o = more_arguments_back vs o
move_back (Go f) vs o = go_back f vs o
move_back (Await g) vs o = await_back g vs o
move_back (AwaitClause g) vs o = await_clause_back g vs o
move_back Modifiers vs o = modifiers_back vs o
move_back OneStatement vs o = one_statement_back vs o
move_back MoreStatements vs o = more_statements_back vs o

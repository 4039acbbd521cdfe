-- What the moves of statements, clauses, modifiers and lines took, their symbols spell.
use Rattle.std.proofs.Common.{subst, ◌≡◌, not, ◌||◌, ℕ, Bool, true, false, cond, List, [], ◌∷◌, ◌++◌, Option, Some, None, refl, sym, ap, ◌∙◌, append_assoc}
use Rattle.std.proofs.lemmas.List.{append-nil}
use Rattle.basic_tree.specs.declared.tokens.Sign.TheVariants as sign
use Rattle.basic_tree.specs.SpellingWords.{Word, Punctuation, Number, LevelStep, Plain, Closes}
use Rattle.basic_tree.specs.Trees.{Tree, ModifierTree, ClauseTree, LineClause, StatementClause, StatementTree, IfThen, IfGoto, Modified}
use Rattle.basic_tree.specs.SpellingExpressions.{mark}
use Rattle.basic_tree.specs.SpellingPieces.{each, pieces_steps, ArePieces}
use Rattle.basic_tree.specs.SpellingStatements.{is_if, is_head, closings, pieces_of, statement_pieces}
use Rattle.basic_tree.specs.SpellingParts.{modifier}
use Rattle.grammar_machine.specs.MachineStack.{Value, Stated, Modifying, Parsed, Values, top, stated, parsed, below, kept_stated, kept_parsed, with_statement, LineNumber, within, Form, ClauseIn, AddStatement, Modify, Symbol, Close, Do, Go, Await, AwaitClause, Modifiers, OneStatement, MoreStatements}
use Rattle.grammar_machine.specs.MachineSentences.{Class, Choice, Head, Simple, Sentence, sentence_of, modifier_of}
use Rattle.grammar_machine.specs.MachineMoves.{MachineMove, Shifts, Skips, Refuses, then_also, no_clause, behind_clause, clause_sentence, clause_move, form_move_with, form_move, behind_class, statement_move, one_statement, modified, modifiers, more_statements}
use Rattle.grammar_machine.specs.MachineMoves.{Closes as Ends}
use Rattle.grammar_machine.proofs.MachineReads.{taken, Reads, modifiers_steps, AreModifiers, modified_by, place_pieces, separated}
use Rattle.grammar_machine.proofs.FormLeads.{Says, Modifies}
use Rattle.grammar_machine.proofs.MachineSpelled.{Spelled}
use Rattle.grammar_machine.proofs.MachineBack.{TakesBack, MoveBack}
use Rattle.grammar_machine.proofs.FormBack.{sign_back}
use Rattle.grammar_machine.proofs.ListBack.{form_back}
use Rattle.grammar_machine.proofs.PieceLists.{steps_append, pieces_append}
use Rattle.grammar_machine.proofs.SoundSentences.{sentence_sound, modifier_sound}

-- ---- what follows a form

-- what a form and the symbols after it spell, another symbol spells
pub then_back : (s : Symbol) (f : Form) (more : List Symbol) (vs : Values) (t : Word) → ((k : List Symbol) (q : List LevelStep) (u : Values) → Spelled (Go f ∷ (more ++ k)) vs q u → Spelled (s ∷ k) vs q u) → (m : MachineMove) → MoveBack (Go f) vs (Some t) m → MoveBack s vs (Some t) (then_also more m)
then_back s f more vs t sub (Shifts b vs' ns) back = λ k q u h. sub k (taken b t ∷ q) u (back (more ++ k) q u (subst (λ x. Spelled x vs' q u) (append_assoc ns more k) h))
then_back s f more vs t sub (Skips vs') back = tt
then_back s f more vs t sub (Ends vs') back = tt
then_back s f more vs t sub Refuses back = tt

-- ---- a statement with its modifiers

pub modified_simple : (s : StatementTree) (ms : List ModifierTree) → (is_if s ≡ false) × (is_head s ≡ false) → (is_if (modified_by s ms) ≡ false) × (is_head (modified_by s ms) ≡ false)
modified_simple s [] h = h
modified_simple s (m ∷ ms) h = modified_simple (Modified s m) ms (refl, refl)

none_of_both : (a b : Bool) → a ≡ false → b ≡ false → not (a || b) ≡ true
none_of_both false false e f = refl
none_of_both true b e f = absurd cc
none_of_both false true e f = absurd cc

pub modified_pieces : (s : StatementTree) (ms : List ModifierTree) → (is_if s ≡ false) × (is_head s ≡ false) → ArePieces (pieces_of s) → ArePieces (closings s) → AreModifiers ms → ArePieces (statement_pieces (modified_by s ms))
modified_pieces s [] h i c a = pieces_append (pieces_of s) (closings s) i c
modified_pieces s (m ∷ ms) h i c a = modified_pieces (Modified s m) ms (refl, refl) (none_of_both (is_if s) (is_head s) h.0 h.1, pieces_append (pieces_of s) (modifier m) i a.0) (tt, c) a.1

pub modified_steps : (s : StatementTree) (ms : List ModifierTree) → pieces_steps (statement_pieces (modified_by s ms)) ≡ pieces_steps (pieces_of s) ++ (modifiers_steps ms ++ pieces_steps (closings s))
modified_steps s [] = steps_append (pieces_of s) (closings s)
modified_steps s (m ∷ ms) =
    modified_steps (Modified s m) ms
    ∙ ap (λ x. x ++ (modifiers_steps ms ++ Closes ∷ pieces_steps (closings s))) (steps_append (pieces_of s) (modifier m))
    ∙ append_assoc (pieces_steps (pieces_of s)) (pieces_steps (modifier m)) (modifiers_steps ms ++ Closes ∷ pieces_steps (closings s))
    ∙ ap (λ x. pieces_steps (pieces_of s) ++ x) (ap (λ x. pieces_steps (modifier m) ++ x) (sym (append_assoc (modifiers_steps ms) (Closes ∷ []) (pieces_steps (closings s)))) ∙ sym (append_assoc (pieces_steps (modifier m)) (modifiers_steps ms ++ Closes ∷ []) (pieces_steps (closings s))))

-- a statement that was read, with the modifiers after it
pub record Whole (s : StatementTree) (p : List LevelStep) (ms : List ModifierTree) : Type 0 where
  pub pieces : ArePieces (statement_pieces (modified_by s ms))
  pub steps : pieces_steps (statement_pieces (modified_by s ms)) ≡ p ++ modifiers_steps ms

no_closings : (s : StatementTree) → closings s ≡ [] → ArePieces (closings s)
no_closings s e = subst (λ x. ArePieces x) (sym e) tt

pub simple_whole : (s : StatementTree) (p : List LevelStep) (ms : List ModifierTree) → Says Simple p (Stated s) → AreModifiers ms → Whole s p ms
simple_whole s p ms h a = record {
  pieces = modified_pieces s ms h.3 h.0 (no_closings s h.2) a;
  steps = modified_steps s ms ∙ ap (λ x. pieces_steps (pieces_of s) ++ (modifiers_steps ms ++ pieces_steps x)) h.2 ∙ ap (λ x. pieces_steps (pieces_of s) ++ x) (append-nil (modifiers_steps ms)) ∙ ap (λ x. x ++ modifiers_steps ms) (sym h.1);
}

pub bare_whole : (c : Class) (s : StatementTree) (p : List LevelStep) → Says c p (Stated s) → Whole s p []
bare_whole c s p h = record {
  pieces = pieces_append (pieces_of s) (closings s) h.0 (no_closings s h.2);
  steps = steps_append (pieces_of s) (closings s) ∙ ap (λ x. pieces_steps (pieces_of s) ++ pieces_steps x) h.2 ∙ ap (λ x. x ++ []) (sym h.1);
}

-- ---- clauses

choice_is_no_head : (s : StatementTree) → is_if s ≡ true → not (is_head s) ≡ true
choice_is_no_head (IfThen condition clause otherwise) e = refl
choice_is_no_head (IfGoto condition n otherwise) e = refl
choice_is_no_head s e = absurd cc

-- a statement as a clause
whole_clause : (s : StatementTree) (p : List LevelStep) (ms : List ModifierTree) (g : ClauseTree → Form) (k : List Symbol) (vs : Values) (q : List LevelStep) (u : Values) → not (is_head (modified_by s ms)) ≡ true → Whole s p ms → Spelled (AwaitClause g ∷ k) (Stated (modified_by s ms) ∷ vs) q u → Spelled (Go (ClauseIn g) ∷ k) vs (p ++ (modifiers_steps ms ++ Closes ∷ q)) u
whole_clause s p ms g k vs q u nh w h =
    let body = pieces_steps (statement_pieces (modified_by s ms)) in (
      body ++ Closes ∷ h.0,
      h.1,
      h.2,
      ap (λ x. p ++ (modifiers_steps ms ++ Closes ∷ x)) h.3 ∙ sym (append_assoc p (modifiers_steps ms) (Closes ∷ (h.0 ++ h.2))) ∙ ap (λ x. x ++ Closes ∷ (h.0 ++ h.2)) (sym w.steps) ∙ sym (append_assoc body (Closes ∷ h.0) h.2),
      (StatementClause (modified_by s ms), h.0, refl, (nh, w.pieces), h.4),
      h.5,
    )

choice_clause : (g : ClauseTree → Form) (k : List Symbol) (vs : Values) (p : List LevelStep) (v : Value) (q : List LevelStep) (u : Values) → Says Choice p v → Spelled (Close ∷ AwaitClause g ∷ k) (v ∷ vs) q u → Spelled (Go (ClauseIn g) ∷ k) vs (p ++ q) u
choice_clause g k vs p (Stated s) q u h c = subst (λ x. Spelled (Go (ClauseIn g) ∷ k) vs (p ++ x) u) (sym c.1) (whole_clause s p [] g k vs c.0 u (choice_is_no_head s h.3) (bare_whole Choice s p h) c.2)
choice_clause g k vs p v q u h c = absurd h

simple_clause : (g : ClauseTree → Form) (k : List Symbol) (vs : Values) (p : List LevelStep) (v : Value) (q : List LevelStep) (u : Values) → Says Simple p v → Spelled (Modifiers ∷ Close ∷ AwaitClause g ∷ k) (v ∷ vs) q u → Spelled (Go (ClauseIn g) ∷ k) vs (p ++ q) u
simple_clause g k vs p (Stated s) q u h c =
    let m = c.4 in
    subst (λ x. Spelled (Go (ClauseIn g) ∷ k) vs (p ++ x) u) (ap (λ x. modifiers_steps c.0 ++ x) (sym m.1) ∙ sym c.2)
    (whole_clause s p c.0 g k vs m.0 u (ap (λ x. not x) (modified_simple s c.0 h.3).1) (simple_whole s p c.0 h c.3) m.2)
simple_clause g k vs p v q u h c = absurd h

no_clause_back : (g : ClauseTree → Form) (vs : Values) (o : Option Word) → MoveBack (Go (ClauseIn g)) vs o (no_clause g vs o)
no_clause_back g vs None = tt
no_clause_back g vs (Some t) = tt

class_back : (g : ClauseTree → Form) (vs : Values) (t : Word) (c : Class) (f : Form) → ((p : List LevelStep) (v : Value) → Reads f p v → Says c p v) → MoveBack (Go (ClauseIn g)) vs (Some t) (behind_clause g c (form_move_with no_clause f vs (Some t)))
class_back g vs t Choice f sound = then_back (Go (ClauseIn g)) f (Close ∷ AwaitClause g ∷ []) vs t (λ k q u h. subst (λ x. Spelled (Go (ClauseIn g) ∷ k) vs x u) (sym h.3) (choice_clause g k vs h.0 h.1 h.2 u (sound h.0 h.1 h.4) h.5)) (form_move_with no_clause f vs (Some t)) (form_back no_clause no_clause_back f vs (Some t))
class_back g vs t Head f sound = tt
class_back g vs t Simple f sound = then_back (Go (ClauseIn g)) f (Modifiers ∷ Close ∷ AwaitClause g ∷ []) vs t (λ k q u h. subst (λ x. Spelled (Go (ClauseIn g) ∷ k) vs x u) (sym h.3) (simple_clause g k vs h.0 h.1 h.2 u (sound h.0 h.1 h.4) h.5)) (form_move_with no_clause f vs (Some t)) (form_back no_clause no_clause_back f vs (Some t))

clause_sentence_back : (g : ClauseTree → Form) (vs : Values) (t : Word) (o : Option Sentence) → sentence_of t ≡ o → MoveBack (Go (ClauseIn g)) vs (Some t) (clause_sentence g vs t o)
clause_sentence_back g vs t None e = tt
clause_sentence_back g vs t (Some s) e = class_back g vs t s.class s.form (λ p v r. sentence_sound t s e p v r)

line_clause : (g : ClauseTree → Form) (vs : Values) (n : ℕ) (b : Bool) → within LineNumber n ≡ b → MoveBack (Go (ClauseIn g)) vs (Some (Number n)) (cond b (Shifts false vs (Close ∷ Go (g (LineClause n)) ∷ [])) Refuses)
line_clause g vs n false e = tt
line_clause g vs n true e = λ k q u h.
    let x = h.2 in
    (Plain (Number n) ∷ Closes ∷ x.0, x.1, x.2, ap (λ y. Plain (Number n) ∷ y) (h.1 ∙ ap (λ y. Closes ∷ y) x.3), (LineClause n, x.0, refl, (e, tt), x.4), x.5)

pub clause_back : (g : ClauseTree → Form) (vs : Values) (o : Option Word) → MoveBack (Go (ClauseIn g)) vs o (clause_move g vs o)
clause_back g vs None = tt
clause_back g vs (Some (Number n)) = line_clause g vs n (within LineNumber n) refl
clause_back g vs (Some t) = clause_sentence_back g vs t (sentence_of t) refl

-- ---- forms, and symbols that wait for an expression or a clause

pub go_back : (f : Form) (vs : Values) (o : Option Word) → MoveBack (Go f) vs o (form_move f vs o)
go_back f vs o = form_back clause_move clause_back f vs o

-- what a form spells from the values below, a waiting symbol spells
await_through : (s : Symbol) (f : Form) (vs vs' : Values) (o : Option Word) → ((k : List Symbol) (q : List LevelStep) (u : Values) → Spelled (Go f ∷ k) vs' q u → Spelled (s ∷ k) vs q u) → (m : MachineMove) → MoveBack (Go f) vs' o m → MoveBack s vs o m
await_through s f vs vs' None sub (Shifts b ws ns) h = tt
await_through s f vs vs' (Some t) sub (Shifts b ws ns) h = λ k q u x. sub k (taken b t ∷ q) u (h k q u x)
await_through s f vs vs' None sub (Skips ws) h = λ k q u x. sub k q u (h k q u x)
await_through s f vs vs' (Some t) sub (Skips ws) h = λ k q u x. sub k q u (h k q u x)
await_through s f vs vs' None sub (Ends ws) h = λ k q u x. sub k (Closes ∷ q) u (h k q u x)
await_through s f vs vs' (Some t) sub (Ends ws) h = λ k q u x. sub k (Closes ∷ q) u (h k q u x)
await_through s f vs vs' None sub Refuses h = tt
await_through s f vs vs' (Some t) sub Refuses h = tt

pub await_back : (g : Tree → Form) (vs : Values) (o : Option Word) → MoveBack (Await g) vs o (form_move (g (top vs)) (below vs) o)
await_back g vs o = await_through (Await g) (g (top vs)) vs (below vs) o (λ k q u x. x) (form_move (g (top vs)) (below vs) o) (go_back (g (top vs)) (below vs) o)

pub await_clause_back : (g : ClauseTree → Form) (vs : Values) (o : Option Word) → MoveBack (AwaitClause g) vs o (form_move (g (StatementClause (stated vs))) (below vs) o)
await_clause_back g vs o = await_through (AwaitClause g) (g (StatementClause (stated vs))) vs (below vs) o (λ k q u x. x) (form_move (g (StatementClause (stated vs))) (below vs) o) (go_back (g (StatementClause (stated vs))) (below vs) o)

-- ---- modifiers

add_modifier : (k : List Symbol) (vs : Values) (p : List LevelStep) (v : Value) (q : List LevelStep) (u : Values) → Modifies p v → Spelled (Do Modify ∷ Modifiers ∷ Close ∷ k) (v ∷ vs) q u → Spelled (Modifiers ∷ k) vs (p ++ q) u
add_modifier k vs p (Modifying m) q u h c =
    let x = c.4 in (
      m ∷ c.0,
      x.0,
      ap (λ y. y ++ q) h.1 ∙ ap (λ y. pieces_steps (modifier m) ++ y) (c.2 ∙ ap (λ y. modifiers_steps c.0 ++ y) x.1 ∙ sym (append_assoc (modifiers_steps c.0) (Closes ∷ []) x.0)) ∙ sym (append_assoc (pieces_steps (modifier m)) (modifiers_steps c.0 ++ Closes ∷ []) x.0),
      (h.0, c.3),
      x.2,
    )
add_modifier k vs p v q u h c = absurd h

no_modifier : (vs : Values) (o : Option Word) → MoveBack Modifiers vs o (Skips (kept_stated vs))
no_modifier vs None = λ k q u h. ([], q, refl, tt, h)
no_modifier vs (Some t) = λ k q u h. ([], q, refl, tt, h)

modified_back : (vs : Values) (t : Word) (o : Option Form) → modifier_of t ≡ o → MoveBack Modifiers vs (Some t) (modified vs t o)
modified_back vs t None e = no_modifier vs (Some t)
modified_back vs t (Some f) e = then_back Modifiers f (Do Modify ∷ Modifiers ∷ Close ∷ []) vs t (λ k q u h. subst (λ x. Spelled (Modifiers ∷ k) vs x u) (sym h.3) (add_modifier k vs h.0 h.1 h.2 u (modifier_sound t f e h.0 h.1 h.4) h.5)) (form_move f vs (Some t)) (go_back f vs (Some t))

pub modifiers_back : (vs : Values) (o : Option Word) → MoveBack Modifiers vs o (modifiers vs o)
modifiers_back vs None = no_modifier vs None
modifiers_back vs (Some t) = modified_back vs t (modifier_of t) refl

-- ---- statements of a line

whole_statement : (k : List Symbol) (vs : Values) (s : StatementTree) (p : List LevelStep) (ms : List ModifierTree) (q : List LevelStep) (u : Values) → Whole s p ms → Spelled k (with_statement (Some (modified_by s ms)) vs) q u → Spelled (OneStatement ∷ k) vs (p ++ (modifiers_steps ms ++ q)) u
whole_statement k vs s p ms q u w h = (Some (modified_by s ms), q, sym (append_assoc p (modifiers_steps ms) q) ∙ ap (λ x. x ++ q) (sym w.steps), w.pieces, h)

bare_statement : (k : List Symbol) (vs : Values) (c : Class) (p : List LevelStep) (v : Value) (q : List LevelStep) (u : Values) → Says c p v → Spelled (Do AddStatement ∷ k) (v ∷ vs) q u → Spelled (OneStatement ∷ k) vs (p ++ q) u
bare_statement k vs c p (Stated s) q u h x = whole_statement k vs s p [] q u (bare_whole c s p h) x
bare_statement k vs c p v q u h x = absurd h

simple_statement : (k : List Symbol) (vs : Values) (p : List LevelStep) (v : Value) (q : List LevelStep) (u : Values) → Says Simple p v → Spelled (Modifiers ∷ Do AddStatement ∷ k) (v ∷ vs) q u → Spelled (OneStatement ∷ k) vs (p ++ q) u
simple_statement k vs p (Stated s) q u h x = subst (λ y. Spelled (OneStatement ∷ k) vs (p ++ y) u) (sym x.2) (whole_statement k vs s p x.0 x.1 u (simple_whole s p x.0 h x.3) x.4)
simple_statement k vs p v q u h x = absurd h

behind_class_back : (k : List Symbol) (vs : Values) (c : Class) (p : List LevelStep) (v : Value) (q : List LevelStep) (u : Values) → Says c p v → Spelled (behind_class c ++ k) (v ∷ vs) q u → Spelled (OneStatement ∷ k) vs (p ++ q) u
behind_class_back k vs Choice p v q u h x = bare_statement k vs Choice p v q u h x
behind_class_back k vs Head p v q u h x = bare_statement k vs Head p v q u h x
behind_class_back k vs Simple p v q u h x = simple_statement k vs p v q u h x

no_statement : (vs : Values) (o : Option Word) → MoveBack OneStatement vs o (Skips (with_statement None vs))
no_statement vs None = λ k q u h. (None, q, refl, tt, h)
no_statement vs (Some t) = λ k q u h. (None, q, refl, tt, h)

statement_back : (vs : Values) (t : Word) (o : Option Sentence) → sentence_of t ≡ o → MoveBack OneStatement vs (Some t) (statement_move vs t o)
statement_back vs t None e = no_statement vs (Some t)
statement_back vs t (Some s) e = then_back OneStatement s.form (behind_class s.class) vs t (λ k q u h. subst (λ x. Spelled (OneStatement ∷ k) vs x u) (sym h.3) (behind_class_back k vs s.class h.0 h.1 h.2 u (sentence_sound t s e h.0 h.1 h.4) h.5)) (form_move s.form vs (Some t)) (go_back s.form vs (Some t))

pub one_statement_back : (vs : Values) (o : Option Word) → MoveBack OneStatement vs o (one_statement vs o)
one_statement_back vs None = no_statement vs None
one_statement_back vs (Some t) = statement_back vs t (sentence_of t) refl

no_more : (vs : Values) (o : Option Word) → MoveBack MoreStatements vs o (Skips (kept_parsed vs))
no_more vs None = λ k q u h. ([], q, refl, tt, subst (λ x. Spelled k (Parsed x ∷ below vs) q u) (sym (append-nil (parsed vs))) h)
no_more vs (Some t) = λ k q u h. ([], q, refl, tt, subst (λ x. Spelled k (Parsed x ∷ below vs) q u) (sym (append-nil (parsed vs))) h)

one_more : (vs : Values) → TakesBack false MoreStatements vs vs (Punctuation sign.Colon) (OneStatement ∷ MoreStatements ∷ [])
one_more vs = λ k q u h.
    let x = h.4 in (
      h.0 ∷ x.0,
      x.1,
      ap (λ y. mark sign.Colon ∷ y) (h.2 ∙ ap (λ y. pieces_steps (place_pieces h.0) ++ y) x.2 ∙ sym (append_assoc (pieces_steps (place_pieces h.0)) (pieces_steps (each separated x.0)) x.1) ∙ ap (λ y. y ++ x.1) (sym (steps_append (place_pieces h.0) (each separated x.0)))),
      (tt, pieces_append (place_pieces h.0) (each separated x.0) h.3 x.3),
      subst (λ y. Spelled k (Parsed y ∷ below vs) x.1 u) (append_assoc (parsed vs) (h.0 ∷ []) x.0) x.4,
    )

pub more_statements_back : (vs : Values) (o : Option Word) → MoveBack MoreStatements vs o (more_statements vs o)
more_statements_back vs o = sign_back MoreStatements false sign.Colon vs o (OneStatement ∷ MoreStatements ∷ []) (Skips (kept_parsed vs)) (one_more vs) (no_more vs o)

-- What the move of a form took, the form reads.
use Rattle.std.proofs.Common.{subst, ◌≡◌, ℕ, Bool, true, false, cond, List, [], ◌∷◌, ◌++◌, Option, Some, None, inl, inr, refl, sym, ap, ◌∙◌, append_assoc, arith}
use Rattle.basic_tree.specs.declared.names.Name.{Name}
use Rattle.basic_tree.specs.declared.tokens.Keyword.{Keyword}
use Rattle.basic_tree.specs.declared.tokens.Sign.{Sign}
use Rattle.basic_tree.specs.declared.kinds.Want.{Want}
use Rattle.basic_tree.specs.declared.kinds.Want.TheVariants as want
use Rattle.basic_tree.specs.SpellingWords.{Word, Key, Punctuation, Named, FnNamed, Number, Quotation, LevelStep, Plain, words}
use Rattle.basic_tree.specs.SpellingWords.{Item as ItemOf}
use Rattle.basic_tree.specs.Trees.{Tree, Variable, Element, Parenthesized, Negative, Positive, Not, Operation, Comparison}
use Rattle.basic_tree.specs.SpellingExpressions.{mark, steps_of, is_text, Fits, level_of, IsTree}
use Rattle.basic_tree.specs.SpellingPieces.{is_target}
use Rattle.basic_tree.specs.SpellingParts.{first_word}
use Rattle.basic_tree.specs.declared.expressions.Operator.{Operator}
use Rattle.basic_tree.specs.declared.expressions.Operator.TheVariants as operator
use Rattle.basic_tree.specs.GrammarTables.{operator_level, operator_word, relation_sign}
use Rattle.grammar_machine.specs.GrammarWords.{is_same_sign, is_same_keyword}
use Rattle.grammar_machine.specs.MachineStack.{Value, Values, Limit, within, Form, ExprOf, ExprIf, TargetOf, NameIn, FnNameIn, Symbol, Subscripts, Go, Await, loosest}
use Rattle.grammar_machine.specs.MachineStarts.{Start, takes, start}
use Rattle.grammar_machine.specs.MachineMoves.{MachineMove, Shifts, Skips, Refuses, begun, then_also, take_key, take_sign, expression, expression_if, target, name_in, fn_name_in, literal_in, quoted_if, item_in}
use Rattle.grammar_machine.specs.MachineMoves.{Closes as Ends}
use Rattle.grammar_machine.proofs.MachineReads.{taken, passes_first, Reads}
use Rattle.grammar_machine.proofs.MachineSpelled.{Spelled}
use Rattle.grammar_machine.proofs.MachineBack.{TakesBack, StartBack, start_back, MoveBack}
use Rattle.grammar_machine.proofs.FormWords.{keys_equal, signs_equal}

-- ---- a word and what follows it

-- if the other form is read, so is this one
pub through_form : (f h : Form) (vs : Values) (o : Option Word) → ((p : List LevelStep) (v : Value) → Reads h p v → Reads f p v) → (m : MachineMove) → MoveBack (Go h) vs o m → MoveBack (Go f) vs o m
through_form f h vs None sub (Shifts b vs' ns) back = tt
through_form f h vs (Some t) sub (Shifts b vs' ns) back = λ k q u s. let x = back k q u s in (x.0, x.1, x.2, x.3, sub x.0 x.1 x.4, x.5)
through_form f h vs None sub (Skips vs') back = λ k q u s. let x = back k q u s in (x.0, x.1, x.2, x.3, sub x.0 x.1 x.4, x.5)
through_form f h vs (Some t) sub (Skips vs') back = λ k q u s. let x = back k q u s in (x.0, x.1, x.2, x.3, sub x.0 x.1 x.4, x.5)
through_form f h vs None sub (Ends vs') back = λ k q u s. let x = back k q u s in (x.0, x.1, x.2, x.3, sub x.0 x.1 x.4, x.5)
through_form f h vs (Some t) sub (Ends vs') back = λ k q u s. let x = back k q u s in (x.0, x.1, x.2, x.3, sub x.0 x.1 x.4, x.5)
through_form f h vs o sub Refuses back = tt

-- a step, and then what the form after it reads
pub behind_step : (f h : Form) (vs : Values) (opens : Bool) (t : Word) → ((p : List LevelStep) (v : Value) → Reads h p v → Reads f (taken opens t ∷ p) v) → TakesBack opens (Go f) vs vs t (Go h ∷ [])
behind_step f h vs opens t sub = λ k q u s. (taken opens t ∷ s.0, s.1, s.2, ap (λ x. taken opens t ∷ x) s.3, sub s.0 s.1 s.4, s.5)

refuses_back : (s : Symbol) (vs : Values) (o : Option Word) → MoveBack s vs o Refuses
refuses_back s vs None = tt
refuses_back s vs (Some t) = tt

pub key_back : (s : Symbol) (opens : Bool) (k : Keyword) (vs : Values) (o : Option Word) (more : List Symbol) (m : MachineMove) → TakesBack opens s vs vs (Key k) more → MoveBack s vs o m → MoveBack s vs o (take_key opens k vs o more m)
key_back s opens k vs None more m h e = e
key_back s opens k vs (Some (Key l)) more m h e = go (is_same_keyword k l) refl where
  go : (b : Bool) → is_same_keyword k l ≡ b → MoveBack s vs (Some (Key l)) (cond b (Shifts opens vs more) m)
  go true same = subst (λ x. TakesBack opens s vs vs (Key x) more) (keys_equal k l same) h
  go false same = e
key_back s opens k vs (Some t) more m h e = e

pub sign_back : (s : Symbol) (opens : Bool) (x : Sign) (vs : Values) (o : Option Word) (more : List Symbol) (m : MachineMove) → TakesBack opens s vs vs (Punctuation x) more → MoveBack s vs o m → MoveBack s vs o (take_sign opens x vs o more m)
sign_back s opens x vs None more m h e = e
sign_back s opens x vs (Some (Punctuation y)) more m h e = go (is_same_sign x y) refl where
  go : (b : Bool) → is_same_sign x y ≡ b → MoveBack s vs (Some (Punctuation y)) (cond b (Shifts opens vs more) m)
  go true same = subst (λ z. TakesBack opens s vs vs (Punctuation z) more) (signs_equal x y same) h
  go false same = e
sign_back s opens x vs (Some t) more m h e = e

-- ---- how a tree begins

behind_first : (b : Bool) (w : Word) (p q : List LevelStep) → (taken b w ∷ p) ++ q ≡ taken b w ∷ (p ++ q)
behind_first b w p q = refl

pub first_step : (t : Tree) → (b : Bool) × (w : Word) × (rest : List LevelStep) × (steps_of t ≡ taken b w ∷ rest)
first_step (Parenthesized a) = (true, _, _, refl)
first_step (Negative a) = (true, _, _, refl)
first_step (Positive a) = (true, _, _, refl)
first_step (Not a) = (true, _, _, refl)
first_step (Operation a o b) = let h = first_step a in (h.0, h.1, h.2 ++ Plain (operator_word o) ∷ steps_of b, ap (λ x. x ++ Plain (operator_word o) ∷ steps_of b) h.3 ∙ behind_first h.0 h.1 h.2 (Plain (operator_word o) ∷ steps_of b))
first_step (Comparison a r b) = let h = first_step a in (h.0, h.1, h.2 ++ mark (relation_sign r) ∷ steps_of b, ap (λ x. x ++ mark (relation_sign r) ∷ steps_of b) h.3 ∙ behind_first h.0 h.1 h.2 (mark (relation_sign r) ∷ steps_of b))
first_step t = (false, _, _, refl)

first_of_taken : (b : Bool) (w : Word) (rest : List LevelStep) → first_word (words (taken b w ∷ rest)) ≡ Some w
first_of_taken true w rest = refl
first_of_taken false w rest = refl

same_taken : (b c : Bool) (v w : Word) (p q : List LevelStep) → taken b v ∷ p ≡ taken c w ∷ q → v ≡ w
same_taken true true v w p q e = cc
same_taken false false v w p q e = cc
same_taken true false v w p q e = absurd cc
same_taken false true v w p q e = absurd cc

-- the first word of a tree is the one with which its steps begin
pub first_of_tree : (t : Tree) (b : Bool) (w : Word) (q r : List LevelStep) → taken b w ∷ q ≡ steps_of t ++ r → first_word (words (steps_of t)) ≡ Some w
first_of_tree t b w q r e =
    let f = first_step t in
    let same : f.1 ≡ w = same_taken f.0 b f.1 w (f.2 ++ r) q (sym (ap (λ x. x ++ r) f.3) ∙ sym e) in
    ap (λ x. first_word (words x)) f.3 ∙ first_of_taken f.0 f.1 f.2 ∙ ap (λ (x : Word). Some x) same

-- ---- expressions

expression_starts : (f : Form) (w : Want) (g : Tree → Form) (vs : Values) (t : Word) → ((x : Tree) (p : List LevelStep) (v : Value) → IsTree x → Fits w x → first_word (words (steps_of x)) ≡ Some t → Reads (g x) p v → Reads f (steps_of x ++ p) v) → (s : Option Start) → StartBack loosest w vs t s → MoveBack (Go f) vs (Some t) (then_also (Await g ∷ []) (begun s))
expression_starts f w g vs t sub None back = tt
expression_starts f w g vs t sub (Some s) back = λ k q u h.
    let x = back (Await g ∷ k) q u (subst (λ y. Spelled y s.values q u) (append_assoc s.expected (Await g ∷ []) k) h) in
    let y = x.4 in
    (steps_of x.0 ++ y.0, y.1, y.2, x.2 ∙ ap (λ z. steps_of x.0 ++ z) y.3 ∙ sym (append_assoc (steps_of x.0) y.0 y.2), sub x.0 y.0 y.1 x.3.tree x.3.kind (first_of_tree x.0 s.opens t q x.1 x.2) y.4, y.5)

pub expression_back : (f : Form) (w : Want) (g : Tree → Form) (vs : Values) (t : Word) → ((x : Tree) (p : List LevelStep) (v : Value) → IsTree x → Fits w x → first_word (words (steps_of x)) ≡ Some t → Reads (g x) p v → Reads f (steps_of x ++ p) v) → MoveBack (Go f) vs (Some t) (expression w g vs (Some t))
expression_back f w g vs t sub = expression_starts f w g vs t sub (start loosest w vs t) (start_back loosest w vs t)

pub expr_back : (w : Want) (g : Tree → Form) (vs : Values) (o : Option Word) → MoveBack (Go (ExprOf w g)) vs o (expression w g vs o)
expr_back w g vs None = tt
expr_back w g vs (Some t) = expression_back (ExprOf w g) w g vs t (λ x p v i f e h. (x, p, refl, i, f, h))

pub expr_if_back : (test : Word → Bool) (w : Want) (g : Tree → Form) (h : Form) (vs : Values) (o : Option Word) (m : MachineMove) → MoveBack (Go h) vs o m → MoveBack (Go (ExprIf test w g h)) vs o (expression_if test w g vs o m)
expr_if_back test w g h vs None m back = through_form (ExprIf test w g h) h vs None (λ p v r. inr r) m back
expr_if_back test w g h vs (Some t) m back = go (test t) refl where
  go : (b : Bool) → test t ≡ b → MoveBack (Go (ExprIf test w g h)) vs (Some t) (cond b (expression w g vs (Some t)) m)
  go true e = expression_back (ExprIf test w g h) w g vs t (λ x p v i f first r. inl (x, p, refl, i, f, ap (λ y. passes_first test y) first ∙ e, r))
  go false e = through_form (ExprIf test w g h) h vs (Some t) (λ p v r. inr r) m back

-- ---- names, literals and strings

takes_fits : (w : Want) (x : Bool) (t : Tree) → is_text t ≡ x → takes w x ≡ true → Fits w t
takes_fits want.Number false t e h = e
takes_fits want.Number true t e h = absurd cc
takes_fits want.Text true t e h = e
takes_fits want.Text false t e h = absurd cc
takes_fits want.Either x t e h = tt

operator_is_no_atom : (o : Operator) → operator_level o ≡ 0 → ⊥
operator_is_no_atom operator.Power e = omega (arith, e)
operator_is_no_atom o e = omega (arith, e)

-- an atom that begins with a name is a target
pub led_target : (name : Name) (g : List LevelStep) (t : Tree) → steps_of t ≡ Plain (Named name) ∷ g → level_of t ≡ 0 → is_target t ≡ true
led_target name g (Variable n) e l = refl
led_target name g (Element n ts) e l = refl
led_target name g (Operation a o b) e l = absurd (operator_is_no_atom o l)
led_target name g (Comparison a r b) e l = absurd (omega (arith, l))
led_target name g t e l = absurd cc

pub target_back : (w : Want) (g : Tree → Form) (vs : Values) (o : Option Word) → MoveBack (Go (TargetOf w g)) vs o (target w g vs o)
target_back w g vs (Some (Named name)) = go (takes w name.text) refl where
  go : (b : Bool) → takes w name.text ≡ b → MoveBack (Go (TargetOf w g)) vs (Some (Named name)) (cond b (Shifts false vs (Subscripts name ∷ Await g ∷ [])) Refuses)
  go true e = λ k q u h.
      let y = h.5 in (
        steps_of h.0 ++ y.0,
        y.1,
        y.2,
        ap (λ x. Plain (Named name) ∷ x) (h.3 ∙ ap (λ x. h.1 ++ x) y.3 ∙ sym (append_assoc h.1 y.0 y.2)) ∙ ap (λ x. (x ++ y.0) ++ y.2) (sym h.4.spelled),
        (h.0, y.0, refl, h.4.tree, takes_fits w name.text h.0 h.4.kind e, led_target name h.1 h.0 h.4.spelled h.4.level, y.4),
        y.5,
      )
  go false e = tt
target_back w g vs (Some t) = tt
target_back w g vs None = tt

pub name_back : (w : Want) (g : Name → Form) (vs : Values) (o : Option Word) → MoveBack (Go (NameIn w g)) vs o (name_in w g vs o)
name_back w g vs (Some (Named name)) = go (takes w name.text) refl where
  go : (b : Bool) → takes w name.text ≡ b → MoveBack (Go (NameIn w g)) vs (Some (Named name)) (cond b (Shifts false vs (Go (g name) ∷ [])) Refuses)
  go true e = behind_step (NameIn w g) (g name) vs false (Named name) (λ p v r. (name, p, refl, takes_fits w name.text (Variable name) refl e, r))
  go false e = tt
name_back w g vs (Some t) = tt
name_back w g vs None = tt

pub fn_name_back : (g : Name → Form) (vs : Values) (o : Option Word) → MoveBack (Go (FnNameIn g)) vs o (fn_name_in g vs o)
fn_name_back g vs (Some (FnNamed name)) = behind_step (FnNameIn g) (g name) vs false (FnNamed name) (λ p v r. (name, p, refl, r))
fn_name_back g vs (Some t) = tt
fn_name_back g vs None = tt

pub literal_back : (f : Form) (limit : Limit) (g : ℕ → Form) (vs : Values) (o : Option Word) (m : MachineMove) → ((n : ℕ) (p : List LevelStep) (v : Value) → within limit n ≡ true → Reads (g n) p v → Reads f (Plain (Number n) ∷ p) v) → MoveBack (Go f) vs o m → MoveBack (Go f) vs o (literal_in limit g vs o m)
literal_back f limit g vs (Some (Number n)) m sub back = go (within limit n) refl where
  go : (b : Bool) → within limit n ≡ b → MoveBack (Go f) vs (Some (Number n)) (cond b (Shifts false vs (Go (g n) ∷ [])) m)
  go true e = behind_step f (g n) vs false (Number n) (λ p v r. sub n p v e r)
  go false e = back
literal_back f limit g vs (Some t) m sub back = back
literal_back f limit g vs None m sub back = back

pub quoted_back : (f : Form) (g : List ℕ → Form) (vs : Values) (o : Option Word) (m : MachineMove) → ((text : List ℕ) (p : List LevelStep) (v : Value) → Reads (g text) p v → Reads f (Plain (Quotation text) ∷ p) v) → MoveBack (Go f) vs o m → MoveBack (Go f) vs o (quoted_if g vs o m)
quoted_back f g vs (Some (Quotation text)) m sub back = behind_step f (g text) vs false (Quotation text) (λ p v r. sub text p v r)
quoted_back f g vs (Some t) m sub back = back
quoted_back f g vs None m sub back = back

pub item_back : (f : Form) (g : List ℕ → Form) (vs : Values) (o : Option Word) (m : MachineMove) → ((item : List ℕ) (p : List LevelStep) (v : Value) → Reads (g item) p v → Reads f (Plain (ItemOf item) ∷ p) v) → MoveBack (Go f) vs o m → MoveBack (Go f) vs o (item_in g vs o m)
item_back f g vs (Some (ItemOf item)) m sub back = behind_step f (g item) vs false (ItemOf item) (λ p v r. sub item p v r)
item_back f g vs (Some t) m sub back = back
item_back f g vs None m sub back = back

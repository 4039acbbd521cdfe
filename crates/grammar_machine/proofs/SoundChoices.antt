-- The parts of IF, LET, DEF, PRINT, INPUT and DIM: what their forms read is what they spell.
use Rattle.std.proofs.Common.{◌≡◌, ℕ, Bool, true, false, inl, inr, List, [], ◌∷◌, ◌++◌, Option, Some, None, refl, sym, ap, ◌∙◌, subst}
use Rattle.std.specs.Prelude.{◌&&◌, not}
use Rattle.basic_tree.specs.declared.names.Name.{Name}
use Rattle.basic_tree.specs.declared.tokens.Sign.TheVariants as sign
use Rattle.basic_tree.specs.declared.kinds.Want.TheVariants as want
use Rattle.basic_tree.specs.declared.parts.Shape.{Shape}
use Rattle.basic_tree.specs.declared.parts.Separator.{Separator}
use Rattle.basic_tree.specs.declared.parts.Separator.TheVariants as separator
use Rattle.basic_tree.specs.SpellingWords.{LevelStep}
use Rattle.basic_tree.specs.Trees.{Tree, PrintedTree, PrintItemTree, UsingItemTree, PromptTree, ElseTree, NoElse, Else, StatementTree, Def, Let, PrintUsing, Input}
use Rattle.basic_tree.specs.SpellingExpressions.{steps_of, IsTree, is_text, Fits, want_of}
use Rattle.basic_tree.specs.SpellingPieces.{optional, each, Fixed, text, target, many, sign_piece}
use Rattle.basic_tree.specs.SpellingParts.{has_value, is_parted, kind_of_first, shape, separator_piece, using_item, using_values, value, name, element_size}
use Rattle.basic_tree.specs.SpellingStatements.{has_else, clause_pieces, else_pieces}
use Rattle.grammar_machine.specs.MachineStack.{Value, Stated, TargetItem, Form}
use Rattle.grammar_machine.specs.MachineForms.{shape_form, size_form, targets_in, says, else_form, targets_form, value_form}
use Rattle.grammar_machine.specs.MachineSentences.{using_form, input_targets}
use Rattle.grammar_machine.proofs.MachineReads.{Reads, items_steps}
use Rattle.grammar_machine.proofs.SoundPieces.{Spells, ended, fixed, expression, holds, joined, only, listed, regrouped, Starts}
use Rattle.grammar_machine.proofs.SoundLists.{targets_spelled}

-- ---- IF

pub else_read : (b : Bool) (s : ElseTree → StatementTree) (p : List LevelStep) (v : Value) → Reads (else_form b (λ o. says (s o))) p v → (o : ElseTree) × (not (has_else o && b) ≡ true) × Spells (else_pieces o) p × (Stated (s o) ≡ v)
else_read true s p v h = (NoElse, refl, ended h.0, h.1)
else_read false s p v (inl x) = let c = x.2 in (Else c.0, refl, fixed x.1 (joined (clause_pieces c.0) c.2 c.3 (fixed refl (ended c.4.0))), c.4.1)
else_read false s p v (inr x) = (NoElse, refl, ended x.0, x.1)

-- ---- LET

fits_own : (t : Tree) (b : Bool) → is_text t ≡ b → Fits (want_of b) t
fits_own t true e = e
fits_own t false e = e

pub targets_read : (word : Bool) (p : List LevelStep) (v : Value) → Reads (targets_form word) p v → (ts : List Tree) × (x : Tree) × Spells (many (λ t. target (want_of (kind_of_first ts)) t) ts ++ value (kind_of_first ts) x) p × (Stated (Let word ts x) ≡ v)
targets_read word p v h =
    let more = h.6 in
    let x = more.4.2 in
    let others = targets_spelled (want_of (is_text h.0)) (TargetItem h.0 ∷ []) more.0 more.3 in (
      h.0 ∷ targets_in more.0,
      x.0,
      holds h.5 (expression h.2 h.3 (fits_own h.0 (is_text h.0) refl)
          (listed (items_steps more.0) more.2 others
          (fixed more.4.1 (expression x.2 x.3 x.4 (ended x.5.0))))),
      x.5.1,
    )

-- ---- DEF

pub value_read : (f : Name) (ps : List Name) (p : List LevelStep) (v : Value) → Reads (value_form f ps) p v → (o : Option Tree) × Spells (optional (λ t. value f.text t) o) p × (Stated (Def f ps o) ≡ v)
value_read f ps p v (inl x) = let a = x.2 in (Some a.0, fixed x.1 (expression a.2 a.3 a.4 (ended a.5.0)), a.5.1)
value_read f ps p v (inr x) = (None, ended x.0, x.1)

-- ---- PRINT

pub comma_parts : (c : Tree) (items : List PrintItemTree) (last : Option PrintedTree) → is_parted (Some (record { number = c; comma = true })) items last ≡ true
comma_parts c [] None = refl
comma_parts c [] (Some t) = refl
comma_parts c (item ∷ items) last = refl

-- after USING
pub record UsingRead (c : Option Tree) (p : List LevelStep) (v : Value) : Type 0 where
  pub format : Tree
  pub values : List UsingItemTree
  pub last : Option Tree
  pub some : has_value values last ≡ true
  pub spells : Spells (text format ∷ sign_piece sign.Comma ∷ using_values values last) p
  pub is : Stated (PrintUsing c format values last) ≡ v

separated_read : (t : Tree) (s : Separator) (step : LevelStep) (more : List UsingItemTree) (last : Option Tree) (p q : List LevelStep) → separator_piece s ≡ Fixed step → IsTree t → p ≡ steps_of t ++ step ∷ q → Spells (using_values more last) q → Spells (using_values (record { value = t; separator = s } ∷ more) last) p
separated_read t s step more last p q e i h m = regrouped (using_item (record { value = t; separator = s })) (each using_item more) _ (expression h i tt (subst (λ x. Spells (x ∷ using_values more last) (step ∷ q)) (sym e) (fixed refl m)))

pub using_read : (c : Option Tree) (p : List LevelStep) (v : Value) → Reads (using_form c) p v → UsingRead c p v
using_read c p v h =
    let comma = h.5 in
    let t = comma.2 in
    elim t.5 [
      | inl x ↦
          let m = x.2 in
          record {
            format = h.0;
            values = record { value = t.0; separator = separator.Comma } ∷ m.0;
            last = m.1;
            some = refl;
            spells = expression h.2 h.3 h.4 (fixed comma.1 (separated_read t.0 separator.Comma _ m.0 m.1 comma.0 x.0 refl t.3 (t.2 ∙ ap (λ y. steps_of t.0 ++ y) x.1) (record { wanted = m.3; spelled = m.2 })));
            is = m.4;
          }
      | inr y ↦
          elim y [
            | inl x ↦
                let m = x.2 in
                record {
                  format = h.0;
                  values = record { value = t.0; separator = separator.Semicolon } ∷ m.0;
                  last = m.1;
                  some = refl;
                  spells = expression h.2 h.3 h.4 (fixed comma.1 (separated_read t.0 separator.Semicolon _ m.0 m.1 comma.0 x.0 refl t.3 (t.2 ∙ ap (λ y. steps_of t.0 ++ y) x.1) (record { wanted = m.3; spelled = m.2 })));
                  is = m.4;
                }
            | inr x ↦
                record {
                  format = h.0;
                  values = [];
                  last = Some t.0;
                  some = refl;
                  spells = expression h.2 h.3 h.4 (fixed comma.1 (expression t.2 t.3 t.4 (ended x.0)));
                  is = x.1;
                }
          ]
    ]

-- ---- INPUT

pub inputs_read : (c : Option Tree) (o : Option PromptTree) (p : List LevelStep) (v : Value) → Reads (input_targets c o) p v → (ts : List Tree) × Spells (many (λ t. target want.Either t) ts) p × (Stated (Input c o ts) ≡ v)
inputs_read c o p v h =
    let more = h.6 in
    (h.0 ∷ targets_in more.0, holds h.5 (expression h.2 h.3 h.4 (only (items_steps more.0) more.2 more.4.0 (targets_spelled want.Either (TargetItem h.0 ∷ []) more.0 more.3))), more.4.1)

-- ---- DIM

pub record ShapeRead (g : Shape → Form) (p : List LevelStep) (v : Value) : Type 0 where
  pub is : Shape
  pub left : List LevelStep
  pub starts : Starts (shape is) p left
  pub rest : Reads (g is) left v

pub shape_read : (g : Shape → Form) (p : List LevelStep) (v : Value) → Reads (shape_form g) p v → ShapeRead g p v
shape_read g p v h =
    let opened = h.4.1 in
    let n = h.4.2 in
    elim n.4 [
      | inl x ↦
          let m = x.2 in
          record {
            is = record { name = h.0; first = n.0; second = Some m.0 };
            left = m.4.0;
            starts = record { wanted = (tt, (tt, (n.3, (tt, (m.3, (tt, (tt, tt))))))); spelled = cc (h.2, opened, n.2, x.1, m.2, m.4.1) };
            rest = m.4.2;
          }
      | inr x ↦
          record {
            is = record { name = h.0; first = n.0; second = None };
            left = x.0;
            starts = record { wanted = (tt, (tt, (n.3, (tt, (tt, tt))))); spelled = cc (h.2, opened, n.2, x.1) };
            rest = x.2;
          }
    ]

pub record SizeRead (n : Name) (g : Option ℕ → Form) (p : List LevelStep) (v : Value) : Type 0 where
  pub is : Option ℕ
  pub left : List LevelStep
  pub starts : Starts (optional (λ size. element_size n size) is) p left
  pub rest : Reads (g is) left v

pub size_read : (n : Name) (b : Bool) (g : Option ℕ → Form) (p : List LevelStep) (v : Value) → n.text ≡ b → Reads (size_form b g) p v → SizeRead n g p v
size_read n true g p v e (inl x) =
    let a = x.2 in
    record { is = Some a.0; left = a.1; starts = record { wanted = (e, (tt, (a.3, tt))); spelled = cc (x.1, a.2) }; rest = a.4 }
size_read n true g p v e (inr x) = record { is = None; left = p; starts = record { wanted = tt; spelled = refl }; rest = x }
size_read n false g p v e h = record { is = None; left = p; starts = record { wanted = tt; spelled = refl }; rest = h }

-- What the moves of a list and of PRINT took, their forms read; the same for every form.
use Rattle.std.proofs.Common.{subst, ◌≡◌, Bool, true, false, cond, List, [], ◌∷◌, ◌++◌, Option, Some, None, inl, inr, refl, sym, ap, ◌∙◌, append_assoc}
use Rattle.std.proofs.lemmas.List.{append-nil}
use Rattle.basic_tree.specs.declared.tokens.Keyword.TheVariants as keyword
use Rattle.basic_tree.specs.declared.tokens.Sign.TheVariants as sign
use Rattle.basic_tree.specs.declared.kinds.Want.TheVariants as want
use Rattle.basic_tree.specs.declared.parts.Shape.{Shape}
use Rattle.basic_tree.specs.declared.parts.Separator.{Separator}
use Rattle.basic_tree.specs.declared.parts.Separator.TheVariants as separator
use Rattle.basic_tree.specs.SpellingWords.{Word, Key, Punctuation, Named, Number, LevelStep, Plain, Opens, Closes}
use Rattle.basic_tree.specs.SpellingWords.{Item as ItemOf}
use Rattle.basic_tree.specs.Trees.{PrintedTree, Value as ValueOf, Tab, PrintItemTree, PrintChannelTree, UsingItemTree, Tree, ClauseTree, Print, PrintUsing}
use Rattle.basic_tree.specs.SpellingExpressions.{mark, steps_of}
use Rattle.basic_tree.specs.SpellingPieces.{optional, each, WordPiece, Fixed, Expression, pieces_steps, IsPiece, ArePieces}
use Rattle.basic_tree.specs.SpellingParts.{shape, element_size, printed, print_item, separator_piece, using_item, using_values}
use Rattle.grammar_machine.specs.MachineStack.{Value, Stated, Values, Item, TargetItem, ShapeItem, FileItem, NameItem, LineItem, ChannelItem, FieldItem, Sequence, Targets, Shapes, FileShapes, Parameters, Arrays, Lines, Channels, FieldParts, Form, Made, TakeKey, TakeSign, TakeClosing, IfKey, IfSign, ExprOf, ExprIf, TargetOf, NameIn, FnNameIn, LiteralIn, LiteralIf, QuotedIf, ItemIn, MoreItems, MoreOf, MorePrinted, MoreUsing, ClauseIn, Close, Go}
use Rattle.grammar_machine.specs.MachineForms.{begins_value, has_room, item_form, shape_form, size_form, printed_form, using_value_form}
use Rattle.grammar_machine.specs.MachineMoves.{MachineMove, Shifts, Skips, Refuses, expression, expression_if, more_of_list, tab_form, more_printed, more_using, form_move_with}
use Rattle.grammar_machine.proofs.PieceLists.{steps_append, pieces_append}
use Rattle.grammar_machine.proofs.MachineReads.{item_pieces, Belongs, items_steps, print_pieces, Reads}
use Rattle.grammar_machine.proofs.MachineBack.{TakesBack, MoveBack}
use Rattle.grammar_machine.proofs.FormBack.{through_form, behind_step, key_back, sign_back, expression_back, expr_back, expr_if_back, target_back, name_back, fn_name_back, literal_back, quoted_back, item_back}

-- ---- elements

-- an element, and what follows it
abbrev pub ReadsItem : Sequence → (Item → Form) → List LevelStep → Value → Type 0
ReadsItem s g p v = (item : Item) × (q : List LevelStep) × (p ≡ pieces_steps (item_pieces item) ++ q) × Belongs s item × ArePieces (item_pieces item) × Reads (g item) q v

-- the steps of a shape
abbrev pub ReadsShape : (Shape → Form) → List LevelStep → Value → Type 0
ReadsShape g p v = (s : Shape) × (q : List LevelStep) × (p ≡ pieces_steps (shape s) ++ q) × ArePieces (shape s) × Reads (g s) q v

pub shape_read : (g : Shape → Form) (p : List LevelStep) (v : Value) → Reads (shape_form g) p v → ReadsShape g p v
shape_read g p v h =
    let o = h.4 in
    let f = o.2 in
    elim f.4 as (λ x. ReadsShape g p v) [
      | inl c ↦
          (let n = c.2 in
          let e = n.4 in
          (record { name = h.0; first = f.0; second = Some n.0 }, e.0, rw (h.2, o.1, f.2, c.1, n.2, e.1) refl, (h.3, (tt, (f.3, (tt, (n.3, (tt, (tt, tt))))))), e.2))
      | inr e ↦
          (record { name = h.0; first = f.0; second = None }, e.0, rw (h.2, o.1, f.2, e.1) refl, (h.3, (tt, (f.3, (tt, (tt, tt))))), e.2)
    ]

-- ---- the elements of each list

abbrev ReadsFile : Shape → (Item → Form) → List LevelStep → Value → Type 0
ReadsFile s g p v = (item : Item) × (q : List LevelStep) × (pieces_steps (shape s) ++ p ≡ pieces_steps (item_pieces item) ++ q) × Belongs FileShapes item × ArePieces (item_pieces item) × Reads (g item) q v

no_size : (s : Shape) (g : Item → Form) (p : List LevelStep) (v : Value) → ArePieces (shape s) → Reads (g (FileItem (record { shape = s; size = None }))) p v → ReadsFile s g p v
no_size s g p v i h = (FileItem (record { shape = s; size = None }), p, ap (λ x. pieces_steps x ++ p) (sym (append-nil (shape s))), tt, subst (λ x. ArePieces x) (sym (append-nil (shape s))) i, h)

file_read : (s : Shape) (g : Item → Form) (p : List LevelStep) (v : Value) (t : Bool) → s.name.text ≡ t → ArePieces (shape s) → Reads (size_form t (λ size. g (FileItem (record { shape = s; size = size })))) p v → ReadsFile s g p v
file_read s g p v false e i h = no_size s g p v i h
file_read s g p v true e i h =
    elim h as (λ x. ReadsFile s g p v) [
      | inl y ↦
          (let n = y.2 in (
            FileItem (record { shape = s; size = Some n.0 }),
            n.1,
            rw (y.1, n.2) (sym (append_assoc (pieces_steps (shape s)) (mark sign.Equal ∷ Plain (Number n.0) ∷ []) n.1) ∙ ap (λ x. x ++ n.1) (sym (steps_append (shape s) (element_size s.name n.0)))),
            tt,
            pieces_append (shape s) (element_size s.name n.0) i (e, (tt, (n.3, tt))),
            n.4,
          ))
      | inr y ↦ no_size s g p v i y
    ]

pub item_read : (s : Sequence) (g : Item → Form) (p : List LevelStep) (v : Value) → Reads (item_form s g) p v → ReadsItem s g p v
item_read (Targets w) g p v h = (TargetItem h.0, h.1, h.2 ∙ ap (λ x. x ++ h.1) (sym (append-nil (steps_of h.0))), h.4, (h.5, ((h.3, tt), tt)), h.6)
item_read Shapes g p v h = let s = shape_read (λ s. g (ShapeItem s)) p v h in (ShapeItem s.0, s.1, s.2, tt, s.3, s.4)
item_read FileShapes g p v h =
    let s = shape_read (λ s. size_form s.name.text (λ size. g (FileItem (record { shape = s; size = size })))) p v h in
    let f = file_read s.0 g s.1 v s.0.name.text refl s.3 s.4 in
    (f.0, f.1, s.2 ∙ f.2, f.3, f.4, f.5)
item_read Parameters g p v h = (NameItem h.0, h.1, h.2, tt, (tt, tt), h.4)
item_read Arrays g p v h = (NameItem h.0, h.1, h.2, h.3, (tt, tt), h.4)
item_read Lines g p v h = (LineItem h.0, h.1, h.2, tt, (h.3, tt), h.4)
item_read Channels g p v h =
    elim h as (λ x. ReadsItem Channels g p v) [
      | inl c ↦
          (let t = c.2 in
          (ChannelItem (record { hash = true; number = t.0 }), t.1, c.1 ∙ ap (λ x. mark sign.Hash ∷ x) (t.2 ∙ ap (λ x. x ++ t.1) (sym (append-nil (steps_of t.0)))), tt, (tt, ((t.3, t.4), tt)), t.5))
      | inr t ↦ (ChannelItem (record { hash = false; number = t.0 }), t.1, t.2 ∙ ap (λ x. x ++ t.1) (sym (append-nil (steps_of t.0))), tt, ((t.3, t.4), tt), t.5)
    ]
item_read FieldParts g p v h =
    let k = h.5 in
    let n = k.2 in
    (FieldItem (record { width = h.0; name = n.0 }), n.1, h.2 ∙ ap (λ x. steps_of h.0 ++ x) (k.1 ∙ ap (λ x. Plain (Key keyword.As) ∷ x) n.2) ∙ sym (append_assoc (steps_of h.0) (Plain (Key keyword.As) ∷ Plain (Named n.0) ∷ []) n.1), tt, ((h.3, h.4), (tt, (n.3, tt))), n.4)

-- ---- lists

-- if more of a list is read after its first elements, so it is after one element less
pub one_item_more : (s : Sequence) (items : List Item) (g : List Item → Form) (p : List LevelStep) (v : Value) → has_room s items ≡ true → Reads (item_form s (λ item. MoreOf s (items ++ item ∷ []) g)) p v → Reads (MoreOf s items g) (mark sign.Comma ∷ p) v
one_item_more s items g p v room h =
    let i = item_read s (λ item. MoreOf s (items ++ item ∷ []) g) p v h in
    let m = i.5 in (
      i.0 ∷ m.0,
      m.1,
      ap (λ x. mark sign.Comma ∷ x) (i.2 ∙ ap (λ x. pieces_steps (item_pieces i.0) ++ x) m.2 ∙ sym (append_assoc (pieces_steps (item_pieces i.0)) (items_steps m.0) m.1)),
      (room, i.3, i.4, m.3),
      subst (λ x. Reads (g x) m.1 v) (append_assoc items (i.0 ∷ []) m.0) m.4,
    )

no_item_more : (s : Sequence) (items : List Item) (g : List Item → Form) (p : List LevelStep) (v : Value) → Reads (g items) p v → Reads (MoreOf s items g) p v
no_item_more s items g p v h = ([], p, refl, tt, subst (λ x. Reads (g x) p v) (sym (append-nil items)) h)

list_back : (s : Sequence) (items : List Item) (g : List Item → Form) (vs : Values) (o : Option Word) (m : MachineMove) → MoveBack (Go (g items)) vs o m → MoveBack (Go (MoreOf s items g)) vs o (more_of_list s items g vs o m)
list_back s items g vs (Some (Punctuation sign.Comma)) m back = go (has_room s items) refl where
  go : (b : Bool) → has_room s items ≡ b → MoveBack (Go (MoreOf s items g)) vs (Some (Punctuation sign.Comma)) (cond b (Shifts false vs (Go (item_form s (λ item. MoreOf s (items ++ item ∷ []) g)) ∷ [])) m)
  go true e = behind_step (MoreOf s items g) (item_form s (λ item. MoreOf s (items ++ item ∷ []) g)) vs false (Punctuation sign.Comma) (λ p v r. one_item_more s items g p v e r)
  go false e = through_form (MoreOf s items g) (g items) vs (Some (Punctuation sign.Comma)) (no_item_more s items g) m back
list_back s items g vs (Some (Punctuation t)) m back = through_form (MoreOf s items g) (g items) vs (Some (Punctuation t)) (no_item_more s items g) m back
list_back s items g vs (Some t) m back = through_form (MoreOf s items g) (g items) vs (Some t) (no_item_more s items g) m back
list_back s items g vs None m back = through_form (MoreOf s items g) (g items) vs None (no_item_more s items g) m back

-- ---- PRINT

-- what follows an item, as more of PRINT
abbrev ReadsPrinted : Option PrintChannelTree → List PrintItemTree → List WordPiece → List LevelStep → Value → Type 0
ReadsPrinted c items front p v = Reads (MorePrinted c items) (pieces_steps front ++ p) v

separated_item : (c : Option PrintChannelTree) (items : List PrintItemTree) (x : PrintedTree) (s : Separator) (q : List LevelStep) (v : Value) → ArePieces (printed x) → ArePieces (separator_piece s ∷ []) → Reads (MorePrinted c (items ++ record { printed = x; separator = s } ∷ [])) q v → ReadsPrinted c items (print_item (record { printed = x; separator = s })) q v
separated_item c items x s q v i j h = (
  record { printed = x; separator = s } ∷ h.0,
  h.1,
  ap (λ y. pieces_steps (print_item (record { printed = x; separator = s })) ++ y) h.2 ∙ sym (steps_append (print_item (record { printed = x; separator = s })) (print_pieces h.0 h.1)) ∙ ap (λ y. pieces_steps y) (sym (append_assoc (print_item (record { printed = x; separator = s })) _ _)),
  subst (λ y. ArePieces y) (sym (append_assoc (print_item (record { printed = x; separator = s })) _ _)) (pieces_append (print_item (record { printed = x; separator = s })) (print_pieces h.0 h.1) (pieces_append (printed x) (separator_piece s ∷ []) i j) h.3),
  ap (λ y. Stated (Print c y h.1)) (sym (append_assoc items (record { printed = x; separator = s } ∷ []) h.0)) ∙ h.4,
)

printed_read : (c : Option PrintChannelTree) (items : List PrintItemTree) (x : PrintedTree) (p : List LevelStep) (v : Value) → ArePieces (printed x) → Reads (printed_form c items x) p v → ReadsPrinted c items (printed x) p v
printed_read c items x p v i h =
    elim h as (λ y. ReadsPrinted c items (printed x) p v) [
      | inl y ↦ subst (λ z. Reads (MorePrinted c items) z v) (ap (λ z. z ++ y.0) (steps_append (printed x) _) ∙ append_assoc (pieces_steps (printed x)) _ y.0 ∙ ap (λ z. pieces_steps (printed x) ++ z) (sym y.1)) (separated_item c items x separator.Comma y.0 v i (tt, tt) y.2)
      | inr z ↦ elim z as (λ y. ReadsPrinted c items (printed x) p v) [
        | inl y ↦ subst (λ z. Reads (MorePrinted c items) z v) (ap (λ z. z ++ y.0) (steps_append (printed x) _) ∙ append_assoc (pieces_steps (printed x)) _ y.0 ∙ ap (λ z. pieces_steps (printed x) ++ z) (sym y.1)) (separated_item c items x separator.Semicolon y.0 v i (tt, tt) y.2)
        | inr y ↦ ([], Some x, ap (λ z. pieces_steps (printed x) ++ z) y.0 ∙ append-nil (pieces_steps (printed x)), i, ap (λ z. Stated (Print c z (Some x))) (append-nil items) ∙ y.1)
      ]
    ]

print_end : (c : Option PrintChannelTree) (items : List PrintItemTree) (vs : Values) (o : Option Word) → MoveBack (Go (MorePrinted c items)) vs o (Skips (Stated (Print c items None) ∷ vs))
print_end c items vs None = λ k q u s. ([], Stated (Print c items None), q, refl, ([], None, refl, tt, ap (λ z. Stated (Print c z None)) (append-nil items)), s)
print_end c items vs (Some t) = λ k q u s. ([], Stated (Print c items None), q, refl, ([], None, refl, tt, ap (λ z. Stated (Print c z None)) (append-nil items)), s)

tab_read : (c : Option PrintChannelTree) (items : List PrintItemTree) (p : List LevelStep) (v : Value) → Reads (tab_form c items) p v → Reads (MorePrinted c items) (Plain (Key keyword.Tab) ∷ p) v
tab_read c items p v h =
    let t = h.2 in
    let e = t.5 in
    subst (λ z. Reads (MorePrinted c items) z v)
    (ap (λ z. Plain (Key keyword.Tab) ∷ z) (ap (λ z. Opens (Punctuation sign.Opening) ∷ z) (append_assoc (steps_of t.0) (mark sign.Closing ∷ Closes ∷ []) e.0 ∙ ap (λ z. steps_of t.0 ++ z) (sym e.1) ∙ sym t.2) ∙ sym h.1))
    (printed_read c items (Tab t.0) e.0 v (tt, (tt, ((t.3, t.4), (tt, (tt, tt))))) e.2)

print_back : (c : Option PrintChannelTree) (items : List PrintItemTree) (vs : Values) (o : Option Word) → MoveBack (Go (MorePrinted c items)) vs o (more_printed c items vs o)
print_back c items vs o =
    key_back (Go (MorePrinted c items)) false keyword.Tab vs o (Go (tab_form c items) ∷ []) (expression_if begins_value want.Either (λ t. printed_form c items (ValueOf t)) vs o (Skips (Stated (Print c items None) ∷ vs)))
    (behind_step (MorePrinted c items) (tab_form c items) vs false (Key keyword.Tab) (tab_read c items))
    (value_back o) where
      value_back : (o : Option Word) → MoveBack (Go (MorePrinted c items)) vs o (expression_if begins_value want.Either (λ t. printed_form c items (ValueOf t)) vs o (Skips (Stated (Print c items None) ∷ vs)))
      value_back None = print_end c items vs None
      value_back (Some t) = go (begins_value t) where
        go : (b : Bool) → MoveBack (Go (MorePrinted c items)) vs (Some t) (cond b (expression want.Either (λ t. printed_form c items (ValueOf t)) vs (Some t)) (Skips (Stated (Print c items None) ∷ vs)))
        go true = expression_back (MorePrinted c items) want.Either (λ t. printed_form c items (ValueOf t)) vs t (λ x p v i f e r. subst (λ z. Reads (MorePrinted c items) (z ++ p) v) (append-nil (steps_of x)) (printed_read c items (ValueOf x) p v ((i, tt), tt) r))
        go false = print_end c items vs (Some t)

-- ---- PRINT USING

-- what follows a value, as more of PRINT USING
abbrev ReadsUsed : Option Tree → Tree → List UsingItemTree → Tree → List LevelStep → Value → Type 0
ReadsUsed c format values t p v = Reads (MoreUsing c format values) (steps_of t ++ p) v

separated_value : (c : Option Tree) (format : Tree) (values : List UsingItemTree) (t : Tree) (s : Separator) (step : LevelStep) (q : List LevelStep) (v : Value) → separator_piece s ≡ Fixed step → IsPiece (Expression want.Either t) → Reads (MoreUsing c format (values ++ record { value = t; separator = s } ∷ [])) q v → ReadsUsed c format values t (step ∷ q) v
separated_value c format values t s step q v e i h =
    let one : List WordPiece = using_item (record { value = t; separator = s }) in
    let same : one ++ using_values h.0 h.1 ≡ using_values (record { value = t; separator = s } ∷ h.0) h.1 = sym (append_assoc one (each using_item h.0) (optional (λ x. Expression want.Either x ∷ []) h.1)) in
    let steps : pieces_steps (separator_piece s ∷ []) ≡ step ∷ [] = rw e refl in
    let there : pieces_steps one ++ q ≡ steps_of t ++ step ∷ q = append_assoc (steps_of t) (pieces_steps (separator_piece s ∷ [])) q ∙ ap (λ x. steps_of t ++ (x ++ q)) steps in (
      record { value = t; separator = s } ∷ h.0,
      h.1,
      sym there ∙ ap (λ x. pieces_steps one ++ x) h.2 ∙ sym (steps_append one (using_values h.0 h.1)) ∙ ap (λ x. pieces_steps x) same,
      subst (λ x. ArePieces x) same (pieces_append one (using_values h.0 h.1) (i, (rw e tt, tt)) h.3),
      ap (λ x. Stated (PrintUsing c format x h.1)) (sym (append_assoc values (record { value = t; separator = s } ∷ []) h.0)) ∙ h.4,
    )

value_read : (c : Option Tree) (format : Tree) (values : List UsingItemTree) (t : Tree) (p : List LevelStep) (v : Value) → IsPiece (Expression want.Either t) → Reads (using_value_form c format values t) p v → ReadsUsed c format values t p v
value_read c format values t p v i h =
    elim h as (λ x. ReadsUsed c format values t p v) [
      | inl y ↦ subst (λ z. ReadsUsed c format values t z v) (sym y.1) (separated_value c format values t separator.Comma _ y.0 v refl i y.2)
      | inr z ↦ elim z as (λ x. ReadsUsed c format values t p v) [
        | inl y ↦ subst (λ z. ReadsUsed c format values t z v) (sym y.1) (separated_value c format values t separator.Semicolon _ y.0 v refl i y.2)
        | inr y ↦ ([], Some t, ap (λ z. steps_of t ++ z) y.0, (i, tt), ap (λ z. Stated (PrintUsing c format z (Some t))) (append-nil values) ∙ y.1)
      ]
    ]

using_end : (c : Option Tree) (format : Tree) (values : List UsingItemTree) (vs : Values) (o : Option Word) → MoveBack (Go (MoreUsing c format values)) vs o (Skips (Stated (PrintUsing c format values None) ∷ vs))
using_end c format values vs None = λ k q u s. ([], Stated (PrintUsing c format values None), q, refl, ([], None, refl, tt, ap (λ z. Stated (PrintUsing c format z None)) (append-nil values)), s)
using_end c format values vs (Some t) = λ k q u s. ([], Stated (PrintUsing c format values None), q, refl, ([], None, refl, tt, ap (λ z. Stated (PrintUsing c format z None)) (append-nil values)), s)

using_back : (c : Option Tree) (format : Tree) (values : List UsingItemTree) (vs : Values) (o : Option Word) → MoveBack (Go (MoreUsing c format values)) vs o (more_using c format values vs o)
using_back c format values vs None = using_end c format values vs None
using_back c format values vs (Some t) = go (begins_value t) where
  go : (b : Bool) → MoveBack (Go (MoreUsing c format values)) vs (Some t) (cond b (expression want.Either (λ x. using_value_form c format values x) vs (Some t)) (Skips (Stated (PrintUsing c format values None) ∷ vs)))
  go true = expression_back (MoreUsing c format values) want.Either (λ x. using_value_form c format values x) vs t (λ x p v i f e r. value_read c format values x p v (i, f) r)
  go false = using_end c format values vs (Some t)

-- ---- every form

made_back : (w : Value) (vs : Values) (o : Option Word) → MoveBack (Go (Made w)) vs o (Skips (w ∷ vs))
made_back w vs None = λ k q u s. ([], w, q, refl, (refl, refl), s)
made_back w vs (Some t) = λ k q u s. ([], w, q, refl, (refl, refl), s)

closing_back : (f : Form) (vs : Values) → TakesBack false (Go (TakeClosing f)) vs vs (Punctuation sign.Closing) (Close ∷ Go f ∷ [])
closing_back f vs = λ k q u s. let x = s.2 in (mark sign.Closing ∷ Closes ∷ x.0, x.1, x.2, ap (λ y. mark sign.Closing ∷ y) (s.1 ∙ ap (λ y. Closes ∷ y) x.3), (x.0, refl, x.4), x.5)

refused : (f : Form) (vs : Values) (o : Option Word) → MoveBack (Go f) vs o Refuses
refused f vs None = tt
refused f vs (Some t) = tt

-- what clauses do, given
abbrev pub ClauseMove : Type 0
ClauseMove = (ClauseTree → Form) → Values → Option Word → MachineMove

pub form_back : (clause : ClauseMove) → ((g : ClauseTree → Form) (vs : Values) (o : Option Word) → MoveBack (Go (ClauseIn g)) vs o (clause g vs o)) → (f : Form) (vs : Values) (o : Option Word) → MoveBack (Go f) vs o (form_move_with clause f vs o)
form_back c cb (Made w) vs o = made_back w vs o
form_back c cb (TakeKey opens k f) vs o = key_back (Go (TakeKey opens k f)) opens k vs o (Go f ∷ []) Refuses (behind_step (TakeKey opens k f) f vs opens (Key k) (λ p v r. (p, refl, r))) (refused (TakeKey opens k f) vs o)
form_back c cb (TakeSign opens s f) vs o = sign_back (Go (TakeSign opens s f)) opens s vs o (Go f ∷ []) Refuses (behind_step (TakeSign opens s f) f vs opens (Punctuation s) (λ p v r. (p, refl, r))) (refused (TakeSign opens s f) vs o)
form_back c cb (TakeClosing f) vs o = sign_back (Go (TakeClosing f)) false sign.Closing vs o (Close ∷ Go f ∷ []) Refuses (closing_back f vs) (refused (TakeClosing f) vs o)
form_back c cb (IfKey opens k f h) vs o = key_back (Go (IfKey opens k f h)) opens k vs o (Go f ∷ []) (form_move_with c h vs o) (behind_step (IfKey opens k f h) f vs opens (Key k) (λ p v r. inl (p, refl, r))) (through_form (IfKey opens k f h) h vs o (λ p v r. inr r) (form_move_with c h vs o) (form_back c cb h vs o))
form_back c cb (IfSign opens s f h) vs o = sign_back (Go (IfSign opens s f h)) opens s vs o (Go f ∷ []) (form_move_with c h vs o) (behind_step (IfSign opens s f h) f vs opens (Punctuation s) (λ p v r. inl (p, refl, r))) (through_form (IfSign opens s f h) h vs o (λ p v r. inr r) (form_move_with c h vs o) (form_back c cb h vs o))
form_back c cb (ExprOf w g) vs o = expr_back w g vs o
form_back c cb (ExprIf test w g h) vs o = expr_if_back test w g h vs o (form_move_with c h vs o) (form_back c cb h vs o)
form_back c cb (TargetOf w g) vs o = target_back w g vs o
form_back c cb (NameIn w g) vs o = name_back w g vs o
form_back c cb (FnNameIn g) vs o = fn_name_back g vs o
form_back c cb (LiteralIn limit g) vs o = literal_back (LiteralIn limit g) limit g vs o Refuses (λ n p v e r. (n, p, refl, e, r)) (refused (LiteralIn limit g) vs o)
form_back c cb (LiteralIf limit g h) vs o = literal_back (LiteralIf limit g h) limit g vs o (form_move_with c h vs o) (λ n p v e r. inl (n, p, refl, e, r)) (through_form (LiteralIf limit g h) h vs o (λ p v r. inr r) (form_move_with c h vs o) (form_back c cb h vs o))
form_back c cb (QuotedIf g h) vs o = quoted_back (QuotedIf g h) g vs o (form_move_with c h vs o) (λ text p v r. inl (text, p, refl, r)) (through_form (QuotedIf g h) h vs o (λ p v r. inr r) (form_move_with c h vs o) (form_back c cb h vs o))
form_back c cb (ItemIn g) vs o = item_back (ItemIn g) g vs o Refuses (λ item p v r. (item, p, refl, r)) (refused (ItemIn g) vs o)
form_back c cb (MoreItems items g) vs o = item_back (MoreItems items g) (λ item. MoreItems (items ++ item ∷ []) g) vs o (form_move_with c (g items) vs o) (λ item p v r. (item ∷ r.0, r.1, ap (λ x. Plain (ItemOf item) ∷ x) r.2, subst (λ x. Reads (g x) r.1 v) (append_assoc items (item ∷ []) r.0) r.3)) (through_form (MoreItems items g) (g items) vs o (λ p v r. ([], p, refl, subst (λ x. Reads (g x) p v) (sym (append-nil items)) r)) (form_move_with c (g items) vs o) (form_back c cb (g items) vs o))
form_back c cb (MoreOf s items g) vs o = list_back s items g vs o (form_move_with c (g items) vs o) (form_back c cb (g items) vs o)
form_back c cb (MorePrinted ch items) vs o = print_back ch items vs o
form_back c cb (MoreUsing d format values) vs o = using_back d format values vs o
form_back c cb (ClauseIn g) vs o = cb g vs o

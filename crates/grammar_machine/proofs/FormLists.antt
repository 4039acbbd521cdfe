-- Lists that are separated by commas: how their forms read them, and what they are made of.
use Rattle.std.proofs.Common.{subst, ◌≡◌, ◌+◌, ℕ, ◌≤◌, ◌<◌, Bool, true, false, List, [], ◌∷◌, ◌++◌, length, Option, Some, None, refl, sym, ap, append_assoc, arith, length-append}
use Rattle.std.proofs.lemmas.List.{append-nil}
use Rattle.basic_tree.specs.declared.names.Name.{Name}
use Rattle.basic_tree.specs.declared.tokens.Sign.TheVariants as sign
use Rattle.basic_tree.specs.declared.kinds.Want.{Want}
use Rattle.basic_tree.specs.declared.parts.Shape.{Shape}
use Rattle.basic_tree.specs.declared.parts.FileShape.{FileShape}
use Rattle.basic_tree.specs.SpellingWords.{Punctuation}
use Rattle.basic_tree.specs.Trees.{Tree, CloseChannelTree, FieldPartTree}
use Rattle.basic_tree.specs.SpellingPieces.{optional, WordPiece, ArePieces, sign_piece, line, target, after_commas, many}
use Rattle.basic_tree.specs.SpellingParts.{shape, file_shape, element_size, name, array, close_channel, field_part}
use Rattle.grammar_machine.specs.MachineStack.{Value, Item, TargetItem, ShapeItem, FileItem, NameItem, LineItem, ChannelItem, FieldItem, Sequence, Targets, Shapes, FileShapes, Parameters, Arrays, Lines, Channels, FieldParts, Form, MoreOf}
use Rattle.grammar_machine.specs.MachineForms.{item_form, shape_form, size_form, has_room, list_form, targets_in, shapes_in, files_in, names_in, lines_in, channels_in, parts_in}
use Rattle.grammar_machine.proofs.PieceLists.{pieces_append, pieces_split}
use Rattle.grammar_machine.proofs.FormReads.{Reads, stopping, absent}
use Rattle.grammar_machine.proofs.FormParts.{read_holds, read_key, read_if_sign, read_not_sign, read_opening, read_closing, read_expr, read_target, read_name, read_literal, read_one_more, read_no_more}

-- ---- any list

abbrev pub each_item : {A : Type 0} → (A → Item) → List A → List Item
each_item item [] = []
each_item item (a ∷ more) = item a ∷ each_item item more

-- the form of an element reads its pieces, if the test is true of what follows
abbrev pub ReadsOne : {A : Type 0} → Bool → Bool → Value → Sequence → (A → List WordPiece) → (A → Item) → (List WordPiece → Bool) → Type 0
ReadsOne {A = A} e d v s pieces item fit = (a : A) (h : Item → Form) (ps : List WordPiece) → ArePieces (pieces a) → ArePieces ps → fit ps ≡ true → Reads e d (h (item a)) ps v → Reads e d (item_form s h) (pieces a ++ ps) v

-- a list can take this many more elements
abbrev pub HasRoom : Sequence → ℕ → Type 0
HasRoom s limit = (items : List Item) → length items < limit → has_room s items ≡ true

abbrev pub CommaFits : (List WordPiece → Bool) → Type 0
CommaFits fit = (ps : List WordPiece) → fit (sign_piece sign.Comma ∷ ps) ≡ true

pub fits_behind : {A : Type 0} (pieces : A → List WordPiece) (fit : List WordPiece → Bool) → CommaFits fit → (more : List A) (ps : List WordPiece) → fit ps ≡ true → fit (after_commas pieces more ++ ps) ≡ true
fits_behind pieces fit c [] ps h = h
fits_behind pieces fit c (a ∷ more) ps h = c _

pub read_more : {A : Type 0} {e d : Bool} {v : Value} (s : Sequence) (pieces : A → List WordPiece) (item : A → Item) (fit : List WordPiece → Bool) (limit : ℕ) → ReadsOne e d v s pieces item fit → CommaFits fit → HasRoom s limit → (more : List A) (items : List Item) (g : List Item → Form) (ps : List WordPiece) → length items + length more ≤ limit → ArePieces (after_commas pieces more) → ArePieces ps → fit ps ≡ true → absent (Punctuation sign.Comma) ps ≡ true → Reads e d (g (items ++ each_item item more)) ps v → Reads e d (MoreOf s items g) (after_commas pieces more ++ ps) v
read_more {e = e} {d = d} {v = v} s pieces item fit limit one c room [] items g ps b a q f n h = read_no_more n q (subst (λ x. Reads e d (g x) ps v) (append-nil items) h)
read_more {e = e} {d = d} {v = v} s pieces item fit limit one c room (x ∷ more) items g ps b a q f n h =
    let parts : ArePieces (pieces x) × ArePieces (after_commas pieces more) = pieces_split (pieces x) (after_commas pieces more) a.1 in
    let counted : length (items ++ item x ∷ []) + length more ≤ limit = rw length-append (omega (arith, b)) in
    let others : Reads e d (g ((items ++ item x ∷ []) ++ each_item item more)) ps v = subst (λ y. Reads e d (g y) ps v) (sym (append_assoc items (item x ∷ []) (each_item item more))) h in
    read_one_more (room items (omega (arith, b)))
    (subst (λ y. Reads e d (item_form s (λ i. MoreOf s (items ++ i ∷ []) g)) y v) (sym (append_assoc (pieces x) (after_commas pieces more) ps))
    (one x (λ i. MoreOf s (items ++ i ∷ []) g) (after_commas pieces more ++ ps) parts.0 (pieces_append (after_commas pieces more) ps parts.1 q) (fits_behind pieces fit c more ps f)
    (read_more s pieces item fit limit one c room more (items ++ item x ∷ []) g ps counted parts.1 q f n others)))

pub read_list : {A : Type 0} {e d : Bool} {v : Value} (s : Sequence) (pieces : A → List WordPiece) (item : A → Item) (fit : List WordPiece → Bool) (limit : ℕ) → ReadsOne e d v s pieces item fit → CommaFits fit → HasRoom s limit → (list : List A) (g : List Item → Form) (ps : List WordPiece) → length list ≤ limit → ArePieces (many pieces list) → ArePieces ps → fit ps ≡ true → absent (Punctuation sign.Comma) ps ≡ true → Reads e d (g (each_item item list)) ps v → Reads e d (list_form s g) (many pieces list ++ ps) v
read_list s pieces item fit limit one c room [] g ps b a q f n h = absurd cc
read_list {e = e} {d = d} {v = v} s pieces item fit limit one c room (x ∷ more) g ps b a q f n h =
    let parts : ArePieces (pieces x) × ArePieces (after_commas pieces more) = pieces_split (pieces x) (after_commas pieces more) a in
    subst (λ y. Reads e d (item_form s (λ i. MoreOf s (i ∷ []) g)) y v) (sym (append_assoc (pieces x) (after_commas pieces more) ps))
    (one x (λ i. MoreOf s (i ∷ []) g) (after_commas pieces more ++ ps) parts.0 (pieces_append (after_commas pieces more) ps parts.1 q) (fits_behind pieces fit c more ps f)
    (read_more s pieces item fit limit one c room more (item x ∷ []) g ps (omega (arith, b)) parts.1 q f n h))

-- a list at the end of a statement
pub read_last_list : {A : Type 0} {e d : Bool} {v : Value} (s : Sequence) (pieces : A → List WordPiece) (item : A → Item) (fit : List WordPiece → Bool) → ReadsOne e d v s pieces item fit → CommaFits fit → ((items : List Item) → has_room s items ≡ true) → (list : List A) (g : List Item → Form) → ArePieces (many pieces list) → fit [] ≡ true → Reads e d (g (each_item item list)) [] v → Reads e d (list_form s g) (many pieces list) v
read_last_list {e = e} {d = d} {v = v} s pieces item fit one c room list g a f h =
    subst (λ y. Reads e d (list_form s g) y v) (append-nil (many pieces list))
    (read_list s pieces item fit (length list) one c (λ items b. room items) list g [] (omega arith) a tt f refl h)

-- ---- the elements of each list

pub targets_back : (ts : List Tree) → targets_in (each_item TargetItem ts) ≡ ts
targets_back [] = refl
targets_back (t ∷ ts) = ap (λ x. t ∷ x) (targets_back ts)

pub shapes_back : (ts : List Shape) → shapes_in (each_item ShapeItem ts) ≡ ts
shapes_back [] = refl
shapes_back (t ∷ ts) = ap (λ x. t ∷ x) (shapes_back ts)

pub files_back : (ts : List FileShape) → files_in (each_item FileItem ts) ≡ ts
files_back [] = refl
files_back (t ∷ ts) = ap (λ x. t ∷ x) (files_back ts)

pub names_back : (ts : List Name) → names_in (each_item NameItem ts) ≡ ts
names_back [] = refl
names_back (t ∷ ts) = ap (λ x. t ∷ x) (names_back ts)

pub lines_back : (ts : List ℕ) → lines_in (each_item LineItem ts) ≡ ts
lines_back [] = refl
lines_back (t ∷ ts) = ap (λ x. t ∷ x) (lines_back ts)

pub channels_back : (ts : List CloseChannelTree) → channels_in (each_item ChannelItem ts) ≡ ts
channels_back [] = refl
channels_back (t ∷ ts) = ap (λ x. t ∷ x) (channels_back ts)

pub parts_back : (ts : List FieldPartTree) → parts_in (each_item FieldItem ts) ≡ ts
parts_back [] = refl
parts_back (t ∷ ts) = ap (λ x. t ∷ x) (parts_back ts)

-- ---- each element

pub one_target : {e d : Bool} {v : Value} (w : Want) → ReadsOne e d v (Targets w) (λ t. target w t) TargetItem (λ ps. absent (Punctuation sign.Opening) ps)
one_target w t h ps a q f r = read_target a.0 a.1.0 f q r

read_shape : {e : Bool} {v : Value} (n : Name) (first : ℕ) (second : Option ℕ) (g : Shape → Form) (ps : List WordPiece) → ArePieces (shape (record { name = n; first = first; second = second })) → ArePieces ps → Reads e false (g (record { name = n; first = first; second = second })) ps v → Reads e false (shape_form g) (shape (record { name = n; first = first; second = second }) ++ ps) v
read_shape n first None g ps a q h = read_name a.0 (read_opening (read_literal a.1.1.0 (read_not_sign refl (tt, (tt, q)) (read_closing h))))
read_shape n first (Some second) g ps a q h = read_name a.0 (read_opening (read_literal a.1.1.0 (read_if_sign (read_literal a.1.1.1.1.0 (read_closing h)))))

pub one_shape : {e : Bool} {v : Value} → ReadsOne e false v Shapes shape ShapeItem (λ ps. true)
one_shape s h ps a q f r = read_shape s.name s.first s.second (λ x. h (ShapeItem x)) ps a q r

pub one_name : {e d : Bool} {v : Value} → ReadsOne e d v Parameters name NameItem (λ ps. true)
one_name n h ps a q f r = read_name a.0 r

pub one_array : {e d : Bool} {v : Value} → ReadsOne e d v Arrays array NameItem (λ ps. true)
one_array n h ps a q f r = read_name a.0 r

pub one_line : {e d : Bool} {v : Value} → ReadsOne e d v Lines (λ n. line n ∷ []) LineItem (λ ps. true)
one_line n h ps a q f r = read_literal a.0 r

read_channel : {e d : Bool} {v : Value} (hash : Bool) (t : Tree) (h : Item → Form) (ps : List WordPiece) → ArePieces (close_channel (record { hash = hash; number = t })) → ArePieces ps → stopping ps ≡ true → Reads e d (h (ChannelItem (record { hash = hash; number = t }))) ps v → Reads e d (item_form Channels h) (close_channel (record { hash = hash; number = t }) ++ ps) v
read_channel true t h ps a q f r = read_if_sign (read_expr a.1.0 f r)
read_channel false t h ps a q f r = read_not_sign refl (a.0, q) (read_expr a.0 f r)

pub one_channel : {e d : Bool} {v : Value} → ReadsOne e d v Channels close_channel ChannelItem stopping
one_channel c h ps a q f r = read_channel c.hash c.number h ps a q f r

pub one_field : {e d : Bool} {v : Value} → ReadsOne e d v FieldParts field_part FieldItem (λ ps. true)
one_field p h ps a q f r = read_expr a.0 refl (read_key (read_name a.1.1.0 r))

read_size : {e d : Bool} {v : Value} (n : Name) (text : Bool) → n.text ≡ text → (size : Option ℕ) (g : Option ℕ → Form) (ps : List WordPiece) → ArePieces (optional (λ x. element_size n x) size) → ArePieces ps → absent (Punctuation sign.Equal) ps ≡ true → Reads e d (g size) ps v → Reads e d (size_form text g) (optional (λ x. element_size n x) size ++ ps) v
read_size n true e None g ps a q f r = read_not_sign f q r
read_size n true e (Some x) g ps a q f r = read_holds (read_if_sign (read_literal a.1.1.0 r))
read_size n false e None g ps a q f r = r
read_size n false e (Some x) g ps a q f r = absurd cc

pub one_file : {e : Bool} {v : Value} → ReadsOne e false v FileShapes file_shape FileItem (λ ps. absent (Punctuation sign.Equal) ps)
one_file {e = e} {v = v} s h ps a q f r =
    let sizes : List WordPiece = optional (λ x. element_size s.shape.name x) s.size in
    let parts : ArePieces (shape s.shape) × ArePieces sizes = pieces_split (shape s.shape) sizes a in
    subst (λ y. Reads e false (item_form FileShapes h) y v) (sym (append_assoc (shape s.shape) sizes ps))
    (read_shape s.shape.name s.shape.first s.shape.second (λ x. size_form x.name.text (λ size. h (FileItem (record { shape = x; size = size })))) (sizes ++ ps) parts.0 (pieces_append sizes ps parts.1 q)
    (read_size s.shape.name s.shape.name.text refl s.size (λ size. h (FileItem (record { shape = s.shape; size = size }))) ps parts.1 q f r))

-- What the steps of a form are, and as what they are read.
use Rattle.std.proofs.Common.{◌≡◌, ℕ, Bool, true, false, ◌⊎◌, List, [], ◌∷◌, ◌++◌, Option, Some, None}
use Rattle.basic_tree.specs.declared.tokens.Sign.TheVariants as sign
use Rattle.basic_tree.specs.declared.kinds.Want.TheVariants as want
use Rattle.basic_tree.specs.SpellingWords.{Word, Key, Punctuation, Named, FnNamed, Number, Quotation, LevelStep, Plain, Opens, Closes, words}
use Rattle.basic_tree.specs.SpellingWords.{Item as ItemOf}
use Rattle.basic_tree.specs.Trees.{Tree, Variable, PrintedTree, ModifierTree, PrintItemTree, UsingItemTree, ClauseTree, StatementTree, Modified, Print, PrintUsing}
use Rattle.basic_tree.specs.SpellingExpressions.{mark, steps_of, Fits, IsTree}
use Rattle.basic_tree.specs.SpellingPieces.{is_target, optional, each, WordPiece, Expression, Holds, pieces_steps, ArePieces, line, sign_piece}
use Rattle.basic_tree.specs.SpellingParts.{first_word, shape, file_shape, printed, print_item, using_values, name, modifier, close_channel, field_part}
use Rattle.basic_tree.specs.SpellingStatements.{clause_pieces, statement_pieces}
use Rattle.grammar_machine.specs.MachineStack.{Value, Stated, Item, TargetItem, ShapeItem, FileItem, NameItem, LineItem, ChannelItem, FieldItem, Sequence, Targets, Shapes, FileShapes, Parameters, Arrays, Lines, Channels, FieldParts, within, Form, Made, TakeKey, TakeSign, TakeClosing, IfKey, IfSign, ExprOf, ExprIf, TargetOf, NameIn, FnNameIn, LiteralIn, LiteralIf, QuotedIf, ItemIn, MoreItems, MoreOf, MorePrinted, MoreUsing, ClauseIn}
use Rattle.grammar_machine.specs.MachineForms.{has_room}

-- a word, which may open a nesting level
abbrev pub taken : Bool → Word → LevelStep
taken true t = Opens t
taken false t = Plain t

-- ---- elements of lists

abbrev pub item_pieces : Item → List WordPiece
item_pieces (TargetItem t) = Holds (is_target t) ∷ Expression want.Either t ∷ []
item_pieces (ShapeItem s) = shape s
item_pieces (FileItem s) = file_shape s
item_pieces (NameItem n) = name n
item_pieces (LineItem n) = line n ∷ []
item_pieces (ChannelItem c) = close_channel c
item_pieces (FieldItem part) = field_part part

-- the element is one of the list
abbrev pub Belongs : Sequence → Item → Type 0
Belongs (Targets w) (TargetItem t) = Fits w t
Belongs Shapes (ShapeItem s) = Unit {0}
Belongs FileShapes (FileItem s) = Unit {0}
Belongs Parameters (NameItem n) = Unit {0}
Belongs Arrays (NameItem n) = Fits want.Number (Variable n)
Belongs Lines (LineItem n) = Unit {0}
Belongs Channels (ChannelItem c) = Unit {0}
Belongs FieldParts (FieldItem part) = Unit {0}
Belongs s item = ⊥

-- the elements after those before, each after a comma
abbrev pub AreItems : Sequence → List Item → List Item → Type 0
AreItems s before [] = Unit {0}
AreItems s before (item ∷ items) = (has_room s before ≡ true) × Belongs s item × ArePieces (item_pieces item) × AreItems s (before ++ item ∷ []) items

abbrev pub items_steps : List Item → List LevelStep
items_steps [] = []
items_steps (item ∷ items) = mark sign.Comma ∷ (pieces_steps (item_pieces item) ++ items_steps items)

-- the items of DATA
abbrev pub data_steps : List (List ℕ) → List LevelStep
data_steps [] = []
data_steps (item ∷ items) = Plain (ItemOf item) ∷ data_steps items

-- ---- forms

abbrev pub passes_first : (Word → Bool) → Option Word → Bool
passes_first test None = false
passes_first test (Some t) = test t

abbrev pub print_pieces : List PrintItemTree → Option PrintedTree → List WordPiece
print_pieces items last = each print_item items ++ optional printed last

-- the steps are those of the form, and are read as the value
abbrev pub Reads : Form → List LevelStep → Value → Type 0
Reads (Made v) p u = (p ≡ []) × (v ≡ u)
Reads (TakeKey opens k f) p u = (q : List LevelStep) × (p ≡ taken opens (Key k) ∷ q) × Reads f q u
Reads (TakeSign opens s f) p u = (q : List LevelStep) × (p ≡ taken opens (Punctuation s) ∷ q) × Reads f q u
Reads (TakeClosing f) p u = (q : List LevelStep) × (p ≡ mark sign.Closing ∷ Closes ∷ q) × Reads f q u
Reads (IfKey opens k f h) p u = ((q : List LevelStep) × (p ≡ taken opens (Key k) ∷ q) × Reads f q u) ⊎ Reads h p u
Reads (IfSign opens s f h) p u = ((q : List LevelStep) × (p ≡ taken opens (Punctuation s) ∷ q) × Reads f q u) ⊎ Reads h p u
Reads (ExprOf w g) p u = (t : Tree) × (q : List LevelStep) × (p ≡ steps_of t ++ q) × IsTree t × Fits w t × Reads (g t) q u
Reads (ExprIf test w g h) p u = ((t : Tree) × (q : List LevelStep) × (p ≡ steps_of t ++ q) × IsTree t × Fits w t × (passes_first test (first_word (words (steps_of t))) ≡ true) × Reads (g t) q u) ⊎ Reads h p u
Reads (TargetOf w g) p u = (t : Tree) × (q : List LevelStep) × (p ≡ steps_of t ++ q) × IsTree t × Fits w t × (is_target t ≡ true) × Reads (g t) q u
Reads (NameIn w g) p u = (n : _) × (q : List LevelStep) × (p ≡ Plain (Named n) ∷ q) × Fits w (Variable n) × Reads (g n) q u
Reads (FnNameIn g) p u = (n : _) × (q : List LevelStep) × (p ≡ Plain (FnNamed n) ∷ q) × Reads (g n) q u
Reads (LiteralIn limit g) p u = (n : ℕ) × (q : List LevelStep) × (p ≡ Plain (Number n) ∷ q) × (within limit n ≡ true) × Reads (g n) q u
Reads (LiteralIf limit g h) p u = ((n : ℕ) × (q : List LevelStep) × (p ≡ Plain (Number n) ∷ q) × (within limit n ≡ true) × Reads (g n) q u) ⊎ Reads h p u
Reads (QuotedIf g h) p u = ((text : List ℕ) × (q : List LevelStep) × (p ≡ Plain (Quotation text) ∷ q) × Reads (g text) q u) ⊎ Reads h p u
Reads (ItemIn g) p u = (item : List ℕ) × (q : List LevelStep) × (p ≡ Plain (ItemOf item) ∷ q) × Reads (g item) q u
Reads (MoreItems items g) p u = (more : List (List ℕ)) × (q : List LevelStep) × (p ≡ data_steps more ++ q) × Reads (g (items ++ more)) q u
Reads (MoreOf s items g) p u = (more : List Item) × (q : List LevelStep) × (p ≡ items_steps more ++ q) × AreItems s items more × Reads (g (items ++ more)) q u
Reads (MorePrinted c items) p u = (more : List PrintItemTree) × (last : Option PrintedTree) × (p ≡ pieces_steps (print_pieces more last)) × ArePieces (print_pieces more last) × (Stated (Print c (items ++ more) last) ≡ u)
Reads (MoreUsing c format values) p u = (more : List UsingItemTree) × (last : Option Tree) × (p ≡ pieces_steps (using_values more last)) × ArePieces (using_values more last) × (Stated (PrintUsing c format (values ++ more) last) ≡ u)
Reads (ClauseIn g) p u = (c : ClauseTree) × (q : List LevelStep) × (p ≡ pieces_steps (clause_pieces c) ++ Closes ∷ q) × ArePieces (clause_pieces c) × Reads (g c) q u

-- ---- modifiers and lines

abbrev pub modifiers_steps : List ModifierTree → List LevelStep
modifiers_steps [] = []
modifiers_steps (m ∷ ms) = pieces_steps (modifier m) ++ (modifiers_steps ms ++ Closes ∷ [])

abbrev pub AreModifiers : List ModifierTree → Type 0
AreModifiers [] = Unit {0}
AreModifiers (m ∷ ms) = ArePieces (modifier m) × AreModifiers ms

abbrev pub modified_by : StatementTree → List ModifierTree → StatementTree
modified_by s [] = s
modified_by s (m ∷ ms) = modified_by (Modified s m) ms

-- a statement of a line, or none
abbrev pub place_pieces : Option StatementTree → List WordPiece
place_pieces s = optional statement_pieces s

abbrev pub separated : Option StatementTree → List WordPiece
separated s = sign_piece sign.Colon ∷ place_pieces s

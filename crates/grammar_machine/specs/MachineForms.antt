-- The forms of statements: what each expects, word by word, and the tree that it makes. They serve
-- proofs only.
use Rattle.std.specs.Prelude.{ℕ, ◌+◌, ◌&&◌, nat_lt, Bool, true, false, List, [], ◌∷◌, ◌++◌, length, Option, Some, None}
use Rattle.basic_values.specs.declared.limits.TheConstants.{MOST_NUMBER}
use Rattle.basic_tree.specs.declared.names.Name.{Name}
use Rattle.basic_tree.specs.declared.tokens.Keyword.{Keyword}
use Rattle.basic_tree.specs.declared.tokens.Keyword.TheVariants as keyword
use Rattle.basic_tree.specs.declared.tokens.Sign.TheVariants as sign
use Rattle.basic_tree.specs.declared.expressions.Function.{Function}
use Rattle.basic_tree.specs.declared.kinds.Want.TheVariants as want
use Rattle.basic_tree.specs.declared.parts.Shape.{Shape}
use Rattle.basic_tree.specs.declared.parts.FileShape.{FileShape}
use Rattle.basic_tree.specs.declared.parts.Separator.TheVariants as separator
use Rattle.basic_tree.specs.declared.parts.OpenFor.{OpenFor}
use Rattle.basic_tree.specs.SpellingWords.{Word, Key, Punctuation, Named, FnNamed, Number, Quotation, words}
use Rattle.basic_tree.specs.Trees.{Tree, PrintedTree, PrintItemTree, PrintChannelTree, UsingItemTree, MatrixTree, Zero, One, Identity, Copy, Sum, Difference, Product, Scaled, Transposed, CloseChannelTree, FieldPartTree, ElseTree, NoElse, Else, StatementTree, Def, Let, Print, PrintUsing, Open}
use Rattle.basic_tree.specs.SpellingExpressions.{steps_of, is_text, want_of}
use Rattle.basic_tree.specs.SpellingParts.{last_word, may_follow}
use Rattle.grammar_machine.specs.GrammarWords.{function_of}
use Rattle.grammar_machine.specs.MachineStack.{Stated, Item, TargetItem, ShapeItem, FileItem, NameItem, LineItem, ChannelItem, FieldItem, Sequence, Targets, Shapes, FileShapes, Parameters, Arrays, Lines, Channels, FieldParts, LineNumber, Bound, Size, Form, Made, TakeKey, TakeSign, TakeClosing, IfKey, IfSign, ExprOf, TargetOf, NameIn, LiteralIn, MoreOf, MorePrinted, MoreUsing, ClauseIn}

-- ---- tests of words

abbrev pub is_known : Option Function → Bool
is_known None = false
is_known (Some f) = true

abbrev pub key_begins : Keyword → Bool
key_begins keyword.Not = true
key_begins k = is_known (function_of k)

-- a word with which an expression can begin
abbrev pub begins_value : Word → Bool
begins_value (Number n) = nat_lt n (MOST_NUMBER + 1)
begins_value (Quotation text) = true
begins_value (Named name) = true
begins_value (FnNamed name) = true
begins_value (Punctuation sign.Opening) = true
begins_value (Punctuation sign.Plus) = true
begins_value (Punctuation sign.Minus) = true
begins_value (Key k) = key_begins k
begins_value other = false

-- a word with which the number of CHAIN can begin, right after the program's name
abbrev pub chains : Tree → Word → Bool
chains t w = begins_value w && may_follow (last_word (words (steps_of t))) (Some w)

-- ---- elements of lists

abbrev pub shape_form : (Shape → Form) → Form
shape_form g =
    NameIn want.Either (λ name. TakeSign true sign.Opening (LiteralIn Bound (λ first.
    IfSign false sign.Comma (LiteralIn Bound (λ second. TakeClosing (g (record { name = name; first = first; second = Some second }))))
    (TakeClosing (g (record { name = name; first = first; second = None }))))))

abbrev pub size_form : Bool → (Option ℕ → Form) → Form
size_form true g = IfSign false sign.Equal (LiteralIn Size (λ n. g (Some n))) (g None)
size_form false g = g None

abbrev pub item_form : Sequence → (Item → Form) → Form
item_form (Targets w) g = TargetOf w (λ t. g (TargetItem t))
item_form Shapes g = shape_form (λ s. g (ShapeItem s))
item_form FileShapes g = shape_form (λ s. size_form s.name.text (λ size. g (FileItem (record { shape = s; size = size }))))
item_form Parameters g = NameIn want.Either (λ name. g (NameItem name))
item_form Arrays g = NameIn want.Number (λ name. g (NameItem name))
item_form Lines g = LiteralIn LineNumber (λ n. g (LineItem n))
item_form Channels g =
    IfSign false sign.Hash (ExprOf want.Number (λ t. g (ChannelItem (record { hash = true; number = t }))))
    (ExprOf want.Number (λ t. g (ChannelItem (record { hash = false; number = t }))))
item_form FieldParts g =
    ExprOf want.Number (λ width. TakeKey false keyword.As (NameIn want.Text (λ name. g (FieldItem (record { width = width; name = name })))))

-- whether one more can follow: DEF has at most five parameters
abbrev pub has_room : Sequence → List Item → Bool
has_room Parameters items = nat_lt (length items) 5
has_room other items = true

-- one or more, separated by commas
abbrev pub list_form : Sequence → (List Item → Form) → Form
list_form s g = item_form s (λ item. MoreOf s (item ∷ []) g)

-- the elements of this list; elements of other lists are dropped
abbrev pub targets_in : List Item → List Tree
targets_in [] = []
targets_in (TargetItem t ∷ items) = t ∷ targets_in items
targets_in (other ∷ items) = targets_in items

abbrev pub shapes_in : List Item → List Shape
shapes_in [] = []
shapes_in (ShapeItem s ∷ items) = s ∷ shapes_in items
shapes_in (other ∷ items) = shapes_in items

abbrev pub files_in : List Item → List FileShape
files_in [] = []
files_in (FileItem s ∷ items) = s ∷ files_in items
files_in (other ∷ items) = files_in items

abbrev pub names_in : List Item → List Name
names_in [] = []
names_in (NameItem name ∷ items) = name ∷ names_in items
names_in (other ∷ items) = names_in items

abbrev pub lines_in : List Item → List ℕ
lines_in [] = []
lines_in (LineItem n ∷ items) = n ∷ lines_in items
lines_in (other ∷ items) = lines_in items

abbrev pub channels_in : List Item → List CloseChannelTree
channels_in [] = []
channels_in (ChannelItem c ∷ items) = c ∷ channels_in items
channels_in (other ∷ items) = channels_in items

abbrev pub parts_in : List Item → List FieldPartTree
parts_in [] = []
parts_in (FieldItem part ∷ items) = part ∷ parts_in items
parts_in (other ∷ items) = parts_in items

-- ---- parts of statements

abbrev pub says : StatementTree → Form
says s = Made (Stated s)

abbrev pub range_form : (Name → Tree → Tree → Option Tree → Form) → Form
range_form g =
    NameIn want.Number (λ v. TakeSign false sign.Equal (ExprOf want.Number (λ start. TakeKey false keyword.To (ExprOf want.Number (λ limit.
    IfKey false keyword.Step (ExprOf want.Number (λ step. g v start limit (Some step))) (g v start limit None))))))

-- an ELSE, if the clause before it does not take it itself
abbrev pub else_form : Bool → (ElseTree → Form) → Form
else_form true g = g NoElse
else_form false g = IfKey true keyword.Else (ClauseIn (λ clause. g (Else clause))) (g NoElse)

abbrev pub targets_form : Bool → Form
targets_form word =
    TargetOf want.Either (λ t. MoreOf (Targets (want_of (is_text t))) (TargetItem t ∷ []) (λ items.
    TakeSign false sign.Equal (ExprOf (want_of (is_text t)) (λ value. says (Let word (targets_in items) value)))))

abbrev pub value_form : Name → List Name → Form
value_form f ps =
    IfSign false sign.Equal (ExprOf (want_of f.text) (λ value. says (Def f ps (Some value)))) (says (Def f ps None))

-- after an item of PRINT
abbrev pub printed_form : Option PrintChannelTree → List PrintItemTree → PrintedTree → Form
printed_form c items printed =
    IfSign false sign.Comma (MorePrinted c (items ++ record { printed = printed; separator = separator.Comma } ∷ []))
    (IfSign false sign.Semicolon (MorePrinted c (items ++ record { printed = printed; separator = separator.Semicolon } ∷ []))
    (says (Print c items (Some printed))))

-- after a value of PRINT USING
abbrev pub using_value_form : Option Tree → Tree → List UsingItemTree → Tree → Form
using_value_form c format values t =
    IfSign false sign.Comma (MoreUsing c format (values ++ record { value = t; separator = separator.Comma } ∷ []))
    (IfSign false sign.Semicolon (MoreUsing c format (values ++ record { value = t; separator = separator.Semicolon } ∷ []))
    (says (PrintUsing c format values (Some t))))

abbrev pub number_option : Keyword → (Option Tree → Form) → Form
number_option k g = IfSign false sign.Comma (TakeKey false k (ExprOf want.Number (λ n. g (Some n)))) (g None)

-- What MAT stores: after `=` the first word decides the form, and after a name the next word does.
abbrev pub matrix_form : (MatrixTree → Form) → Form
matrix_form g =
    IfKey false keyword.Zer (g Zero)
    (IfKey false keyword.Con (g One)
    (IfKey false keyword.Idn (g Identity)
    (IfKey false keyword.Trn (TakeSign true sign.Opening (NameIn want.Number (λ b. TakeClosing (g (Transposed b)))))
    (IfSign true sign.Opening (ExprOf want.Number (λ factor. TakeClosing (TakeSign false sign.Star (NameIn want.Number (λ b. g (Scaled factor b))))))
    (NameIn want.Number (λ b.
    IfSign false sign.Plus (NameIn want.Number (λ c. g (Sum b c)))
    (IfSign false sign.Minus (NameIn want.Number (λ c. g (Difference b c)))
    (IfSign false sign.Star (NameIn want.Number (λ c. g (Product b c)))
    (g (Copy b))))))))))

-- ---- the options of OPEN, in their order

abbrev pub opens : Tree → OpenFor → Bool → Tree → Option Tree → Option Tree → Option Tree → Form
opens file purpose hash c record_size cluster_size mode = says (Open file purpose hash c record_size cluster_size mode)

abbrev pub mode_form : (Option Tree → Form) → Form
mode_form g = number_option keyword.Mode g

abbrev pub cluster_form : (Option Tree → Option Tree → Form) → Form
cluster_form g =
    IfSign false sign.Comma
    (IfKey false keyword.ClusterSize (ExprOf want.Number (λ n. mode_form (g (Some n))))
    (TakeKey false keyword.Mode (ExprOf want.Number (λ n. g None (Some n)))))
    (g None None)

abbrev pub options_form : (Option Tree → Option Tree → Option Tree → Form) → Form
options_form g =
    IfSign false sign.Comma
    (IfKey false keyword.RecordSize (ExprOf want.Number (λ n. cluster_form (g (Some n))))
    (IfKey false keyword.ClusterSize (ExprOf want.Number (λ n. mode_form (g None (Some n))))
    (TakeKey false keyword.Mode (ExprOf want.Number (λ n. g None None (Some n))))))
    (g None None None)

abbrev pub channel_form : Tree → OpenFor → Bool → Form
channel_form file purpose hash = ExprOf want.Number (λ c. options_form (λ r s m. opens file purpose hash c r s m))

abbrev pub file_form : Tree → OpenFor → Form
file_form file purpose =
    TakeKey false keyword.As (TakeKey false keyword.File
    (IfSign false sign.Hash (channel_form file purpose true) (channel_form file purpose false)))

-- The pieces of the parts of statements: shapes, channels, items of PRINT, modifiers, options of
-- OPEN and others.
use Rattle.std.specs.Prelude.{ℕ, ◌||◌, ◌&&◌, nat_lt, not, Bool, true, false, List, [], ◌∷◌, ◌++◌, Option, Some, None}
use Rattle.std.specs.Int.{is_power_of_two}
use Rattle.basic_tree.specs.declared.names.Name.{Name}
use Rattle.basic_tree.specs.declared.tokens.Keyword.{Keyword}
use Rattle.basic_tree.specs.declared.tokens.Keyword.TheVariants as keyword
use Rattle.basic_tree.specs.declared.tokens.Sign.TheVariants as sign
use Rattle.basic_tree.specs.declared.kinds.Want.TheVariants as want
use Rattle.basic_tree.specs.declared.parts.Shape.{Shape}
use Rattle.basic_tree.specs.declared.parts.FileShape.{FileShape}
use Rattle.basic_tree.specs.declared.parts.Separator.{Separator}
use Rattle.basic_tree.specs.declared.parts.Separator.TheVariants as separator
use Rattle.basic_tree.specs.declared.parts.OpenFor.{OpenFor}
use Rattle.basic_tree.specs.declared.parts.OpenFor.TheVariants as purpose
use Rattle.basic_tree.specs.SpellingWords.{Word, Named, FnNamed, Punctuation, Quotation, Plain, words}
use Rattle.basic_tree.specs.Trees.{Tree, PrintedTree, Value, Tab, ModifierTree, If, Unless, While, Until, ForModifier, PrintItemTree, PrintChannelTree, UsingItemTree, MatrixTree, Zero, One, Identity, Copy, Sum, Difference, Product, Scaled, Transposed, PromptTree, ChainLineTree, CloseChannelTree, FieldPartTree}
use Rattle.basic_tree.specs.SpellingExpressions.{steps_of, is_text, want_of}
use Rattle.basic_tree.specs.SpellingPieces.{WordPiece, Fixed, Expression, NameOf, LiteralOf, Holds, key, sign_piece, opening, opening_parenthesis, closing, number, bound, many, perhaps, optional, each}

-- ---- shapes of arrays

abbrev pub shape : Shape → List WordPiece
shape s =
    NameOf want.Either s.name ∷ opening_parenthesis ∷ bound s.first
    ∷ (optional (λ second. sign_piece sign.Comma ∷ bound second ∷ []) s.second ++ sign_piece sign.Closing ∷ closing ∷ [])

-- the size of an element in bytes is a power of two from 2 to 512, and only string arrays have one
abbrev pub is_size : ℕ → Bool
is_size n = is_power_of_two n && nat_lt 1 n && nat_lt n 513

abbrev pub element_size : Name → ℕ → List WordPiece
element_size name n =
    Holds name.text ∷ sign_piece sign.Equal ∷ LiteralOf (is_size n) n ∷ []

abbrev pub file_shape : FileShape → List WordPiece
file_shape s = shape s.shape ++ optional (λ size. element_size s.shape.name size) s.size

-- ---- PRINT, INPUT and their channels

abbrev pub separator_piece : Separator → WordPiece
separator_piece separator.Comma = sign_piece sign.Comma
separator_piece separator.Semicolon = sign_piece sign.Semicolon

abbrev pub printed : PrintedTree → List WordPiece
printed (Value t) = Expression want.Either t ∷ []
printed (Tab t) = key keyword.Tab ∷ opening_parenthesis ∷ number t ∷ sign_piece sign.Closing ∷ closing ∷ []

abbrev pub print_item : PrintItemTree → List WordPiece
print_item item = printed item.printed ++ separator_piece item.separator ∷ []

-- `#` and a channel
abbrev pub channel : Tree → List WordPiece
channel t = sign_piece sign.Hash ∷ number t ∷ []

abbrev pub print_channel : PrintChannelTree → List WordPiece
print_channel c = channel c.number ++ perhaps c.comma (sign_piece sign.Comma)

-- a comma separates the channel of PRINT from the items, if there are any
abbrev pub is_parted : Option PrintChannelTree → List PrintItemTree → Option PrintedTree → Bool
is_parted None items last = true
is_parted (Some c) [] None = true
is_parted (Some c) items last = c.comma

abbrev pub channel_and_comma : Tree → List WordPiece
channel_and_comma t = channel t ++ sign_piece sign.Comma ∷ []

abbrev pub using_item : UsingItemTree → List WordPiece
using_item item = Expression want.Either item.value ∷ separator_piece item.separator ∷ []

-- the values of PRINT USING, of which the last has no separator
abbrev pub using_values : List UsingItemTree → Option Tree → List WordPiece
using_values values last = each using_item values ++ optional (λ t. Expression want.Either t ∷ []) last

-- PRINT USING has at least one value
abbrev pub has_value : List UsingItemTree → Option Tree → Bool
has_value [] None = false
has_value values last = true

-- INPUT has a channel or a prompt or neither, but not both
abbrev pub is_one : {A B : Type 0} → Option A → Option B → Bool
is_one (Some a) (Some b) = false
is_one a b = true

abbrev pub prompt : PromptTree → List WordPiece
prompt p = Fixed (Plain (Quotation p.text)) ∷ separator_piece p.separator ∷ []

-- ---- counting

-- `= start TO limit`, with an optional `STEP step`
abbrev pub range : Name → Tree → Tree → Option Tree → List WordPiece
range v start limit step =
    NameOf want.Number v ∷ sign_piece sign.Equal ∷ number start ∷ key keyword.To ∷ number limit
    ∷ optional (λ t. key keyword.Step ∷ number t ∷ []) step

-- the word of a modifier opens a level of nesting, which contains its expressions
abbrev pub modifier : ModifierTree → List WordPiece
modifier (If t) = opening keyword.If ∷ number t ∷ []
modifier (Unless t) = opening keyword.Unless ∷ number t ∷ []
modifier (While t) = opening keyword.While ∷ number t ∷ []
modifier (Until t) = opening keyword.Until ∷ number t ∷ []
modifier (ForModifier v start limit step) = opening keyword.For ∷ range v start limit step

-- ---- functions of the program and assignments

abbrev pub name : Name → List WordPiece
name n = NameOf want.Either n ∷ []

-- parameters in parentheses, or nothing at all
abbrev pub parameters : List Name → List WordPiece
parameters [] = []
parameters (n ∷ ns) = opening_parenthesis ∷ (many name (n ∷ ns) ++ sign_piece sign.Closing ∷ closing ∷ [])

-- whether the first target is a string; the others must be of the same kind
abbrev pub kind_of_first : List Tree → Bool
kind_of_first [] = false
kind_of_first (t ∷ ts) = is_text t

-- `=` and a value, a string or a number as expected
abbrev pub value : Bool → Tree → List WordPiece
value is_textual t = sign_piece sign.Equal ∷ Expression (want_of is_textual) t ∷ []

-- ---- MAT

abbrev pub array : Name → List WordPiece
array n = NameOf want.Number n ∷ []

abbrev pub matrix : MatrixTree → List WordPiece
matrix Zero = key keyword.Zer ∷ []
matrix One = key keyword.Con ∷ []
matrix Identity = key keyword.Idn ∷ []
matrix (Copy b) = NameOf want.Number b ∷ []
matrix (Sum b c) = NameOf want.Number b ∷ sign_piece sign.Plus ∷ NameOf want.Number c ∷ []
matrix (Difference b c) = NameOf want.Number b ∷ sign_piece sign.Minus ∷ NameOf want.Number c ∷ []
matrix (Product b c) = NameOf want.Number b ∷ sign_piece sign.Star ∷ NameOf want.Number c ∷ []
matrix (Scaled factor b) = opening_parenthesis ∷ number factor ∷ sign_piece sign.Closing ∷ closing ∷ sign_piece sign.Star ∷ NameOf want.Number b ∷ []
matrix (Transposed b) = key keyword.Trn ∷ opening_parenthesis ∷ NameOf want.Number b ∷ sign_piece sign.Closing ∷ closing ∷ []

-- ---- CHAIN

abbrev pub first_word : List Word → Option Word
first_word [] = None
first_word (w ∷ ws) = Some w

abbrev pub last_word : List Word → Option Word
last_word [] = None
last_word (w ∷ []) = Some w
last_word (w ∷ (v ∷ ws)) = last_word (v ∷ ws)

abbrev pub is_name : Option Word → Bool
is_name (Some (Named n)) = true
is_name (Some (FnNamed n)) = true
is_name other = false

-- whether the number of CHAIN may begin with the second word, if the program's name ends in the
-- first one. A sign would continue the expression, and `(` after a name opens the name's own list:
-- `CHAIN A$ (5)` chains to an element
abbrev pub may_follow : Option Word → Option Word → Bool
may_follow last (Some (Punctuation sign.Plus)) = false
may_follow last (Some (Punctuation sign.Minus)) = false
may_follow last (Some (Punctuation sign.Opening)) = not (is_name last)
may_follow last other = true

abbrev pub chain_line : Tree → ChainLineTree → List WordPiece
chain_line program l =
    perhaps l.word (key keyword.Line)
    ++ Holds (l.word || may_follow (last_word (words (steps_of program))) (first_word (words (steps_of l.number))))
    ∷ number l.number ∷ []

-- ---- files

abbrev pub open_for : OpenFor → List WordPiece
open_for purpose.Input = key keyword.For ∷ key keyword.Input ∷ []
open_for purpose.Output = key keyword.For ∷ key keyword.Output ∷ []
open_for purpose.Either = []

-- an option: a comma, its word and a number
abbrev pub option_of : Keyword → Option Tree → List WordPiece
option_of word t = optional (λ n. sign_piece sign.Comma ∷ key word ∷ number n ∷ []) t

abbrev pub close_channel : CloseChannelTree → List WordPiece
close_channel c = perhaps c.hash (sign_piece sign.Hash) ++ number c.number ∷ []

abbrev pub field_part : FieldPartTree → List WordPiece
field_part p = number p.width ∷ key keyword.As ∷ NameOf want.Text p.name ∷ []

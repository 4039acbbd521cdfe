-- The pieces of a statement. A list of pieces, in the order of the source, says which words spell
-- the statement (`pieces_steps`), and when its tree is admissible (`ArePieces`).
use Rattle.std.specs.Prelude.{◌≡◌, ℕ, ◌+◌, ◌&&◌, nat_lt, if◌then◌else◌, Bool, true, false, List, [], ◌∷◌, ◌++◌, Option, Some, None}
use Rattle.basic_values.specs.declared.limits.TheConstants.{MOST_NUMBER}
use Rattle.basic_tree.specs.declared.names.Name.{Name}
use Rattle.basic_tree.specs.declared.tokens.Keyword.{Keyword}
use Rattle.basic_tree.specs.declared.tokens.Sign.{Sign}
use Rattle.basic_tree.specs.declared.tokens.Sign.TheVariants as sign
use Rattle.basic_tree.specs.declared.kinds.Want.{Want}
use Rattle.basic_tree.specs.declared.kinds.Want.TheVariants as want
use Rattle.basic_tree.specs.SpellingWords.{Key, Punctuation, Named, Number, LevelStep, Plain, Opens, Closes}
use Rattle.basic_tree.specs.Trees.{Tree, Variable, Element}
use Rattle.basic_tree.specs.SpellingExpressions.{steps_of, Fits, IsTree}

pub data WordPiece : Type 0 where
  -- a given word, or the end of a level of nesting
  Fixed : LevelStep → WordPiece
  -- an expression of the expected kind
  Expression : Want → Tree → WordPiece
  -- the name of a variable or an array of the expected kind
  NameOf : Want → Name → WordPiece
  -- a number, written as a literal; the test must be true
  LiteralOf : Bool → ℕ → WordPiece
  -- no word at all; the test must be true
  Holds : Bool → WordPiece

-- the words of a piece
abbrev pub piece_steps : WordPiece → List LevelStep
piece_steps (Fixed step) = step ∷ []
piece_steps (Expression w t) = steps_of t
piece_steps (NameOf w name) = Plain (Named name) ∷ []
piece_steps (LiteralOf holds n) = Plain (Number n) ∷ []
piece_steps (Holds holds) = []

-- the piece is admissible: its expression or name has the expected kind, its test is true
abbrev pub IsPiece : WordPiece → Type 0
IsPiece (Fixed step) = Unit {0}
IsPiece (Expression w t) = IsTree t × Fits w t
IsPiece (NameOf w name) = Fits w (Variable name)
IsPiece (LiteralOf holds n) = holds ≡ true
IsPiece (Holds holds) = holds ≡ true

abbrev pub pieces_steps : List WordPiece → List LevelStep
pieces_steps [] = []
pieces_steps (p ∷ pieces) = piece_steps p ++ pieces_steps pieces

abbrev pub ArePieces : List WordPiece → Type 0
ArePieces [] = Unit {0}
ArePieces (p ∷ pieces) = IsPiece p × ArePieces pieces

-- ---- tests

-- a line number is from 1 to the largest number
abbrev pub is_line_number : ℕ → Bool
is_line_number n = nat_lt 0 n && nat_lt n (MOST_NUMBER + 1)

-- 0 counts too: for a bound of an array, the channel of DIM, and a line number that may be 0
abbrev pub is_bound : ℕ → Bool
is_bound n = nat_lt n (MOST_NUMBER + 1)

-- a value can be stored in a variable or an element of an array
abbrev pub is_target : Tree → Bool
is_target (Variable name) = true
is_target (Element name subscripts) = true
is_target other = false

-- ---- single pieces

abbrev pub key : Keyword → WordPiece
key k = Fixed (Plain (Key k))

abbrev pub sign_piece : Sign → WordPiece
sign_piece s = Fixed (Plain (Punctuation s))

-- a word that opens a level of nesting; `closing` ends the nesting level
abbrev pub opening : Keyword → WordPiece
opening k = Fixed (Opens (Key k))

abbrev pub opening_parenthesis : WordPiece
opening_parenthesis = Fixed (Opens (Punctuation sign.Opening))

abbrev pub closing : WordPiece
closing = Fixed Closes

abbrev pub number : Tree → WordPiece
number t = Expression want.Number t

abbrev pub text : Tree → WordPiece
text t = Expression want.Text t

-- a line number
abbrev pub line : ℕ → WordPiece
line n = LiteralOf (is_line_number n) n

-- a line number, or 0
abbrev pub line_or_zero : ℕ → WordPiece
line_or_zero n = LiteralOf (is_bound n) n

-- a bound of an array, or the channel of DIM
abbrev pub bound : ℕ → WordPiece
bound n = LiteralOf (is_bound n) n

-- a variable or an element of an array, of the expected kind
abbrev pub target : Want → Tree → List WordPiece
target w t = Holds (is_target t) ∷ Expression w t ∷ []

-- ---- optional parts and lists

-- a word or sign that may be left out without a change of meaning
abbrev pub perhaps : {B : Type 0} → Bool → B → List B
perhaps stands p = if stands then p ∷ [] else []

-- a part that the tree may lack
abbrev pub optional : {A B : Type 0} → (A → List B) → Option A → List B
optional parts None = []
optional parts (Some a) = parts a

-- one after another
abbrev pub each : {A B : Type 0} → (A → List B) → List A → List B
each parts [] = []
each parts (a ∷ more) = parts a ++ each parts more

-- a comma before each
abbrev pub after_commas : {A : Type 0} → (A → List WordPiece) → List A → List WordPiece
after_commas pieces [] = []
after_commas pieces (a ∷ more) = sign_piece sign.Comma ∷ (pieces a ++ after_commas pieces more)

-- one or more, separated by commas
abbrev pub many : {A : Type 0} → (A → List WordPiece) → List A → List WordPiece
many pieces [] = Holds false ∷ []
many pieces (a ∷ more) = pieces a ++ after_commas pieces more

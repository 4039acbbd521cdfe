-- Tokens as the grammar sees them: without their places, with letters as capitals, a literal by its
-- value, and one word for two spellings.
use Rattle.std.specs.Prelude.{ℕ, ◌+◌, ◌-◌, ◌==◌, nat_lt, min, if◌then◌else◌, List, [], ◌∷◌, length, map, position, take, drop, slice_index, Option, Some, None}
use Rattle.std.specs.Char.{is_ascii_digit, to_ascii_uppercase}
use Rattle.std.specs.List.{prefix_len}
use Rattle.std.specs.Str.Parse.{digits_value}
use Rattle.basic_values.specs.declared.limits.TheConstants.{MOST_NUMBER}
use Rattle.basic_tree.specs.Tokens.{Lexeme, keyword_of, sign_of}
use Rattle.basic_tree.specs.declared.names.Name.{Name}
use Rattle.basic_tree.specs.declared.tokens.Keyword.{Keyword}
use Rattle.basic_tree.specs.declared.tokens.Sign.{Sign}
use Rattle.basic_tree.specs.declared.tokens.Sign.TheVariants as sign
use Rattle.basic_tree.specs.declared.tokens.TokenKind.{TokenKind}
use Rattle.basic_tree.specs.declared.tokens.TokenKind.TheVariants as kind

pub data Word : Type 0 where
  Key : Keyword → Word
  Punctuation : Sign → Word
  -- the name of a variable or an array
  Named : Name → Word
  -- the name of a function of the program
  FnNamed : Name → Word
  Number : ℕ → Word
  -- the bytes between the quotes
  Quotation : List ℕ → Word
  -- an item of DATA
  Item : List ℕ → Word

-- `**` is `^`, and `\` is `:`
abbrev pub one_sign : Sign → Sign
one_sign sign.DoubleStar = sign.Caret
one_sign sign.Backslash = sign.Colon
one_sign other = other

-- the name that these bytes spell: a letter, perhaps a digit, and `%` or `$`
abbrev pub name_of : List ℕ → Name
name_of bytes =
    record {
      letter = to_ascii_uppercase (slice_index bytes 0);
      digit = if is_ascii_digit (slice_index bytes 1) then Some (slice_index bytes 1) else None;
      text = slice_index bytes (length bytes - 1) == 36;
    }

-- bytes that spell no word are an item, which is only possible after DATA
abbrev pub key_or_item : List ℕ → Option Keyword → Word
key_or_item bytes (Some keyword) = Key keyword
key_or_item bytes None = Item bytes

abbrev pub sign_or_item : List ℕ → Option Sign → Word
sign_or_item bytes (Some sign) = Punctuation (one_sign sign)
sign_or_item bytes None = Item bytes

-- a literal by its value; all above the largest number are one word, which the scanner never makes
abbrev pub word_with : TokenKind → List ℕ → Word
word_with kind.Keyword bytes = key_or_item bytes (keyword_of bytes)
word_with kind.FnName bytes = FnNamed (name_of (drop 2 bytes))
word_with kind.Variable bytes = Named (name_of bytes)
word_with kind.Literal bytes = Number (min (MOST_NUMBER + 1) (digits_value 10 (take (prefix_len is_ascii_digit bytes) bytes)))
word_with kind.Quoted bytes = Quotation (take (length bytes - 2) (drop 1 bytes))
word_with kind.DataItem bytes = Item bytes
word_with kind.Sign bytes = sign_or_item bytes (sign_of bytes)

abbrev pub word_of : Lexeme → Word
word_of token = word_with token.kind token.bytes

abbrev pub words_of : List Lexeme → List Word
words_of tokens = map word_of tokens

-- ---- words with levels of nesting

-- a word; a word that opens a level of nesting and is in it; the end of a nesting level
pub data LevelStep : Type 0 where
  Plain : Word → LevelStep
  Opens : Word → LevelStep
  Closes : LevelStep

-- the words alone
abbrev pub words : List LevelStep → List Word
words [] = []
words (Plain w ∷ steps) = w ∷ words steps
words (Opens w ∷ steps) = w ∷ words steps
words (Closes ∷ steps) = words steps

-- the nesting depth of each word, if this many nesting levels are open before
abbrev pub levels : ℕ → List LevelStep → List ℕ
levels depth [] = []
levels depth (Plain w ∷ steps) = depth ∷ levels depth steps
levels depth (Opens w ∷ steps) = (depth + 1) ∷ levels (depth + 1) steps
levels depth (Closes ∷ steps) = levels (depth - 1) steps

-- the largest nesting depth of a line
abbrev pub most_levels : ℕ
most_levels = 64

-- the place of the first word that opens a nesting level too many
abbrev pub too_deep : List LevelStep → Option ℕ
too_deep steps = position (λ level. nat_lt most_levels level) (levels 0 steps)

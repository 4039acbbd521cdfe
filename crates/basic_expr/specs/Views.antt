-- The words of the code as those of the grammar.
use Rattle.std.specs.Prelude.{◌≤◌, ℕ, List, length, map}
use Rattle.basic_values.specs.declared.lists.TheConstants.{LINE_LENGTH}
use Rattle.basic_tree.specs.SpellingWords as spelling
use Rattle.basic_expr.specs.declared.words.Word.{Word}
use Rattle.basic_expr.specs.declared.words.Word.TheVariants.{Key, Punctuation, Named, FnNamed, Number, Quotation, Item}

-- a word, without pointers
abbrev pub as_word : Word → spelling.Word
as_word (Key keyword) = spelling.Key keyword
as_word (Punctuation sign) = spelling.Punctuation sign
as_word (Named name) = spelling.Named name
as_word (FnNamed name) = spelling.FnNamed name
as_word (Number value) = spelling.Number value
as_word (Quotation bytes) = spelling.Quotation bytes.now
as_word (Item bytes) = spelling.Item bytes.now

abbrev pub as_words : List Word → List spelling.Word
as_words words = map as_word words

-- a quoted string or an item has no more bytes than a line can have
abbrev pub IsShort : Word → Type 0
IsShort (Quotation bytes) = length bytes.now ≤ LINE_LENGTH
IsShort (Item bytes) = length bytes.now ≤ LINE_LENGTH
IsShort other = Unit {0}

-- the most words of a line: one for each byte
abbrev pub most_words : ℕ
most_words = LINE_LENGTH

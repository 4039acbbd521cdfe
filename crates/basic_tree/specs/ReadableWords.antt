-- Which words can be spelled by bytes, and that every line and expression of such words is spelled
-- by some bytes.
use Rattle.std.specs.Prelude.{◌≡◌, ◌≢◌, ◌⊎◌, ℕ, ◌≤◌, true, false, List, [], ◌∷◌, length, All, Option, Some, None, Ok}
use Rattle.std.specs.Char.{is_ascii_digit}
use Rattle.basic_values.specs.declared.limits.TheConstants.{MOST_NUMBER}
use Rattle.basic_tree.specs.declared.names.Name.{Name}
use Rattle.basic_tree.specs.declared.tokens.Keyword.TheVariants as keyword
use Rattle.basic_tree.specs.declared.tokens.Sign.TheVariants as sign
use Rattle.basic_tree.specs.declared.kinds.Want.{Want}
use Rattle.basic_tree.specs.Tokens.{Lexeme, quote_after, cuts, tokens_of}
use Rattle.basic_tree.specs.SpellingWords.{Word, Key, Punctuation, Named, FnNamed, Number, Quotation, Item, words_of, words, too_deep}
use Rattle.basic_tree.specs.Trees.{Tree, LineTree}
use Rattle.basic_tree.specs.SpellingExpressions.{steps_of, IsTree, Fits}
use Rattle.basic_tree.specs.SpellingStatements.{line_steps, IsAdmissible}
use Rattle.basic_tree.specs.GrammarPlaces.{IsRead}
use Rattle.basic_tree.specs.LineVerdicts.{Spells}

-- a digit, or nothing
abbrev pub IsDigit : Option ℕ → Type 0
IsDigit None = Unit {0}
IsDigit (Some d) = is_ascii_digit d ≡ true

-- a capital letter and an optional digit
abbrev pub IsSpelledName : Name → Type 0
IsSpelledName name = (65 ≤ name.letter) × (name.letter ≤ 90) × IsDigit name.digit

-- the string lacks one of the two quotes, which can then enclose it
abbrev pub IsQuotable : List ℕ → Type 0
IsQuotable text = All (λ b. b ≢ 34) text ⊎ All (λ b. b ≢ 39) text

-- A word by itself. REM takes the rest of its line, DATA makes items of it, and `**` and `\` are
-- other spellings of two signs.
abbrev pub IsReadable : Word → Type 0
IsReadable (Key keyword.Rem) = ⊥
IsReadable (Key keyword.Data) = ⊥
IsReadable (Punctuation sign.DoubleStar) = ⊥
IsReadable (Punctuation sign.Backslash) = ⊥
IsReadable (Named name) = IsSpelledName name
IsReadable (FnNamed name) = IsSpelledName name
IsReadable (Number n) = n ≤ MOST_NUMBER
IsReadable (Quotation text) = IsQuotable text
IsReadable (Item bytes) = ⊥
IsReadable other = Unit {0}

-- ---- the items of DATA

-- no comma is outside quotes, if this quote is open before the bytes
abbrev pub IsUncut : Option ℕ → List ℕ → Type 0
IsUncut quote [] = Unit {0}
IsUncut quote (b ∷ bytes) = (cuts quote b ≡ false) × IsUncut (quote_after quote b) bytes

-- the quote that is open after bytes
abbrev pub quote_behind : Option ℕ → List ℕ → Option ℕ
quote_behind quote [] = quote
quote_behind quote (b ∷ bytes) = quote_behind (quote_after quote b) bytes

-- items; only the last may leave a quote open
abbrev pub AreDataItems : List Word → Type 0
AreDataItems [] = ⊥
AreDataItems (Item bytes ∷ []) = IsUncut None bytes
AreDataItems (Item bytes ∷ (w ∷ ws)) = IsUncut None bytes × (quote_behind None bytes ≡ None) × AreDataItems (w ∷ ws)
AreDataItems (other ∷ ws) = ⊥

-- readable words; after DATA there are only items
abbrev pub AreReadable : List Word → Type 0
AreReadable [] = Unit {0}
AreReadable (Key keyword.Data ∷ ws) = AreDataItems ws
AreReadable (w ∷ ws) = IsReadable w × AreReadable ws

-- every line of readable words that is not nested too deep is spelled by some bytes, and so is
-- every such expression
pub record TreesAreSpelled : Type 0 where
  pub lines : (l : LineTree) → IsAdmissible l → too_deep (line_steps l) ≡ None → AreReadable (words (line_steps l)) → (line : List ℕ) × Spells line l
  pub expressions : (w : Want) (t : Tree) → IsTree t → Fits w t → too_deep (steps_of t) ≡ None → AreReadable (words (steps_of t)) → (line : List ℕ) × (tokens : List Lexeme) × (tokens_of line ≡ Ok tokens) × IsRead w (words_of tokens) 0 t (length tokens)

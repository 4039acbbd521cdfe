-- When a word is a given keyword or sign, and with which words a value can begin.
use denote.Enum.Declared.{tag_of}
use denote.Enum.Bare.{same_true}
use Rattle.std.proofs.Common.{◌≡◌, Bool, true, false, refl, ap}
use Rattle.std.proofs.lemmas.Bool.{eq-eqb}
use Rattle.basic_tree.specs.declared.tokens.Keyword.{Keyword}
use Rattle.basic_tree.specs.declared.tokens.Sign.{Sign}
use Rattle.basic_tree.specs.contracts.tokens.Keyword.{the_type as the_keywords}
use Rattle.basic_tree.specs.contracts.tokens.Sign.{the_type as the_signs}
use Rattle.basic_tree.specs.SpellingWords.{Word, Key, Punctuation, Number, Quotation, Item}
use Rattle.grammar_machine.specs.GrammarWords.{is_same_sign, is_same_keyword}

-- ---- keywords and signs that are equal

pub key_is_same : (k : Keyword) → is_same_keyword k k ≡ true
key_is_same k = eq-eqb (tag_of the_keywords k) (tag_of the_keywords k) refl

pub sign_is_same : (s : Sign) → is_same_sign s s ≡ true
sign_is_same s = eq-eqb (tag_of the_signs s) (tag_of the_signs s) refl

pub keys_equal : (k l : Keyword) → is_same_keyword k l ≡ true → k ≡ l
keys_equal k l h = same_true the_keywords tt k l h

pub signs_equal : (s t : Sign) → is_same_sign s t ≡ true → s ≡ t
signs_equal s t h = same_true the_signs tt s t h

-- ---- a given word

-- the second word is the first, a keyword or a sign
abbrev pub is_word : Word → Word → Bool
is_word (Key k) (Key l) = is_same_keyword k l
is_word (Punctuation s) (Punctuation t) = is_same_sign s t
is_word other w = false

pub is_word_same : (t w : Word) → is_word t w ≡ true → t ≡ w
is_word_same (Key k) (Key l) h = ap (λ x. Key x) (keys_equal k l h)
is_word_same (Key k) w h = absurd cc
is_word_same (Punctuation s) (Punctuation t) h = ap (λ x. Punctuation x) (signs_equal s t h)
is_word_same (Punctuation s) w h = absurd cc
is_word_same t w h = absurd cc

-- a word that fails a test is not one that passes it
pub is_other_word : (test : Word → Bool) (t w : Word) → test t ≡ false → test w ≡ true → is_word t w ≡ false
is_other_word test t w e f = go (is_word t w) refl where
  go : (b : Bool) → is_word t w ≡ b → b ≡ false
  go false h = refl
  go true h = let same : t ≡ w = is_word_same t w h in absurd cc

abbrev pub is_number : Word → Bool
is_number (Number n) = true
is_number other = false

abbrev pub is_quotation : Word → Bool
is_quotation (Quotation text) = true
is_quotation other = false

abbrev pub is_item : Word → Bool
is_item (Item item) = true
is_item other = false

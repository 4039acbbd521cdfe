-- Every keyword and every sign is spelled by the bytes beside it in its table, if a blank follows
-- them.
use denote.Enum.Bare.{sameb}
use Rattle.std.proofs.Common.{◌≡◌, ℕ, ◌<◌, Bool, List, [], ◌∷◌, ◌++◌, length, if◌then◌else◌, refl, arith}
use Rattle.basic_tree.specs.declared.tokens.Keyword.{Keyword}
use Rattle.basic_tree.specs.declared.tokens.Keyword.TheVariants as keyword
use Rattle.basic_tree.specs.declared.tokens.Sign.{Sign}
use Rattle.basic_tree.specs.declared.tokens.Sign.TheVariants as sign
use Rattle.basic_tree.specs.declared.tokens.TokenKind.{TokenKind}
use Rattle.basic_tree.specs.declared.tokens.TokenKind.TheVariants as kind
use Rattle.basic_tree.specs.declared.tokens.Front.TheVariants as front
use Rattle.basic_tree.specs.contracts.tokens.Keyword.{the_type}
use Rattle.basic_tree.specs.contracts.tokens.Sign.{the_type as the_signs}
use Rattle.basic_tree.specs.Words.{keywords, signs}
use Rattle.basic_tree.specs.Tokens.{letter_front, sign_front, front_of}
use Rattle.basic_tree.specs.SpellingWords.{Word, Key, Punctuation, word_with}
use Rattle.basic_tree.specs.ReadableWords.{IsReadable}

-- bytes that spell a word, if a blank follows them
pub record SpelledWord (w : Word) : Type 0 where
  pub bytes : List ℕ
  pub sort : TokenKind
  pub some : 0 < length bytes
  pub front : (rest : List ℕ) → front_of (bytes ++ 32 ∷ rest) ≡ front.Token sort (length bytes)
  pub word : word_with sort bytes ≡ w

-- the bytes beside the first entry of a table that passes a test
abbrev bytes_beside : {W : Type 0} → (W → Bool) → List (W × List ℕ) → List ℕ
bytes_beside test [] = []
bytes_beside test (entry ∷ more) = if test entry.0 then entry.1 else bytes_beside test more

-- the last clause of each lemma is checked for every word that the clauses before it leave
pub keyword_spelled : (k : Keyword) → IsReadable (Key k) → SpelledWord (Key k)
unfolding keywords letter_front front_of
keyword_spelled keyword.Data h = absurd h
keyword_spelled keyword.Rem h = absurd h
keyword_spelled k h = record { bytes = bytes_beside (sameb the_type k) keywords; sort = kind.Keyword; some = omega arith; front = λ rest. refl; word = refl }

pub sign_spelled : (s : Sign) → IsReadable (Punctuation s) → SpelledWord (Punctuation s)
unfolding signs sign_front front_of
sign_spelled sign.DoubleStar h = absurd h
sign_spelled sign.Backslash h = absurd h
sign_spelled s h = record { bytes = bytes_beside (sameb the_signs s) signs; sort = kind.Sign; some = omega arith; front = λ rest. refl; word = refl }

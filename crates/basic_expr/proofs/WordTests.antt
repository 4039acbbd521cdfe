-- What passes the test for a keyword or a sign is that keyword or sign.
use Rattle.std.proofs.Common.{◌≡◌, ◌||◌, ◌<◌, ◌+◌, ℕ, Bool, true, false, List, [], ◌∷◌, drop, length, MatchBool, refl, sym, ap, ◌∙◌}
use Rattle.basic_tree.specs.declared.tokens.Keyword.TheVariants as keyword
use Rattle.grammar_machine.specs.MachineForms.{is_known, key_begins}
use Rattle.grammar_machine.specs.GrammarWords.{function_of, is_same_keyword}
use Rattle.basic_tree.specs.declared.tokens.Keyword.{Keyword}
use Rattle.basic_tree.specs.declared.tokens.Sign.{Sign}
use Rattle.basic_tree.specs.SpellingWords.{Word, Key, Punctuation}
use Rattle.grammar_machine.proofs.FormWords.{keys_equal, signs_equal}
use Rattle.basic_expr.specs.ParsedSymbols.{First, WordStands, is_key, is_sign}

pub is_that_key : (k : Keyword) (t : Word) → is_key k t ≡ true → t ≡ Key k
is_that_key k (Key j) h = ap Key (sym (keys_equal k j h))
is_that_key k t h = absurd cc

pub is_that_sign : (s : Sign) (t : Word) → is_sign s t ≡ true → t ≡ Punctuation s
is_that_sign s (Punctuation t) h = ap Punctuation (sym (signs_equal s t h))
is_that_sign s t h = absurd cc

-- whether that keyword is at a place, by the word at the place
pub key_stands : (ws : List Word) (place : ℕ) (k : Keyword) (t : Word) (b : Bool) → place < length ws → drop place ws ≡ t ∷ drop (place + 1) ws → b ≡ is_key k t → MatchBool b (WordStands ws (Key k) place) (First (is_key k) (drop place ws))
key_stands ws place k t true within at is = (within, at ∙ ap (λ (w : Word). w ∷ drop (place + 1) ws) (is_that_key k t (sym is)))
key_stands ws place k t false within at is = rw at (sym is)

pub no_key : (ws : List Word) (place : ℕ) (k : Keyword) → drop place ws ≡ [] → First (is_key k) (drop place ws)
no_key ws place k at = rw at tt

-- NOT is not a function, but begins a value
pub not_or_function : (k : Keyword) → (is_same_keyword k keyword.Not || is_known (function_of k)) ≡ key_begins k
not_or_function keyword.Not = refl
not_or_function k = refl

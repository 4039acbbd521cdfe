-- Words one by one.
use Rattle.std.proofs.Common.{◌≡◌, ℕ, ◌+◌, ◌<◌, ◌≤◌, List, [], ◌∷◌, ◌++◌, length, get_or, take, drop, Some, None, inl, inr, refl, sym, ap, ◌∙◌, arith, add-one, drop-cons}
use Rattle.std.specs.Prelude.{All, MatchOption, Option, slice_get}
use Rattle.std.specs.Borrow.{Bor}
use Rattle.std.specs.Option.{option_copied}
use Rattle.std.specs.Slice.{IsItemAt}
use Rattle.std.proofs.lemmas.Grind.{common_steps}
use Rattle.std.proofs.Math.ListN.{drop_of_length-le}
use Rattle.std.proofs.Math.Seq.{take-suc}
use Rattle.std.proofs.lemmas.List.{map-append, length-map}
use Rattle.std.proofs.lemmas.Option.{slice_get_cases, slice_get_past, slice_get_read, slice_get_within, get_or_from_slice_get, slice_get-map}
use Rattle.basic_tree.specs.Tokens.{Lexeme}
use Rattle.basic_tree.specs.SpellingWords.{word_of, words_of}
use Rattle.basic_expr.specs.declared.words.Word.{Word}
use Rattle.basic_expr.specs.Views.{as_word, as_words, IsShort}

-- one more token
pub words_more : (tokens : List Lexeme) (k : ℕ) (token : Lexeme) → slice_get tokens k ≡ Some token → words_of (take (k + 1) tokens) ≡ words_of (take k tokens) ++ word_of token ∷ []
words_more tokens k token e =
    let here : get_or tokens k token ≡ token = get_or_from_slice_get tokens k token token e in
    let within : k < length tokens = slice_get_within tokens k token e in
    let more : take (k + 1) tokens ≡ take k tokens ++ token ∷ [] = rw (add-one, take-suc tokens k token within, here) refl in
    ap words_of more ∙ map-append word_of (take k tokens) (token ∷ [])

-- one more word
pub as_words_more : (words : List Word) (word : Word) → as_words (words ++ word ∷ []) ≡ as_words words ++ as_word word ∷ []
as_words_more words word = map-append as_word words (word ∷ [])

-- the word at a place, and those after it
pub word_at : (words : List Word) (k : ℕ) (word : Word) → slice_get words k ≡ Some word → (k < length (as_words words)) × (drop k (as_words words) ≡ as_word word ∷ drop (k + 1) (as_words words))
word_at words k word e =
    let there : slice_get (as_words words) k ≡ Some (as_word word) = rw (slice_get-map as_word words k, e) refl in
    let here : get_or (as_words words) k (as_word word) ≡ as_word word = get_or_from_slice_get (as_words words) k (as_word word) (as_word word) there in
    let within : k < length (as_words words) = slice_get_within (as_words words) k (as_word word) there in
    (within, rw (drop-cons (as_words words) k (as_word word), here, add-one) refl)

pub short_at : (words : List Word) (k : ℕ) (word : Word) → slice_get words k ≡ Some word → All IsShort words → IsShort word
short_at words k word e all =
    let here : get_or words k word ≡ word = get_or_from_slice_get words k word word e in
    let short : IsShort (get_or words k word) = all k word (slice_get_within words k word e) in
    rw here at short

-- past the end there is none
slice_get_none : (words : List Word) (k : ℕ) → slice_get words k ≡ None → length words ≤ k
slice_get_none words k e =
    elim (slice_get_cases words k).1 [
      | inl (x, _, there, _) ↦ let no : Some x ≡ None = sym there ∙ e in absurd (cc)
      | inr (past, _) ↦ past
    ]

-- an element that is read, and then copied
pub copied_at : (words : List Word) (k : ℕ) (found : Option (Bor Word)) → IsItemAt words k found → option_copied found ≡ slice_get words k
copied_at words k None h = sym (slice_get_past words k (grind (arith, common_steps)))
copied_at words k (Some word) h =
    let within : k < length words = grind (arith, common_steps) in
    sym (slice_get_read words (length words) k word.now refl within (grind (arith, common_steps)))

-- what is read at a place
pub peeked : (words : List Word) (k : ℕ) (read : Option Word) → read ≡ slice_get words k → All IsShort words → MatchOption read (drop k (as_words words) ≡ []) (λ w. (k < length (as_words words)) × (drop k (as_words words) ≡ as_word w ∷ drop (k + 1) (as_words words)) × IsShort w)
peeked words k None e all =
    let past : length (as_words words) ≤ k = omega (arith, length-map words as_word, slice_get_none words k (sym e)) in
    drop_of_length-le (as_words words) past
peeked words k (Some word) e all =
    let here = word_at words k word (sym e) in (here.0, here.1, short_at words k word (sym e) all)

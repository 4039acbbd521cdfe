-- The tokens of a line are slices of it, one after the other.
use Rattle.std.proofs.Common.{◌≡◌, ℕ, zero, suc, ◌+◌, ◌-◌, ◌<◌, ◌≤◌, Bool, true, false, List, [], ◌∷◌, ◌++◌, length, take, drop, refl, sym, ap, ◌∙◌, subst, arith, append_assoc, length-drop, length-append}
use Rattle.std.specs.Prelude.{Ok, Err, Option, None, max, if◌then◌else◌}
use Rattle.std.proofs.lemmas.List.{drop-drop, length-take-le, take_at, drop_at}
use Rattle.basic_tree.specs.Tokens.{Lexeme, Reading, front_of, cuts, quote_after, items_from, width, with_tokens, read_on, tokens_from}
use Rattle.basic_tree.specs.TokenLaws.{LiesIn, IsSlice, AreCut}
use Rattle.basic_tree.specs.declared.tokens.TokenKind.{TokenKind}
use Rattle.basic_tree.specs.declared.tokens.TokenKind.TheVariants as kind
use Rattle.basic_tree.specs.declared.tokens.Front.{Front}
use Rattle.basic_tree.specs.declared.tokens.Front.TheVariants as front
use Rattle.basic_tree.proofs.FrontLemmas.{front_fits}

-- tokens cut from a place on are also cut from an earlier place on
cut_earlier : (line : List ℕ) (early late : ℕ) (ts : List Lexeme) → early ≤ late → AreCut line late ts → AreCut line early ts
cut_earlier line early late [] le cut = tt
cut_earlier line early late (t ∷ ts) le cut = (omega (arith, cut.0), cut.1, cut.2)

-- bytes that the rest begins with are a slice of the line
front_slice : (line rest : List ℕ) (place len : ℕ) (k : TokenKind) → rest ≡ drop place line → place ≤ length line → len ≤ length rest → IsSlice line (record { kind = k; start = place; bytes = take len rest })
front_slice line rest place len k e inside le =
    let taken : length (take len rest) ≡ len = length-take-le len rest le in
    let left : length rest ≡ length line - place = ap length e ∙ length-drop place line in
    record {
      within = omega arith;
      bytes = ap (λ r. take (length (take len rest)) r) (sym e) ∙ ap (λ n. take n rest) taken;
    }

-- what was read of an item, and then the rest, are the bytes that the line has there
item_slice : (line item bytes : List ℕ) (start : ℕ) → item ++ bytes ≡ drop start line → start ≤ length line → IsSlice line (record { kind = kind.DataItem; start = start; bytes = item })
item_slice line item bytes start e inside =
    let left : length (item ++ bytes) ≡ length line - start = ap length e ∙ length-drop start line in
    record {
      within = omega (arith, length-append item bytes);
      bytes = ap (λ r. take (length item) r) (sym e) ∙ take_at item bytes (length item) refl;
    }

chosen_cut : (line : List ℕ) (from : ℕ) (b : Bool) (xs ys : List Lexeme) → AreCut line from xs → AreCut line from ys → AreCut line from (if b then xs else ys)
chosen_cut line from true xs ys first second = first
chosen_cut line from false xs ys first second = second

items_cut : (line bytes item : List ℕ) (start : ℕ) (quote : Option ℕ) → item ++ bytes ≡ drop start line → start ≤ length line → AreCut line start (items_from start item quote bytes)
unfolding items_from
items_cut line [] item start quote e inside = (omega arith, item_slice line item [] start e inside, tt)
items_cut line (b ∷ bytes) item start quote e inside =
    let left : length (item ++ b ∷ bytes) ≡ length line - start = ap length e ∙ length-drop start line in
    let count : length (item ++ b ∷ bytes) ≡ length item + suc (length bytes) = length-append item (b ∷ bytes) in
    let one : length (item ++ b ∷ []) ≡ length item + 1 = length-append item (b ∷ []) in
    let regrouped : (item ++ b ∷ []) ++ bytes ≡ item ++ b ∷ bytes = append_assoc item (b ∷ []) bytes in
    let there : start + (length item + 1) ≡ start + length item + 1 = omega arith in
    let behind : bytes ≡ drop (start + length item + 1) line =
    sym (drop_at (item ++ b ∷ []) bytes (length item + 1) one) ∙ ap (drop (length item + 1)) (regrouped ∙ e) ∙ drop-drop (length item + 1) start line ∙ ap (λ n. drop n line) there in
    let later : AreCut line (start + length item + 1) (items_from (start + length item + 1) [] None bytes) = items_cut line bytes [] (start + length item + 1) None behind (omega arith) in
    chosen_cut line start (cuts quote b)
    (record { kind = kind.DataItem; start = start; bytes = item } ∷ items_from (start + length item + 1) [] None bytes)
    (items_from start (item ++ b ∷ []) (quote_after quote b) bytes)
    (omega arith, item_slice line item (b ∷ bytes) start e inside, cut_earlier line (start + max 1 (length item)) (start + length item + 1) (items_from (start + length item + 1) [] None bytes) (omega arith) later)
    (items_cut line bytes (item ++ b ∷ []) start (quote_after quote b) (regrouped ∙ e) inside)

-- tokens before others were read before them
pub with_ok : (first ts : List Lexeme) (later : Reading) → with_tokens first later ≡ Ok ts → (more : List Lexeme) × (later ≡ Ok more) × (first ++ more ≡ ts)
with_ok first ts (Ok more) e = let same : first ++ more ≡ ts = cc in (more, refl, same)
with_ok first ts (Err refusal) e = absurd (cc)

module _ (line : List ℕ) (place b : ℕ) (rest : List ℕ) (e : b ∷ rest ≡ drop place line) (inside : place < length line)
    (again : (n : ℕ) (ts : List Lexeme) → tokens_from (place + 1) n rest ≡ Ok ts → AreCut line (place + 1 + n) ts) where
  cut_here : (f : Front) (ts : List Lexeme) → LiesIn f (b ∷ rest) → read_on place (b ∷ rest) f (tokens_from (place + 1) (width f - 1) rest) ≡ Ok ts → AreCut line place ts
  cut_here front.Blank ts fits h = cut_earlier line place (place + 1 + 0) ts (omega arith) (again 0 ts h)
  cut_here front.Comment ts fits h = let same : [] ≡ ts = cc in subst (AreCut line place) same tt
  cut_here front.Data ts fits h =
      let items = items_from (place + 4) [] None (drop 4 (b ∷ rest)) in
      let token : Lexeme = record { kind = kind.Keyword; start = place; bytes = take 4 (b ∷ rest) } in
      let same : token ∷ items ≡ ts = cc in
      let left : length (b ∷ rest) ≡ length line - place = ap length e ∙ length-drop place line in
      let four : length (take 4 (b ∷ rest)) ≡ 4 = length-take-le 4 (b ∷ rest) fits in
      let behind : drop 4 (b ∷ rest) ≡ drop (place + 4) line = ap (drop 4) e ∙ drop-drop 4 place line in
      let later : AreCut line (place + 4) items = items_cut line (drop 4 (b ∷ rest)) [] (place + 4) None behind (omega arith) in
      subst (AreCut line place) same (omega arith, front_slice line (b ∷ rest) place 4 kind.Keyword e (omega arith) fits, cut_earlier line (place + max 1 (length (take 4 (b ∷ rest)))) (place + 4) items (omega arith) later)
  cut_here (front.Token k len) ts fits h =
      let token : Lexeme = record { kind = k; start = place; bytes = take len (b ∷ rest) } in
      let split = with_ok (token ∷ []) ts (tokens_from (place + 1) (len - 1) rest) h in
      let taken : length (take len (b ∷ rest)) ≡ len = length-take-le len (b ∷ rest) fits.1 in
      let some : 0 < len = fits.0 in
      let later : AreCut line (place + 1 + (len - 1)) split.0 = again (len - 1) split.0 split.1 in
      subst (AreCut line place) split.2 (omega arith, front_slice line (b ∷ rest) place len k e (omega arith) fits.1, cut_earlier line (place + max 1 (length (take len (b ∷ rest)))) (place + 1 + (len - 1)) split.0 (omega arith) later)
  cut_here (front.Refused why) ts fits h = absurd (cc)

-- the tokens from a place on are cut from there on
pub tokens_cut : (line bytes : List ℕ) (place inside : ℕ) (ts : List Lexeme) → bytes ≡ drop place line → place ≤ length line → tokens_from place inside bytes ≡ Ok ts → AreCut line (place + inside) ts
unfolding tokens_from
tokens_cut line [] place inside ts e le h = let same : [] ≡ ts = cc in subst (AreCut line (place + inside)) same tt
tokens_cut line (b ∷ rest) place (suc n) ts e le h =
    let left : suc (length rest) ≡ length line - place = ap length e ∙ length-drop place line in
    let behind : rest ≡ drop (place + 1) line = ap (drop 1) e ∙ drop-drop 1 place line in
    let there : place + 1 + n ≡ place + suc n = omega arith in
    subst (λ p. AreCut line p ts) there (tokens_cut line rest (place + 1) n ts behind (omega arith) h)
tokens_cut line (b ∷ rest) place zero ts e le h =
    let left : suc (length rest) ≡ length line - place = ap length e ∙ length-drop place line in
    let behind : rest ≡ drop (place + 1) line = ap (drop 1) e ∙ drop-drop 1 place line in
    let there : place ≡ place + zero = omega arith in
    subst (λ p. AreCut line p ts) there
    (cut_here line place b rest e (omega arith) (λ n more again. tokens_cut line rest (place + 1) n more behind (omega arith) again) (front_of (b ∷ rest)) ts (front_fits (b ∷ rest) (omega arith)) h)

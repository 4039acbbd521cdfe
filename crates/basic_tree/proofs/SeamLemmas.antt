-- A blank before a token, or at the end of a line, changes no token's kind and bytes.
use Rattle.std.proofs.Common.{◌≡◌, ℕ, zero, suc, ◌+◌, ◌-◌, ◌<◌, ◌≤◌, Bool, true, false, List, [], ◌∷◌, ◌++◌, length, take, drop, refl, sym, ap, ◌∙◌, subst, arith, inl, inr, length-append, lt-ltb, ltb-true, ltb-false, replicate}
use Rattle.std.specs.Prelude.{◌==◌, nat_lt, max, map, if◌then◌else◌, slice_index, position, codes, Ok, Option, Some, None}
use Rattle.std.specs.List.{prefix_len}
use Rattle.std.specs.Str.Parse.{digits_value}
use Rattle.std.proofs.lemmas.List.{drop_at, length-replicate}
use Rattle.basic_tree.specs.Words.{keywords, signs}
use Rattle.std.specs.Char.{is_ascii_digit, is_ascii_alphabetic}
use Rattle.std.proofs.lemmas.Bool.{le-ltb}
use Rattle.basic_tree.specs.Tokens.{Lexeme, is_blank, is_quote, is_type_mark, is_word, longest_length, keyword_front, name_end, name_front, begins_function, is_floating, closed_front, letter_front, digit_front, quote_front, sign_front, front_of, cuts, quote_after, items_from, width, with_tokens, read_on, tokens_from}
use Rattle.basic_tree.specs.TokenLaws.{LiesIn, AreCut, moved, moved_reading, moved_from, StartsAt}
use Rattle.basic_tree.specs.declared.tokens.TokenKind.{TokenKind}
use Rattle.basic_tree.specs.declared.tokens.TokenKind.TheVariants as kind
use Rattle.basic_tree.specs.declared.tokens.Cause.{Cause}
use Rattle.basic_tree.specs.declared.tokens.Cause.TheVariants as cause
use Rattle.basic_tree.specs.declared.tokens.Front.{Front}
use Rattle.basic_tree.specs.declared.tokens.Front.TheVariants as front
use Rattle.basic_tree.proofs.FrontLemmas.{front_fits}
use Rattle.basic_tree.proofs.MoveLemmas.{front_blank, blank_moves}
use Rattle.basic_tree.proofs.SliceLemmas.{with_ok, tokens_cut}
use Rattle.basic_tree.proofs.GapLemmas.{Gap, blank_is_gap, byte_same, front_same, letter_stays, sign_stays}
use Rattle.basic_tree.proofs.GapNumberLemmas.{digit_stays, quote_stays}

-- ---- what the bytes begin with stays as it is

module _ (g : ℕ) (x y : List ℕ) (k : TokenKind) (len : ℕ) (gap : Gap g) (some : 0 < len) (le : len ≤ length x) where
  abbrev old : List ℕ
  old = x ++ y

  abbrev new : List ℕ
  new = x ++ g ∷ y

  abbrev token : Front
  token = front.Token k len

  abbrev at_comment : List ℕ → ℕ → Front
  at_comment rest first = if first == 33 then front.Comment else sign_front rest

  abbrev at_quote : List ℕ → ℕ → Front
  at_quote rest first = if is_quote first then quote_front rest else at_comment rest first

  abbrev at_digit : List ℕ → ℕ → Front
  at_digit rest first = if is_ascii_digit first then digit_front rest else at_quote rest first

  abbrev at_letter : List ℕ → ℕ → Front
  at_letter rest first = if is_ascii_alphabetic first then letter_front rest else at_digit rest first

  abbrev at_first : List ℕ → ℕ → Front
  at_first rest first = if is_blank first then front.Blank else at_letter rest first

  comment_stays : (first : ℕ) → at_comment old first ≡ token → at_comment new first ≡ token
  comment_stays first h = go (first == 33) h where
    go : (b : Bool) → (if b then front.Comment else sign_front old) ≡ token → (if b then front.Comment else sign_front new) ≡ token
    go true h' = absurd (cc)
    go false h' = sign_stays g x y k len gap le h'

  quoted_stays : (first : ℕ) → at_quote old first ≡ token → at_quote new first ≡ token
  quoted_stays first h = go (is_quote first) h where
    go : (b : Bool) → (if b then quote_front old else at_comment old first) ≡ token → (if b then quote_front new else at_comment new first) ≡ token
    go true h' = quote_stays g x y k len le h'
    go false h' = comment_stays first h'

  number_stays : (first : ℕ) → at_digit old first ≡ token → at_digit new first ≡ token
  number_stays first h = go (is_ascii_digit first) h where
    go : (b : Bool) → (if b then digit_front old else at_quote old first) ≡ token → (if b then digit_front new else at_quote new first) ≡ token
    go true h' = digit_stays g x y k len gap le h'
    go false h' = quoted_stays first h'

  word_stays : (first : ℕ) → at_letter old first ≡ token → at_letter new first ≡ token
  word_stays first h = go (is_ascii_alphabetic first) h where
    go : (b : Bool) → (if b then letter_front old else at_digit old first) ≡ token → (if b then letter_front new else at_digit new first) ≡ token
    go true h' = letter_stays g x y k len gap le h'
    go false h' = number_stays first h'

  first_stays : (first : ℕ) → at_first old first ≡ token → at_first new first ≡ token
  first_stays first h = go (is_blank first) h where
    go : (b : Bool) → (if b then front.Blank else at_letter old first) ≡ token → (if b then front.Blank else at_letter new first) ≡ token
    go true h' = absurd (cc)
    go false h' = word_stays first h'

  pub token_stays : front_of (x ++ y) ≡ front.Token k len → front_of (x ++ g ∷ y) ≡ front.Token k len
  unfolding front_of
  token_stays h = ap (at_first new) (byte_same g x y 0 (omega arith)) ∙ first_stays (slice_index old 0) h

-- ---- only a blank is read as one

record NoBlank (f : Front) : Type 0 where
  pub fact : f ≡ front.Blank → ⊥

either : (b : Bool) (u v : Front) → NoBlank u → NoBlank v → NoBlank (if b then u else v)
either true u v first second = first
either false u v first second = second

token_no_blank : (k : TokenKind) (len : ℕ) → NoBlank (front.Token k len)
token_no_blank k len = record { fact = λ e. absurd (cc) }

refused_no_blank : (why : Cause) → NoBlank (front.Refused why)
refused_no_blank why = record { fact = λ e. absurd (cc) }

comment_no_blank : NoBlank front.Comment
comment_no_blank = record { fact = λ e. absurd (cc) }

keyword_no_blank : (word : List ℕ) → NoBlank (keyword_front word)
keyword_no_blank word =
    either (is_word (codes "REM") word) front.Comment (if is_word (codes "DATA") word then front.Data else front.Token kind.Keyword (length word)) comment_no_blank
    (either (is_word (codes "DATA") word) front.Data (front.Token kind.Keyword (length word)) (record { fact = λ e. absurd (cc) }) (token_no_blank kind.Keyword (length word)))

name_no_blank : (k : TokenKind) (end : ℕ) (rest : List ℕ) → NoBlank (name_front k end rest)
name_no_blank k end rest = either (is_type_mark (slice_index rest end)) (front.Token k (end + 1)) (front.Refused cause.FloatingName) (token_no_blank k (end + 1)) (refused_no_blank cause.FloatingName)

letter_no_blank : (rest : List ℕ) → NoBlank (letter_front rest)
unfolding letter_front
letter_no_blank rest =
    let function = name_front kind.FnName (name_end 2 rest) rest in
    let variable = name_front kind.Variable (name_end 0 rest) rest in
    either (nat_lt 0 (longest_length keywords rest)) (keyword_front (take (longest_length keywords rest) rest)) (if begins_function rest then function else variable) (keyword_no_blank (take (longest_length keywords rest) rest))
    (either (begins_function rest) function variable (name_no_blank kind.FnName (name_end 2 rest) rest) (name_no_blank kind.Variable (name_end 0 rest) rest))

digit_no_blank : (rest : List ℕ) → NoBlank (digit_front rest)
unfolding digit_front
digit_no_blank rest =
    let n = prefix_len is_ascii_digit rest in
    let literal = front.Token kind.Literal (if slice_index rest n == 37 then n + 1 else n) in
    let wide = nat_lt 32767 (digits_value 10 (take n rest)) in
    either (is_floating (drop n rest)) (front.Refused cause.FloatingLiteral) (if wide then front.Refused cause.NumberTooWide else literal) (refused_no_blank cause.FloatingLiteral)
    (either wide (front.Refused cause.NumberTooWide) literal (refused_no_blank cause.NumberTooWide) (token_no_blank kind.Literal _))

closed_no_blank : (found : Option ℕ) → NoBlank (closed_front found)
closed_no_blank None = refused_no_blank cause.OpenString
closed_no_blank (Some n) = token_no_blank kind.Quoted (n + 2)

quote_no_blank : (rest : List ℕ) → NoBlank (quote_front rest)
unfolding quote_front
quote_no_blank rest = closed_no_blank (position (λ b. b == slice_index rest 0) (drop 1 rest))

sign_no_blank : (rest : List ℕ) → NoBlank (sign_front rest)
unfolding sign_front
sign_no_blank rest = either (nat_lt 0 (longest_length signs rest)) (front.Token kind.Sign (longest_length signs rest)) (front.Refused cause.StrayByte) (token_no_blank kind.Sign (longest_length signs rest)) (refused_no_blank cause.StrayByte)

blank_is_first : (b : ℕ) (rest : List ℕ) → front_of (b ∷ rest) ≡ front.Blank → is_blank b ≡ true
unfolding front_of
blank_is_first b rest h = go (is_blank b) h where
  none : NoBlank (if is_ascii_alphabetic b then letter_front (b ∷ rest) else (if is_ascii_digit b then digit_front (b ∷ rest) else (if is_quote b then quote_front (b ∷ rest) else (if b == 33 then front.Comment else sign_front (b ∷ rest)))))
  none =
      either (is_ascii_alphabetic b) (letter_front (b ∷ rest)) (if is_ascii_digit b then digit_front (b ∷ rest) else (if is_quote b then quote_front (b ∷ rest) else (if b == 33 then front.Comment else sign_front (b ∷ rest)))) (letter_no_blank (b ∷ rest))
      (either (is_ascii_digit b) (digit_front (b ∷ rest)) (if is_quote b then quote_front (b ∷ rest) else (if b == 33 then front.Comment else sign_front (b ∷ rest))) (digit_no_blank (b ∷ rest))
      (either (is_quote b) (quote_front (b ∷ rest)) (if b == 33 then front.Comment else sign_front (b ∷ rest)) (quote_no_blank (b ∷ rest))
      (either (b == 33) front.Comment (sign_front (b ∷ rest)) comment_no_blank (sign_no_blank (b ∷ rest)))))

  go : (c : Bool) → (if c then front.Blank else (if is_ascii_alphabetic b then letter_front (b ∷ rest) else (if is_ascii_digit b then digit_front (b ∷ rest) else (if is_quote b then quote_front (b ∷ rest) else (if b == 33 then front.Comment else sign_front (b ∷ rest)))))) ≡ front.Blank → c ≡ true
  go true h' = refl
  go false h' = absurd (none.fact h')

-- ---- where tokens start

not_before : (line : List ℕ) (p from : ℕ) (ts : List Lexeme) → AreCut line from ts → p < from → StartsAt p ts → ⊥
not_before line p from [] cut lt s = s
not_before line p from (t ∷ ts) cut lt (inl at) = absurd (omega (arith, cut.0, at.0))
not_before line p from (t ∷ ts) cut lt (inr s) = not_before line p (t.start + max 1 (length t.bytes)) ts cut.2 (omega (arith, cut.0)) s

all_move : (line : List ℕ) (p from : ℕ) (ts : List Lexeme) → AreCut line from ts → p ≤ from → map (moved_from p) ts ≡ map (moved 1) ts
all_move line p from [] cut le = refl
all_move line p from (t ∷ ts) cut le =
    let behind : nat_lt t.start p ≡ false = le-ltb t.start p (omega (arith, cut.0)) in
    ap (λ b. (if b then t else moved 1 t) ∷ map (moved_from p) ts) behind
    ∙ ap (λ (more : List Lexeme). moved 1 t ∷ more) (all_move line p (t.start + max 1 (length t.bytes)) ts cut.2 (omega (arith, cut.0)))

items_are_items : (p start : ℕ) (item bytes : List ℕ) (quote : Option ℕ) → StartsAt p (items_from start item quote bytes) → ⊥
unfolding items_from
items_are_items p start item [] quote (inl at) = at.1 refl
items_are_items p start item [] quote (inr s) = s
items_are_items p start item (b ∷ bytes) quote s = go (cuts quote b) s (items_are_items p (start + length item + 1) [] bytes None) (items_are_items p start (item ++ b ∷ []) bytes (quote_after quote b)) where
  head : StartsAt p (record { kind = kind.DataItem; start = start; bytes = item } ∷ items_from (start + length item + 1) [] None bytes) → (StartsAt p (items_from (start + length item + 1) [] None bytes) → ⊥) → ⊥
  head (inl at) later = at.1 refl
  head (inr s') later = later s'

  go : (c : Bool) → StartsAt p (if c then record { kind = kind.DataItem; start = start; bytes = item } ∷ items_from (start + length item + 1) [] None bytes else items_from start (item ++ b ∷ []) (quote_after quote b) bytes) → (StartsAt p (items_from (start + length item + 1) [] None bytes) → ⊥) → (StartsAt p (items_from start (item ++ b ∷ []) (quote_after quote b) bytes) → ⊥) → ⊥
  go true s' first second = head s' first
  go false s' first second = second s'

-- tokens from a place on, as those of a line that has any bytes before
cut_anywhere : (place inside : ℕ) (bytes : List ℕ) (ts : List Lexeme) → tokens_from place inside bytes ≡ Ok ts → AreCut (replicate place 0 ++ bytes) (place + inside) ts
cut_anywhere place inside bytes ts h =
    tokens_cut (replicate place 0 ++ bytes) bytes place inside ts (sym (drop_at (replicate place 0) bytes place (length-replicate {A = ℕ} place 0))) (omega (arith, length-append (replicate place 0) bytes, length-replicate {A = ℕ} place 0)) h

-- ---- the law

module _ (g b : ℕ) (x y : List ℕ) (place : ℕ) (is : is_blank g ≡ true)
    (again : (n : ℕ) (ts : List Lexeme) → tokens_from (place + 1) n (x ++ y) ≡ Ok ts → StartsAt (place + 1 + length x) ts → tokens_from (place + 1) n (x ++ g ∷ y) ≡ Ok (map (moved_from (place + 1 + length x)) ts)) where
  there : place + 1 + length x ≡ place + suc (length x)
  there = omega arith

  onward : (n : ℕ) (ts : List Lexeme) → tokens_from (place + 1) n (x ++ y) ≡ Ok ts → StartsAt (place + suc (length x)) ts → tokens_from (place + 1) n (x ++ g ∷ y) ≡ Ok (map (moved_from (place + suc (length x))) ts)
  onward n ts h s = again n ts h (subst (λ p. StartsAt p ts) (sym there) s) ∙ ap (λ p. Ok (map (moved_from p) ts)) there

  at_front : (f : Front) (ts : List Lexeme) → front_of (b ∷ x ++ y) ≡ f → read_on place (b ∷ x ++ y) f (tokens_from (place + 1) (width f - 1) (x ++ y)) ≡ Ok ts → StartsAt (place + suc (length x)) ts → read_on place (b ∷ x ++ g ∷ y) (front_of (b ∷ x ++ g ∷ y)) (tokens_from (place + 1) (width (front_of (b ∷ x ++ g ∷ y)) - 1) (x ++ g ∷ y)) ≡ Ok (map (moved_from (place + suc (length x))) ts)
  at_front front.Blank ts e h s =
      ap (λ f. read_on place (b ∷ x ++ g ∷ y) f (tokens_from (place + 1) (width f - 1) (x ++ g ∷ y))) (front_blank b (x ++ g ∷ y) (blank_is_first b (x ++ y) e)) ∙ onward 0 ts h s
  at_front front.Comment ts e h s = let same : [] ≡ ts = cc in absurd (subst (StartsAt (place + suc (length x))) (sym same) s)
  at_front front.Data ts e h s =
      let token : Lexeme = record { kind = kind.Keyword; start = place; bytes = take 4 (b ∷ x ++ y) } in
      let items = items_from (place + 4) [] None (drop 4 (b ∷ x ++ y)) in
      let same : token ∷ items ≡ ts = cc in
      absurd (behind_data token items refl (subst (StartsAt (place + suc (length x))) (sym same) s) (items_are_items (place + suc (length x)) (place + 4) [] (drop 4 (b ∷ x ++ y)) None)) where
        behind_data : (token : Lexeme) (items : List Lexeme) → token.start ≡ place → StartsAt (place + suc (length x)) (token ∷ items) → (StartsAt (place + suc (length x)) items → ⊥) → ⊥
        behind_data token items at (inl w) later = absurd (omega (arith, w.0))
        behind_data token items at (inr w) later = later w
  at_front (front.Token k len) ts e h s =
      let token : Lexeme = record { kind = k; start = place; bytes = take len (b ∷ x ++ y) } in
      let split = with_ok (token ∷ []) ts (tokens_from (place + 1) (len - 1) (x ++ y)) h in
      let fits : LiesIn (front.Token k len) (b ∷ x ++ y) = subst (λ f. LiesIn f (b ∷ x ++ y)) e (front_fits (b ∷ x ++ y) (omega arith)) in
      let later : StartsAt (place + suc (length x)) split.0 = behind_token token split.0 refl (subst (StartsAt (place + suc (length x))) (sym split.2) s) in
      let reach : len ≤ suc (length x) = reaches len split.0 fits.0 split.1 later (nat_lt (place + suc (length x)) (place + 1 + (len - 1))) refl in
      let stays : front_of (b ∷ x ++ g ∷ y) ≡ front.Token k len = token_stays g (b ∷ x) y k len (blank_is_gap g is) fits.0 reach e in
      let bytes : take len (b ∷ x ++ g ∷ y) ≡ take len (b ∷ x ++ y) = front_same g (b ∷ x) y len reach in
      let kept : nat_lt place (place + suc (length x)) ≡ true = lt-ltb place (place + suc (length x)) (omega arith) in
      ap (λ f. read_on place (b ∷ x ++ g ∷ y) f (tokens_from (place + 1) (width f - 1) (x ++ g ∷ y))) stays
      ∙ ap (λ bs. with_tokens (record { kind = k; start = place; bytes = bs } ∷ []) (tokens_from (place + 1) (len - 1) (x ++ g ∷ y))) bytes
      ∙ ap (with_tokens (token ∷ [])) (onward (len - 1) split.0 split.1 later)
      ∙ ap (λ c. Ok ((if c then token else moved 1 token) ∷ map (moved_from (place + suc (length x))) split.0)) (sym kept)
      ∙ ap (λ (all : List Lexeme). Ok (map (moved_from (place + suc (length x))) all)) split.2 where
        behind_token : (token : Lexeme) (more : List Lexeme) → token.start ≡ place → StartsAt (place + suc (length x)) (token ∷ more) → StartsAt (place + suc (length x)) more
        behind_token token more at (inl w) = absurd (omega (arith, w.0))
        behind_token token more at (inr w) = w

        reaches : (len : ℕ) (more : List Lexeme) → 0 < len → tokens_from (place + 1) (len - 1) (x ++ y) ≡ Ok more → StartsAt (place + suc (length x)) more → (c : Bool) → nat_lt (place + suc (length x)) (place + 1 + (len - 1)) ≡ c → len ≤ suc (length x)
        reaches len more some read at true lt = absurd (not_before (replicate (place + 1) 0 ++ (x ++ y)) (place + suc (length x)) (place + 1 + (len - 1)) more (cut_anywhere (place + 1) (len - 1) (x ++ y) more read) (ltb-true (place + suc (length x)) (place + 1 + (len - 1)) lt) at)
        reaches len more some read at false ge = omega (arith, ltb-false (place + suc (length x)) (place + 1 + (len - 1)) ge)
  at_front (front.Refused why) ts e h s = absurd (cc)

pub seam : (g : ℕ) (x y : List ℕ) (place inside : ℕ) (ts : List Lexeme) → is_blank g ≡ true → tokens_from place inside (x ++ y) ≡ Ok ts → StartsAt (place + length x) ts → tokens_from place inside (x ++ g ∷ y) ≡ Ok (map (moved_from (place + length x)) ts)
unfolding tokens_from
seam g [] y place zero ts is h s =
    let cut = cut_anywhere place 0 y ts h in
    blank_moves y g place is ∙ ap (moved_reading 1) h ∙ ap (λ (all : List Lexeme). Ok all) (sym (all_move (replicate place 0 ++ y) (place + 0) (place + 0) ts cut (omega arith)))
seam g [] y place (suc n) ts is h s = absurd (not_before (replicate place 0 ++ y) (place + 0) (place + suc n) ts (cut_anywhere place (suc n) y ts h) (omega arith) s)
seam g (b ∷ x) y place (suc n) ts is h s =
    let there : place + 1 + length x ≡ place + suc (length x) = omega arith in
    seam g x y (place + 1) n ts is h (subst (λ p. StartsAt p ts) (sym there) s) ∙ ap (λ p. Ok (map (moved_from p) ts)) there
seam g (b ∷ x) y place zero ts is h s =
    at_front g b x y place is (λ n more read starts. seam g x y (place + 1) n more is read starts) (front_of (b ∷ x ++ y)) ts refl h s

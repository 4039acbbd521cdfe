-- Bytes that spell numbers, strings, items and whole lines of words.
use Rattle.std.proofs.Common.{◌≡◌, ℕ, suc, ◌+◌, ◌-◌, ◌<◌, ◌≤◌, Bool, true, false, List, [], ◌∷◌, ◌++◌, length, take, drop, refl, sym, ap, ◌∙◌, subst, arith, inl, inr, append_assoc, append-nil, length-append}
use Rattle.std.specs.Prelude.{◌≢◌, ◌==◌, nat_lt, min, All, not, if◌then◌else◌, cond, slice_index, position, Option, Some, None, Ok, codes}
use Rattle.std.specs.List.{prefix_len, position_or_len}
use Rattle.std.specs.Char.{is_ascii_digit, is_ascii_alphabetic}
use Rattle.std.specs.Str.Parse.{AllDigits, digits_value}
use Rattle.std.specs.Fmt.{decimal}
use Rattle.std.proofs.lemmas.Bool.{ne_eqb, eq-eqb, le-ltb, lt-ltb, le-leb}
use Rattle.std.proofs.lemmas.Fmt.{decimal_is_IsNumeral}
use Rattle.std.proofs.lemmas.Str.Parse.{digit_from_value}
use Rattle.std.proofs.lemmas.List.{take_at, drop_at, take_all}
use Rattle.std.proofs.lemmas.List.Elements.{All-head, All-tail}
use Rattle.basic_tree.specs.declared.kinds.Want.{Want}
use Rattle.basic_tree.specs.declared.tokens.Keyword.TheVariants as keyword
use Rattle.basic_tree.specs.declared.tokens.TokenKind.TheVariants as kind
use Rattle.basic_tree.specs.declared.tokens.Cause.TheVariants as cause
use Rattle.basic_tree.specs.declared.tokens.Front.{Front}
use Rattle.basic_tree.specs.declared.tokens.Front.TheVariants as front
use Rattle.basic_values.specs.declared.limits.TheConstants.{MOST_NUMBER}
use Rattle.basic_tree.specs.Words.{keywords}
use Rattle.basic_tree.specs.Tokens.{Lexeme, Reading, is_blank, is_floating, closed_front, letter_front, digit_front, quote_front, front_of, quote_after, items_from, with_tokens, tokens_from, tokens_of}
use Rattle.basic_tree.specs.SpellingWords.{Word, Key, Punctuation, Named, FnNamed, Number, Quotation, Item, word_of, words_of, words, too_deep}
use Rattle.basic_tree.specs.Trees.{Tree, LineTree}
use Rattle.basic_tree.specs.SpellingExpressions.{steps_of, IsTree, Fits, IsExpr}
use Rattle.basic_tree.specs.SpellingStatements.{line_steps, IsAdmissible}
use Rattle.basic_tree.specs.GrammarPlaces.{IsRead, IsReadLine}
use Rattle.basic_tree.specs.LineVerdicts.{SpelledBy, Spells}
use Rattle.basic_tree.specs.ReadableWords.{IsQuotable, IsReadable, IsUncut, quote_behind, AreDataItems, AreReadable, TreesAreSpelled}
use Rattle.basic_tree.proofs.TokenLemmas.{tokens_step}
use Rattle.basic_tree.proofs.TableSpelling.{SpelledWord, keyword_spelled, sign_spelled}
use Rattle.basic_tree.proofs.NameSpelling.{named_spelled, fn_named_spelled}

-- ---- numbers

record DigitByte (c : ℕ) : Type 0 where
  pub blank : is_blank c ≡ false
  pub letter : is_ascii_alphabetic c ≡ false
  pub digit : is_ascii_digit c ≡ true

digit_byte : (c : ℕ) → 48 ≤ c → c ≤ 57 → DigitByte c
digit_byte c low high = record {
  blank = rw (ne_eqb c 32 (λ e. omega (arith, low, e)), ne_eqb c 9 (λ e. omega (arith, low, e))) refl;
  letter = rw (le-ltb 64 c (omega (arith, high)), le-ltb 96 c (omega (arith, high))) refl;
  digit = rw (le-leb 48 c low, le-leb c 57 high) refl;
}

-- all leading digits are counted
run_length : (ds rest : List ℕ) → AllDigits 10 ds → prefix_len is_ascii_digit (ds ++ 32 ∷ rest) ≡ length ds
run_length [] rest h = refl
run_length (c ∷ ds) rest h =
    let r = digit_from_value c h.0 in
    ap (λ b. cond b (1 + prefix_len is_ascii_digit (ds ++ 32 ∷ rest)) 0) (digit_byte c r.0 r.1).digit
    ∙ ap (λ n. 1 + n) (run_length ds rest h.1) ∙ omega arith

run_whole : (ds : List ℕ) → AllDigits 10 ds → prefix_len is_ascii_digit ds ≡ length ds
run_whole [] h = refl
run_whole (c ∷ ds) h =
    let r = digit_from_value c h.0 in
    ap (λ b. cond b (1 + prefix_len is_ascii_digit ds) 0) (digit_byte c r.0 r.1).digit ∙ ap (λ n. 1 + n) (run_whole ds h.1) ∙ omega arith

behind_run : (ds rest : List ℕ) → slice_index (ds ++ 32 ∷ rest) (length ds) ≡ 32
behind_run [] rest = refl
behind_run (c ∷ ds) rest = behind_run ds rest

abbrev wide_or : Bool → Front → Front
wide_or wide f = if wide then front.Refused cause.NumberTooWide else f

abbrev by_run : List ℕ → ℕ → Front
by_run rest len =
    if is_floating (drop len rest) then front.Refused cause.FloatingLiteral
    else wide_or (nat_lt MOST_NUMBER (digits_value 10 (take len rest))) (front.Token kind.Literal (if slice_index rest len == 37 then len + 1 else len))

digits_front : (rest : List ℕ) → digit_front rest ≡ by_run rest (prefix_len is_ascii_digit rest)
unfolding digit_front
digits_front rest = refl

at_digit : (rest : List ℕ) → DigitByte (slice_index rest 0) → front_of rest ≡ digit_front rest
unfolding front_of
at_digit rest d = rw (d.blank, d.letter, d.digit) refl

number_front : (ds rest : List ℕ) → 0 < length ds → AllDigits 10 ds → digits_value 10 ds ≤ MOST_NUMBER → front_of (ds ++ 32 ∷ rest) ≡ front.Token kind.Literal (length ds)
number_front [] rest some h small = absurd (omega (arith, some))
number_front (c ∷ ds) rest some h small =
    let r = digit_from_value c h.0 in
    let bytes : List ℕ = (c ∷ ds) ++ 32 ∷ rest in
    let n : ℕ = length (c ∷ ds) in
    let left : drop n bytes ≡ 32 ∷ rest = drop_at (c ∷ ds) (32 ∷ rest) n refl in
    let whole : take n bytes ≡ c ∷ ds = take_at (c ∷ ds) (32 ∷ rest) n refl in
    let narrow : nat_lt MOST_NUMBER (digits_value 10 (take n bytes)) ≡ false = ap (λ x. nat_lt MOST_NUMBER (digits_value 10 x)) whole ∙ le-ltb MOST_NUMBER (digits_value 10 (c ∷ ds)) small in
    at_digit bytes (digit_byte c r.0 r.1)
    ∙ digits_front bytes
    ∙ ap (λ len. by_run bytes len) (run_length (c ∷ ds) rest h)
    ∙ ap (λ x. if is_floating x then front.Refused cause.FloatingLiteral else wide_or (nat_lt MOST_NUMBER (digits_value 10 (take n bytes))) (front.Token kind.Literal (if slice_index bytes n == 37 then n + 1 else n))) left
    ∙ ap (λ b. wide_or b (front.Token kind.Literal (if slice_index bytes n == 37 then n + 1 else n))) narrow
    ∙ ap (λ x. front.Token kind.Literal (if x == 37 then n + 1 else n)) (behind_run (c ∷ ds) rest)

number_spelled : (n : ℕ) → n ≤ MOST_NUMBER → SpelledWord (Number n)
number_spelled n small =
    let d = decimal_is_IsNumeral n (omega (arith, small)) in
    record {
      bytes = decimal n;
      sort = kind.Literal;
      some = d.0.0;
      front = λ rest. number_front (decimal n) rest d.0.0 d.0.1 (omega (arith, small, d.1));
      word =
          ap (λ len. Number (min (MOST_NUMBER + 1) (digits_value 10 (take len (decimal n))))) (run_whole (decimal n) d.0.1)
          ∙ ap (λ ds. Number (min (MOST_NUMBER + 1) (digits_value 10 ds))) (take_all (length (decimal n)) (decimal n) (omega arith))
          ∙ ap (λ v. Number (min (MOST_NUMBER + 1) v)) d.1
          ∙ ap Number (least n small);
    } where
      least : (n : ℕ) → n ≤ MOST_NUMBER → min (MOST_NUMBER + 1) n ≡ n
      least n h = omega (arith, h)

-- ---- strings

closes : (q : ℕ) (text rest : List ℕ) → All (λ b. b ≢ q) text → position_or_len (λ b. b == q) (text ++ q ∷ rest) ≡ length text
closes q [] rest h = rw (eq-eqb q q refl) refl
closes q (b ∷ text) rest h =
    ap (λ x. cond (not x) (1 + position_or_len (λ b. b == q) (text ++ q ∷ rest)) 0) (ne_eqb b q (All-head (λ b. b ≢ q) b text h))
    ∙ ap (λ n. 1 + n) (closes q text rest (All-tail (λ b. b ≢ q) b text h)) ∙ omega arith

text_front : (q : ℕ) (text rest : List ℕ) → All (λ b. b ≢ q) text → closed_front (position (λ b. b == q) (text ++ q ∷ rest)) ≡ front.Token kind.Quoted (length (q ∷ (text ++ q ∷ [])))
text_front q text rest h =
    let more : length text < length (text ++ q ∷ rest) = omega (arith, length-append text (q ∷ rest)) in
    let long : length text + 2 ≡ length (q ∷ (text ++ q ∷ [])) = omega (arith, length-append text (q ∷ [])) in
    ap (λ n. closed_front (cond (nat_lt n (length (text ++ q ∷ rest))) (Some n) None)) (closes q text rest h)
    ∙ ap (λ b. closed_front (cond b (Some (length text)) None)) (lt-ltb (length text) (length (text ++ q ∷ rest)) more)
    ∙ ap (front.Token kind.Quoted) long

quoted_front : (text rest : List ℕ) → quote_front (34 ∷ (text ++ 34 ∷ rest)) ≡ closed_front (position (λ b. b == 34) (text ++ 34 ∷ rest))
unfolding quote_front
quoted_front text rest = refl

single_front : (text rest : List ℕ) → quote_front (39 ∷ (text ++ 39 ∷ rest)) ≡ closed_front (position (λ b. b == 39) (text ++ 39 ∷ rest))
unfolding quote_front
single_front text rest = refl

at_quote : (rest : List ℕ) → front_of (34 ∷ rest) ≡ quote_front (34 ∷ rest)
unfolding front_of
at_quote rest = refl

at_single : (rest : List ℕ) → front_of (39 ∷ rest) ≡ quote_front (39 ∷ rest)
unfolding front_of
at_single rest = refl

text_inside : (q : ℕ) (text : List ℕ) → take (length (q ∷ (text ++ q ∷ [])) - 2) (text ++ q ∷ []) ≡ text
text_inside q text = take_at text (q ∷ []) (length (q ∷ (text ++ q ∷ [])) - 2) (omega (arith, length-append text (q ∷ [])))

quotation_spelled : (text : List ℕ) → IsQuotable text → SpelledWord (Quotation text)
quotation_spelled text (inl h) = record {
  bytes = 34 ∷ (text ++ 34 ∷ []);
  sort = kind.Quoted;
  some = omega arith;
  front = λ rest. ap (λ x. front_of (34 ∷ x)) (append_assoc text (34 ∷ []) (32 ∷ rest)) ∙ at_quote (text ++ 34 ∷ 32 ∷ rest) ∙ quoted_front text (32 ∷ rest) ∙ text_front 34 text (32 ∷ rest) h;
  word = ap Quotation (text_inside 34 text);
}
quotation_spelled text (inr h) = record {
  bytes = 39 ∷ (text ++ 39 ∷ []);
  sort = kind.Quoted;
  some = omega arith;
  front = λ rest. ap (λ x. front_of (39 ∷ x)) (append_assoc text (39 ∷ []) (32 ∷ rest)) ∙ at_single (text ++ 39 ∷ 32 ∷ rest) ∙ single_front text (32 ∷ rest) ∙ text_front 39 text (32 ∷ rest) h;
  word = ap Quotation (text_inside 39 text);
}

word_spelled : (w : Word) → IsReadable w → SpelledWord w
word_spelled (Key k) h = keyword_spelled k h
word_spelled (Punctuation s) h = sign_spelled s h
word_spelled (Named n) h = named_spelled n h
word_spelled (FnNamed n) h = fn_named_spelled n h
word_spelled (Number n) h = number_spelled n h
word_spelled (Quotation text) h = quotation_spelled text h
word_spelled (Item bytes) h = absurd h

-- ---- the items of DATA

-- bytes that no comma splits are one item
item_goes_on : (start : ℕ) (item : List ℕ) (quote : Option ℕ) (bytes rest : List ℕ) → IsUncut quote bytes → items_from start item quote (bytes ++ rest) ≡ items_from start (item ++ bytes) (quote_behind quote bytes) rest
unfolding items_from
item_goes_on start item quote [] rest h = ap (λ x. items_from start x quote rest) (sym (append-nil item))
item_goes_on start item quote (b ∷ bytes) rest h =
    ap (λ x. if x then record { kind = kind.DataItem; start = start; bytes = item } ∷ items_from (start + length item + 1) [] None (bytes ++ rest) else items_from start (item ++ b ∷ []) (quote_after quote b) (bytes ++ rest)) h.0
    ∙ item_goes_on start (item ++ b ∷ []) (quote_after quote b) bytes rest h.1
    ∙ ap (λ x. items_from start x (quote_behind (quote_after quote b) bytes) rest) (append_assoc item (b ∷ []) bytes)

item_ends : (start : ℕ) (item : List ℕ) (quote : Option ℕ) → items_from start item quote [] ≡ record { kind = kind.DataItem; start = start; bytes = item } ∷ []
unfolding items_from
item_ends start item quote = refl

item_cut : (start : ℕ) (item rest : List ℕ) → items_from start item None (44 ∷ rest) ≡ record { kind = kind.DataItem; start = start; bytes = item } ∷ items_from (start + length item + 1) [] None rest
unfolding items_from
item_cut start item rest = refl

-- bytes whose items are these words
record SpelledItems (ws : List Word) : Type 0 where
  pub bytes : List ℕ
  pub reads : (start : ℕ) → words_of (items_from start [] None bytes) ≡ ws

items_spelled : (ws : List Word) → AreDataItems ws → SpelledItems ws
items_spelled [] h = absurd h
items_spelled (Item bytes ∷ []) h = record {
  bytes = bytes;
  reads = λ start. ap (λ x. words_of (items_from start [] None x)) (sym (append-nil bytes)) ∙ ap words_of (item_goes_on start [] None bytes [] h ∙ item_ends start bytes (quote_behind None bytes));
}
items_spelled (Item bytes ∷ (w ∷ ws)) h =
    let more = items_spelled (w ∷ ws) h.2 in
    record {
      bytes = bytes ++ 44 ∷ more.bytes;
      reads = λ start.
          ap words_of (item_goes_on start [] None bytes (44 ∷ more.bytes) h.0 ∙ ap (λ q. items_from start bytes q (44 ∷ more.bytes)) h.1 ∙ item_cut start bytes more.bytes)
          ∙ ap (λ x. Item bytes ∷ x) (more.reads (start + length bytes + 1));
    }
items_spelled (w ∷ ws) h = absurd h

-- ---- lines of words

-- bytes that spell these words, wherever they begin
record SpelledWords (ws : List Word) : Type 0 where
  pub line : List ℕ
  pub reads : (place : ℕ) → (tokens : List Lexeme) × (tokens_from place 0 line ≡ Ok tokens) × (words_of tokens ≡ ws)

no_bytes : SpelledWords []
unfolding tokens_from
no_bytes = record { line = []; reads = λ place. ([], refl, refl) }

blank_there : (rest : List ℕ) → front_of (32 ∷ rest) ≡ front.Blank
unfolding front_of
blank_there rest = refl

data_there : (rest : List ℕ) → front_of (68 ∷ 65 ∷ 84 ∷ 65 ∷ rest) ≡ front.Data
unfolding keywords letter_front front_of
data_there rest = refl

data_word : (place : ℕ) → word_of (record { kind = kind.Keyword; start = place; bytes = codes "DATA" }) ≡ Key keyword.Data
unfolding keywords
data_word place = refl

data_spelled : (ws : List Word) → SpelledItems ws → SpelledWords (Key keyword.Data ∷ ws)
data_spelled ws items = record {
  line = 68 ∷ 65 ∷ 84 ∷ 65 ∷ items.bytes;
  reads = λ place.
      let token : Lexeme = record { kind = kind.Keyword; start = place; bytes = codes "DATA" } in (
        token ∷ items_from (place + 4) [] None items.bytes,
        tokens_step place (68 ∷ 65 ∷ 84 ∷ 65 ∷ items.bytes) front.Data (omega arith) (omega arith) (data_there items.bytes),
        ap (λ x. x ∷ words_of (items_from (place + 4) [] None items.bytes)) (data_word place) ∙ ap (λ x. Key keyword.Data ∷ x) (items.reads (place + 4)),
      );
}

-- a word, a blank and more words
joined : (w : Word) (ws : List Word) → SpelledWord w → SpelledWords ws → SpelledWords (w ∷ ws)
joined w ws first more = record {
  line = first.bytes ++ 32 ∷ more.line;
  reads = λ place.
      let len : ℕ = length first.bytes in
      let later = more.reads (place + len + 1) in
      let token : Lexeme = record { kind = first.sort; start = place; bytes = first.bytes } in
      let line : List ℕ = first.bytes ++ 32 ∷ more.line in
      let own : take len line ≡ first.bytes = take_at first.bytes (32 ∷ more.line) len refl in
      let left : drop len line ≡ 32 ∷ more.line = drop_at first.bytes (32 ∷ more.line) len refl in
      let behind : tokens_from (place + len) 0 (drop len line) ≡ Ok later.0 =
      ap (tokens_from (place + len) 0) left ∙ tokens_step (place + len) (32 ∷ more.line) front.Blank (omega arith) (omega arith) (blank_there more.line) ∙ later.1 in (
        token ∷ later.0,
        tokens_step place line (front.Token first.sort len) (omega (arith, length-append first.bytes (32 ∷ more.line))) first.some (first.front more.line)
            ∙ ap (λ x. with_tokens (record { kind = first.sort; start = place; bytes = x } ∷ []) (tokens_from (place + len) 0 (drop len line))) own
            ∙ ap (with_tokens (token ∷ [])) behind,
        ap (λ x. x ∷ words_of later.0) first.word ∙ ap (λ x. w ∷ x) later.2,
      );
}

words_spelled : (ws : List Word) → AreReadable ws → SpelledWords ws
words_spelled [] h = no_bytes
words_spelled (Key keyword.Data ∷ ws) h = data_spelled ws (items_spelled ws h)
words_spelled (w ∷ ws) h = joined w ws (word_spelled w h.0) (words_spelled ws h.1)

-- ---- trees

line_spelled : (l : LineTree) → IsAdmissible l → too_deep (line_steps l) ≡ None → AreReadable (words (line_steps l)) → (line : List ℕ) × Spells line l
line_spelled l admissible flat readable =
    let s = words_spelled (words (line_steps l)) readable in
    let t = s.reads 0 in
    let read : IsReadLine (words_of t.0) l = record { line = record { admissible = admissible; spelling = t.2 }; flat = flat } in
    (s.line, subst (λ (r : Reading). SpelledBy r l) (sym t.1) read)

as_many : (tokens : List Lexeme) → length (words_of tokens) ≡ length tokens
as_many [] = refl
as_many (token ∷ tokens) = ap (λ n. suc n) (as_many tokens)

-- words that are an expression's are read to their end
all_read : (w : Want) (t : Tree) (ws : List Word) → IsTree t → Fits w t → too_deep (steps_of t) ≡ None → ws ≡ words (steps_of t) → IsRead w ws 0 t (length ws)
all_read w t ws tree kind flat e =
    let all : take (length ws - 0) (drop 0 ws) ≡ ws = take_all (length ws - 0) ws (omega arith) in
    let expression : IsExpr w ws t = record { tree = tree; kind = kind; spelling = e } in
    record {
      after = omega arith;
      limit = record {
        within = omega arith;
        begins = ([], steps_of t, (t, subst (λ (x : List Word). IsExpr w x t) (sym (ap (λ x. x ++ []) all ∙ append-nil ws)) expression, refl));
        no_more = λ lt b. omega (arith, lt);
      };
      expression = subst (λ (x : List Word). IsExpr w x t) (sym all) expression;
      flat = flat;
    }

expression_spelled : (w : Want) (t : Tree) → IsTree t → Fits w t → too_deep (steps_of t) ≡ None → AreReadable (words (steps_of t)) → (line : List ℕ) × (tokens : List Lexeme) × (tokens_of line ≡ Ok tokens) × IsRead w (words_of tokens) 0 t (length tokens)
expression_spelled w t tree kind flat readable =
    let s = words_spelled (words (steps_of t)) readable in
    let r = s.reads 0 in
    (s.line, r.0, r.1, subst (λ n. IsRead w (words_of r.0) 0 t n) (as_many r.0) (all_read w t (words_of r.0) tree kind flat r.2))

pub trees_spelled : TreesAreSpelled
trees_spelled = record { lines = line_spelled; expressions = expression_spelled }

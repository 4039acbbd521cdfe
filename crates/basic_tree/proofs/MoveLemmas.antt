-- If a line comes after further bytes, its tokens move.
use Rattle.std.proofs.Common.{◌≡◌, ℕ, zero, suc, ◌+◌, ◌-◌, Bool, true, false, List, [], ◌∷◌, ◌++◌, length, drop, refl, ap, ◌∙◌, arith}
use Rattle.std.specs.Prelude.{Ok, Err, Option, None, map, take, if◌then◌else◌}
use Rattle.basic_tree.specs.Tokens.{Lexeme, Reading, front_of, is_blank, cuts, quote_after, items_from, width, with_tokens, read_on, tokens_from}
use Rattle.basic_tree.specs.TokenLaws.{moved, moved_reading}
use Rattle.basic_tree.specs.declared.tokens.TokenKind.TheVariants as kind
use Rattle.basic_tree.specs.declared.tokens.Front.{Front}
use Rattle.basic_tree.specs.declared.tokens.Front.TheVariants as front

items_move : (bytes item : List ℕ) (start by : ℕ) (quote : Option ℕ) → items_from (start + by) item quote bytes ≡ map (moved by) (items_from start item quote bytes)
unfolding items_from
items_move [] item start by quote = refl
items_move (b ∷ bytes) item start by quote = go (cuts quote b) (items_move bytes [] (start + length item + 1) by None) (items_move bytes (item ++ b ∷ []) start by (quote_after quote b)) where
  go : (c : Bool) → items_from (start + length item + 1 + by) [] None bytes ≡ map (moved by) (items_from (start + length item + 1) [] None bytes) → items_from (start + by) (item ++ b ∷ []) (quote_after quote b) bytes ≡ map (moved by) (items_from start (item ++ b ∷ []) (quote_after quote b) bytes) → (if c then record { kind = kind.DataItem; start = start + by; bytes = item } ∷ items_from (start + by + length item + 1) [] None bytes else items_from (start + by) (item ++ b ∷ []) (quote_after quote b) bytes) ≡ map (moved by) (if c then record { kind = kind.DataItem; start = start; bytes = item } ∷ items_from (start + length item + 1) [] None bytes else items_from start (item ++ b ∷ []) (quote_after quote b) bytes)
  go true cut whole =
      let there : start + by + length item + 1 ≡ start + length item + 1 + by = omega arith in
      let first : Lexeme = record { kind = kind.DataItem; start = start + by; bytes = item } in
      ap (λ (ts : List Lexeme). first ∷ ts) (ap (λ n. items_from n [] None bytes) there ∙ cut)
  go false cut whole = whole

with_moves : (by : ℕ) (first : Lexeme) (later : Reading) → with_tokens (moved by first ∷ []) (moved_reading by later) ≡ moved_reading by (with_tokens (first ∷ []) later)
with_moves by first (Ok ts) = refl
with_moves by first (Err refusal) = refl

read_on_moves : (place by : ℕ) (rest : List ℕ) (f : Front) (later : Reading) → read_on (place + by) rest f (moved_reading by later) ≡ moved_reading by (read_on place rest f later)
read_on_moves place by rest front.Blank later = refl
read_on_moves place by rest front.Comment later = refl
read_on_moves place by rest front.Data later =
    let there : place + by + 4 ≡ place + 4 + by = omega arith in
    let first : Lexeme = record { kind = kind.Keyword; start = place + by; bytes = take 4 rest } in
    ap (λ (ts : List Lexeme). Ok (first ∷ ts)) (ap (λ n. items_from n [] None (drop 4 rest)) there ∙ items_move (drop 4 rest) [] (place + 4) by None)
read_on_moves place by rest (front.Token k len) later = with_moves by (record { kind = k; start = place; bytes = take len rest }) later
read_on_moves place by rest (front.Refused why) later = refl

-- the tokens of bytes that begin further on
pub tokens_move : (bytes : List ℕ) (place by inside : ℕ) → tokens_from (place + by) inside bytes ≡ moved_reading by (tokens_from place inside bytes)
unfolding tokens_from
tokens_move [] place by inside = refl
tokens_move (b ∷ rest) place by (suc n) =
    let there : place + by + 1 ≡ place + 1 + by = omega arith in
    ap (λ p. tokens_from p n rest) there ∙ tokens_move rest (place + 1) by n
tokens_move (b ∷ rest) place by zero =
    let there : place + by + 1 ≡ place + 1 + by = omega arith in
    let n : ℕ = width (front_of (b ∷ rest)) - 1 in
    ap (λ later. read_on (place + by) (b ∷ rest) (front_of (b ∷ rest)) later) (ap (λ p. tokens_from p n rest) there ∙ tokens_move rest (place + 1) by n)
    ∙ read_on_moves place by (b ∷ rest) (front_of (b ∷ rest)) (tokens_from (place + 1) n rest)

pub front_blank : (blank : ℕ) (line : List ℕ) → is_blank blank ≡ true → front_of (blank ∷ line) ≡ front.Blank
unfolding front_of
front_blank blank line e = rw e refl

-- a blank before a line
pub blank_moves : (line : List ℕ) (blank place : ℕ) → is_blank blank ≡ true → tokens_from place 0 (blank ∷ line) ≡ moved_reading 1 (tokens_from place 0 line)
unfolding tokens_from
blank_moves line blank place e =
    ap (λ f. read_on place (blank ∷ line) f (tokens_from (place + 1) (width f - 1) line)) (front_blank blank line e)
    ∙ tokens_move line place 1 0

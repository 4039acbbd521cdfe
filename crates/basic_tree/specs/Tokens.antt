-- Bytes to tokens: what the rest of a line begins with, and the tokens of a whole line.
use Rattle.std.specs.Prelude.{ℕ, zero, suc, ◌+◌, ◌-◌, ◌==◌, nat_lt, max, Bool, true, false, ◌&&◌, ◌||◌, if◌then◌else◌, List, [], ◌∷◌, ◌++◌, length, fold, find, position, take, drop, slice_index, Option, Some, None, Result, Ok, Err, codes}
use Rattle.std.specs.Char.{is_ascii_alphabetic, is_ascii_digit, to_ascii_uppercase}
use Rattle.std.specs.List.{prefix_len}
use Rattle.std.specs.Option.{option_map}
use Rattle.std.specs.Str.Parse.{digits_value}
pub use Rattle.basic_values.specs.Blanks.{is_blank}
use Rattle.basic_values.specs.declared.limits.TheConstants.{MOST_NUMBER}
use Rattle.basic_tree.specs.Words.{keywords, signs}
use Rattle.basic_tree.specs.declared.tokens.Keyword.{Keyword}
use Rattle.basic_tree.specs.declared.tokens.Sign.{Sign}
use Rattle.basic_tree.specs.declared.tokens.TokenKind.{TokenKind}
use Rattle.basic_tree.specs.declared.tokens.TokenKind.TheVariants as kind
use Rattle.basic_tree.specs.declared.tokens.Cause.TheVariants as cause
use Rattle.basic_tree.specs.declared.tokens.Refusal.{Refusal}
use Rattle.basic_tree.specs.declared.tokens.Front.{Front}
use Rattle.basic_tree.specs.declared.tokens.Front.TheVariants as front

-- a token: its kind, the place of its first byte in the line, and its bytes
pub record Lexeme : Type 0 where
  pub kind : TokenKind
  pub start : ℕ
  pub bytes : List ℕ

-- ---- bytes. Past the end of a line a 0 is read, which is none of these

-- a quote
abbrev pub is_quote : ℕ → Bool
is_quote b = b == 34 || b == 39

-- the end of a name: `%` or `$`
abbrev pub is_type_mark : ℕ → Bool
is_type_mark b = b == 37 || b == 36

-- ---- words

-- the rest begins with the word, in letters of either case
abbrev pub is_at_front : List ℕ → List ℕ → Bool
is_at_front [] rest = true
is_at_front (letter ∷ word) [] = false
is_at_front (letter ∷ word) (b ∷ rest) = to_ascii_uppercase b == letter && is_at_front word rest

-- the bytes are this word
abbrev pub is_word : List ℕ → List ℕ → Bool
is_word word bytes = length bytes == length word && is_at_front word bytes

-- the length of the longest word of a table with which the rest begins; 0 if there is none
abbrev pub longest_length : {W : Type 0} → List (W × List ℕ) → List ℕ → ℕ
longest_length table rest = fold (λ longest word. if is_at_front word.1 rest then max longest (length word.1) else longest) 0 table

-- the word of a table that the bytes spell
abbrev pub spelled : {W : Type 0} → List (W × List ℕ) → List ℕ → Option W
spelled table bytes = option_map (λ entry. entry.0) (find (λ entry. is_word entry.1 bytes) table)

-- the keyword and the sign of a token's bytes
abbrev pub keyword_of : List ℕ → Option Keyword
keyword_of bytes = spelled keywords bytes

abbrev pub sign_of : List ℕ → Option Sign
sign_of bytes = spelled signs bytes

-- ---- what the rest of a line begins with

-- REM begins a comment, DATA its items, and every other keyword is a token
abbrev pub keyword_front : List ℕ → Front
keyword_front word =
    if is_word (codes "REM") word then front.Comment
    else (if is_word (codes "DATA") word then front.Data
    else front.Token kind.Keyword (length word))

-- The place after a name whose letter is at this place: after the letter, or after a digit that
-- follows it.
abbrev pub name_end : ℕ → List ℕ → ℕ
name_end letter rest = if is_ascii_digit (slice_index rest (letter + 1)) then letter + 2 else letter + 1

-- a name that ends there needs `%` or `$` right after it
abbrev pub name_front : TokenKind → ℕ → List ℕ → Front
name_front k end rest = if is_type_mark (slice_index rest end) then front.Token k (end + 1) else front.Refused cause.FloatingName

-- FN and a letter
abbrev pub begins_function : List ℕ → Bool
begins_function rest = is_at_front (codes "FN") rest && is_ascii_alphabetic (slice_index rest 2)

-- at a letter: the longest keyword; else FN, a letter and an optional digit; else a letter and an
-- optional digit
unfoldable pub letter_front : List ℕ → Front
letter_front rest =
    let len = longest_length keywords rest in
    if nat_lt 0 len then keyword_front (take len rest)
    else (if begins_function rest then name_front kind.FnName (name_end 2 rest) rest
    else name_front kind.Variable (name_end 0 rest) rest)

-- what makes a floating number of the digits before it: a point, or E and a digit, or E, a sign and
-- a digit
abbrev pub has_exponent : List ℕ → Bool
has_exponent behind =
    is_ascii_digit (slice_index behind 1)
    || ((slice_index behind 1 == 43 || slice_index behind 1 == 45) && is_ascii_digit (slice_index behind 2))

abbrev pub is_floating : List ℕ → Bool
is_floating behind =
    slice_index behind 0 == 46 || (to_ascii_uppercase (slice_index behind 0) == 69 && has_exponent behind)

-- at a digit: the digits, and a `%` right after them
unfoldable pub digit_front : List ℕ → Front
digit_front rest =
    let len = prefix_len is_ascii_digit rest in
    if is_floating (drop len rest) then front.Refused cause.FloatingLiteral
    else (if nat_lt MOST_NUMBER (digits_value 10 (take len rest)) then front.Refused cause.NumberTooWide
    else front.Token kind.Literal (if slice_index rest len == 37 then len + 1 else len))

-- at a quote: everything up to the next quote of its kind
abbrev pub closed_front : Option ℕ → Front
closed_front None = front.Refused cause.OpenString
closed_front (Some inside) = front.Token kind.Quoted (inside + 2)

unfoldable pub quote_front : List ℕ → Front
quote_front rest = closed_front (position (λ b. b == slice_index rest 0) (drop 1 rest))

-- at any other byte: the longest sign
unfoldable pub sign_front : List ℕ → Front
sign_front rest =
    let len = longest_length signs rest in
    if nat_lt 0 len then front.Token kind.Sign len else front.Refused cause.StrayByte

-- what the rest begins with, by its first byte; `!` begins a comment
unfoldable pub front_of : List ℕ → Front
front_of rest =
    let first = slice_index rest 0 in
    if is_blank first then front.Blank
    else (if is_ascii_alphabetic first then letter_front rest
    else (if is_ascii_digit first then digit_front rest
    else (if is_quote first then quote_front rest
    else (if first == 33 then front.Comment
    else sign_front rest))))

-- ---- the items of DATA

-- the quote that is open after a byte: a quote opens if none is open, and closes if it is the open
-- one
abbrev pub quote_after : Option ℕ → ℕ → Option ℕ
quote_after None b = if is_quote b then Some b else None
quote_after (Some quote) b = if b == quote then None else Some quote

-- a comma outside quotes ends an item
abbrev pub cuts : Option ℕ → ℕ → Bool
cuts None b = b == 44
cuts (Some quote) b = false

-- the items of the bytes, if the first item begins at a place, has these bytes already, and has
-- this quote open
unfoldable pub items_from : ℕ → List ℕ → Option ℕ → List ℕ → List Lexeme
items_from start item quote [] = record { kind = kind.DataItem; start = start; bytes = item } ∷ []
items_from start item quote (b ∷ bytes) =
    if cuts quote b
    then record { kind = kind.DataItem; start = start; bytes = item } ∷ items_from (start + length item + 1) [] None bytes
    else items_from start (item ++ b ∷ []) (quote_after quote b) bytes

-- ---- the tokens of a line

-- how many bytes are taken by what the rest begins with
abbrev pub width : Front → ℕ
width (front.Token k len) = len
width front.Data = 4
width other = 1

-- the tokens, or the first place that is rejected, and why
abbrev pub Reading : Type 0
Reading = Result (List Lexeme) Refusal

abbrev pub with_tokens : List Lexeme → Reading → Reading
with_tokens tokens (Ok later) = Ok (tokens ++ later)
with_tokens tokens (Err refusal) = Err refusal

-- the tokens of the rest, given its place, what it begins with, and the tokens after that
abbrev pub read_on : ℕ → List ℕ → Front → Reading → Reading
read_on place rest front.Blank later = later
read_on place rest front.Comment later = Ok []
read_on place rest front.Data later =
    Ok (record { kind = kind.Keyword; start = place; bytes = take 4 rest } ∷ items_from (place + 4) [] None (drop 4 rest))
read_on place rest (front.Token k len) later =
    with_tokens (record { kind = k; start = place; bytes = take len rest } ∷ []) later
read_on place rest (front.Refused why) later = Err (record { place = place; cause = why })

-- the tokens of the rest that begins at a place, after this many bytes that belong to the token
-- before
unfoldable pub tokens_from : ℕ → ℕ → List ℕ → Reading
tokens_from place inside [] = Ok []
tokens_from place (suc inside) (b ∷ rest) = tokens_from (place + 1) inside rest
tokens_from place zero (b ∷ rest) =
    read_on place (b ∷ rest) (front_of (b ∷ rest)) (tokens_from (place + 1) (width (front_of (b ∷ rest)) - 1) rest)

-- the tokens of a line
abbrev pub tokens_of : List ℕ → Reading
tokens_of line = tokens_from 0 0 line

-- The laws of tokens, about their definition alone.
use Rattle.basic_tree.specs.declared.tokens.TokenKind.TheVariants as kind
use Rattle.std.specs.Prelude.{◌≢◌, ◌⊎◌, ◌++◌, nat_lt, if◌then◌else◌, ◌≡◌, ℕ, ◌+◌, ◌<◌, ◌≤◌, max, true, slice_index, List, [], ◌∷◌, length, map, take, drop, Contains, Some, Ok, Err}
use Rattle.std.specs.Char.{is_ascii_alphabetic}
use Rattle.basic_tree.specs.declared.tokens.Keyword.{Keyword}
use Rattle.basic_tree.specs.Tokens.{Lexeme, Reading, is_blank, is_at_front, longest_length, keyword_of, keyword_front, front_of, tokens_from, tokens_of}
use Rattle.basic_tree.specs.Words.{keywords}
use Rattle.basic_tree.specs.declared.tokens.Front.{Front}
use Rattle.basic_tree.specs.declared.tokens.Front.TheVariants as front

-- a token has at least one byte and lies in the rest of the line, and so do the four letters of
-- DATA
abbrev pub LiesIn : Front → List ℕ → Type 0
LiesIn (front.Token k len) rest = (0 < len) × (len ≤ length rest)
LiesIn front.Data rest = 4 ≤ length rest
LiesIn other rest = Unit {0}

-- the bytes of a token are the slice of the line at its start
pub record IsSlice (line : List ℕ) (token : Lexeme) : Type 0 where
  pub within : token.start + length token.bytes ≤ length line
  pub bytes : take (length token.bytes) (drop token.start line) ≡ token.bytes

-- The tokens are slices of the line from a place on. Each begins after the start of the one before
-- it, and not before its end.
abbrev pub AreCut : List ℕ → ℕ → List Lexeme → Type 0
AreCut line from [] = Unit {0}
AreCut line from (token ∷ tokens) = (from ≤ token.start) × IsSlice line token × AreCut line (token.start + max 1 (length token.bytes)) tokens

-- the tokens of a line are slices of it, in order, and no two overlap
abbrev pub TokensAreSlices : Type 0
TokensAreSlices = (line : List ℕ) (tokens : List Lexeme) → tokens_of line ≡ Ok tokens → AreCut line 0 tokens

-- the token, and the result of reading a line, moved by this many bytes
abbrev pub moved : ℕ → Lexeme → Lexeme
moved by token = record { kind = token.kind; start = token.start + by; bytes = token.bytes }

abbrev pub moved_reading : ℕ → Reading → Reading
moved_reading by (Ok tokens) = Ok (map (moved by) tokens)
moved_reading by (Err refusal) = Err (record { place = refusal.place + by; cause = refusal.cause })

-- a blank before what begins at a place moves its tokens, or its rejected place, and changes no
-- kind, no bytes and no cause
abbrev pub BlanksMoveTokens : Type 0
BlanksMoveTokens = (place blank : ℕ) (rest : List ℕ) → is_blank blank ≡ true → tokens_from place 0 (blank ∷ rest) ≡ moved_reading 1 (tokens_from place 0 rest)

-- if the rest begins with a longest keyword, that is what it begins with: a comment for REM, items
-- for DATA, else its token
pub record IsTaken (rest : List ℕ) (k : Keyword) (word : List ℕ) : Type 0 where
  pub listed : Contains keywords (k, word)
  pub there : is_at_front word rest ≡ true
  pub longest : length word ≡ longest_length keywords rest
  pub spelled : keyword_of (take (length word) rest) ≡ Some k
  pub front : front_of rest ≡ keyword_front (take (length word) rest)

-- no keyword that the rest begins with is longer than the longest; at a letter, one of that length
-- is taken
pub record LongestIsTaken : Type 0 where
  pub none_longer : (word rest : List ℕ) → Contains (map (λ entry. entry.1) keywords) word → is_at_front word rest ≡ true → length word ≤ longest_length keywords rest
  pub taken : (rest : List ℕ) → is_ascii_alphabetic (slice_index rest 0) ≡ true → 0 < longest_length keywords rest → (k : Keyword) × (word : List ℕ) × IsTaken rest k word

-- a blank inserted at a place moves the tokens that start there or later
abbrev pub moved_from : ℕ → Lexeme → Lexeme
moved_from place token = if nat_lt token.start place then token else moved 1 token

-- a token that is not an item of DATA starts at the place
abbrev pub StartsAt : ℕ → List Lexeme → Type 0
StartsAt place [] = ⊥
StartsAt place (token ∷ tokens) = ((token.start ≡ place) × (token.kind ≢ kind.DataItem)) ⊎ StartsAt place tokens

-- a blank before a token moves the tokens from there on, and changes no kind and no bytes
abbrev pub BlanksSeparateTokens : Type 0
BlanksSeparateTokens = (before behind : List ℕ) (blank : ℕ) (tokens : List Lexeme) → is_blank blank ≡ true → tokens_of (before ++ behind) ≡ Ok tokens → StartsAt (length before) tokens → tokens_of (before ++ blank ∷ behind) ≡ Ok (map (moved_from (length before)) tokens)

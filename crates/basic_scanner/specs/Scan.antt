-- The steps of scanning.
use Rattle.std.specs.Prelude.{◌≡◌, ℕ, ◌+◌, ◌-◌, min, nat_lt, if◌then◌else◌, List, [], ◌∷◌, ◌++◌, length, take, drop, None}
use Rattle.std.specs.Char.{is_ascii_digit}
use Rattle.std.specs.List.{prefix_len}
use Rattle.std.specs.Str.Parse.{digits_value}
use Rattle.basic_tree.specs.Tokens.{Lexeme, items_from}
use Rattle.basic_tree.specs.declared.tokens.TokenKind.{TokenKind}
use Rattle.basic_tree.specs.declared.tokens.TokenKind.TheVariants as kind
use Rattle.basic_scanner.specs.declared.scanner.Token.{Token}
use Rattle.basic_scanner.specs.Lexemes.{lexemes}

-- the item from start to end, and the items after the comma at its end, if there is one
abbrev pub item_and_more : ℕ → ℕ → List ℕ → List Lexeme
item_and_more start end line =
    record { kind = kind.DataItem; start = start; bytes = take (end - start) (drop start line) }
    ∷ (if nat_lt end (length line) then items_from (end + 1) [] None (drop (end + 1) line) else [])

-- the items from a place to the end of the line
abbrev pub items_at : ℕ → List ℕ → List Lexeme
items_at start line = items_from start [] None (drop start line)

-- the tokens grew by these
abbrev pub Appended : List Token → List Token → List Lexeme → Type 0
Appended old new more = lexemes new ≡ lexemes old ++ more

-- the token of this kind, with this many bytes of the line from its start on
abbrev pub token_at : TokenKind → ℕ → ℕ → List ℕ → Lexeme
token_at sort start len line = record { kind = sort; start = start; bytes = take len (drop start line) }

-- the value of the digits that the bytes begin with, the same for all that are too large for a
-- literal
abbrev pub value_in_front : List ℕ → ℕ
value_in_front bytes = min 32768 (digits_value 10 (take (prefix_len is_ascii_digit bytes) bytes))

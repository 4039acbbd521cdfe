-- The tokens of the code, without pointers.
use Rattle.std.specs.Prelude.{◌≤◌, List, length, map, All}
use Rattle.basic_values.specs.declared.lists.TheConstants.{LINE_LENGTH}
use Rattle.basic_tree.specs.Tokens.{Lexeme}
use Rattle.basic_scanner.specs.declared.scanner.Token.{Token}

abbrev pub lexeme_of : Token → Lexeme
lexeme_of token = record { kind = token.kind; start = token.start; bytes = token.bytes.now }

abbrev pub lexemes : List Token → List Lexeme
lexemes tokens = map lexeme_of tokens

-- none of them has more bytes than a line can have
abbrev pub AreShort : List Lexeme → Type 0
AreShort tokens = All (λ token. length token.bytes ≤ LINE_LENGTH) tokens

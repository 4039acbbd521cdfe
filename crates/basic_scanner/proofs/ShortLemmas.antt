-- The tokens of a line are no longer than the line.
use Rattle.std.proofs.Common.{ℕ, ◌+◌, ◌<◌, ◌≤◌, List, [], ◌∷◌, length, get_or, arith}
use Rattle.std.specs.Prelude.{max}
use Rattle.std.proofs.lemmas.List.Elements.{All-nil, All-cons}
use Rattle.std.proofs.lemmas.List.{get_or-map, length-map}
use Rattle.basic_values.specs.declared.lists.TheConstants.{LINE_LENGTH}
use Rattle.basic_tree.specs.Tokens.{Lexeme}
use Rattle.basic_tree.specs.TokenLaws.{AreCut}
use Rattle.basic_scanner.specs.declared.scanner.Token.{Token}
use Rattle.basic_scanner.specs.Lexemes.{lexeme_of, lexemes, AreShort}

pub cut_short : (line : List ℕ) (from : ℕ) (tokens : List Lexeme) → length line ≤ LINE_LENGTH → AreCut line from tokens → AreShort tokens
cut_short line from [] short cut = All-nil (λ token. length token.bytes ≤ LINE_LENGTH)
cut_short line from (token ∷ tokens) short cut =
    All-cons (λ t. length t.bytes ≤ LINE_LENGTH) token tokens (omega (arith, cut.1.within)) (cut_short line (token.start + max 1 (length token.bytes)) tokens short cut.2)

pub short_at : (tokens : List Token) (k : ℕ) (d : Token) → k < length tokens → AreShort (lexemes tokens) → length (get_or tokens k d).bytes.now ≤ LINE_LENGTH
short_at tokens k d within all =
    let short : length (get_or (lexemes tokens) k (lexeme_of d)).bytes ≤ LINE_LENGTH = all k (lexeme_of d) (omega (arith, length-map tokens lexeme_of)) in
    rw (get_or-map lexeme_of tokens k d (lexeme_of d) within) at short

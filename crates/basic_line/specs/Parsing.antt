-- What parsing a line's tokens returns, and reading its bytes.
use Rattle.std.specs.Prelude.{◌≡◌, ◌⊎◌, ℕ, List, Result, Ok, Err, IfErr}
use Rattle.basic_values.specs.declared.failures.Trouble.{Trouble}
use Rattle.basic_values.specs.declared.failures.Trouble.TheVariants.{Refused, NoMemory}
use Rattle.basic_tree.specs.declared.programs.Line.{Line}
use Rattle.basic_tree.specs.declared.tokens.Refusal.{Refusal}
use Rattle.basic_tree.specs.Tokens.{Lexeme}
use Rattle.basic_tree.specs.SpellingWords.{words_of}
use Rattle.basic_tree.specs.SpellingStatements.{line_statements}
use Rattle.basic_tree.specs.Trees.{LineTree}
use Rattle.basic_tree.specs.StatementViews.{line_of}
use Rattle.basic_tree.specs.GrammarPlaces.{IsReadLine, RefusesLine}
use Rattle.basic_tree.specs.LineVerdicts.{Spells, Refuses}

-- the line that the tokens spell, nested at most 64 deep; or the first token that is rejected, and
-- why; or memory ran out
abbrev pub Parses : List Lexeme → Result Line (Trouble Refusal) → Type 0
Parses tokens (Ok line) = (l : LineTree) × IsReadLine (words_of tokens) l × (line_of line ≡ line_statements l)
Parses tokens (Err (Refused refusal)) = RefusesLine (words_of tokens) refusal.place refusal.cause
Parses tokens (Err NoMemory) = Unit {0}

-- the line that the bytes spell; or where they are rejected, and why; or memory ran out
abbrev pub Reads : List ℕ → Result Line (Trouble Refusal) → Type 0
Reads bytes (Ok line) = (l : LineTree) × Spells bytes l × (line_of line ≡ line_statements l)
Reads bytes (Err (Refused refusal)) = Refuses bytes refusal
Reads bytes (Err NoMemory) = Unit {0}

-- bytes that spell a line are read, unless memory runs out
abbrev pub MustRead : List ℕ → Result Line (Trouble Refusal) → Type 0
MustRead bytes r = (l : LineTree) → Spells bytes l → IfErr r (λ e. e ≡ NoMemory)

-- those that are rejected get this rejection, unless memory runs out
abbrev pub MustRefuse : List ℕ → Result Line (Trouble Refusal) → Type 0
MustRefuse bytes r = (refusal : Refusal) → Refuses bytes refusal → (r ≡ Err (Refused refusal)) ⊎ (r ≡ Err NoMemory)

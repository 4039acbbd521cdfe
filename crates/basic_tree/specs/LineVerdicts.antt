-- What the grammar says of the bytes of a line: the line that they spell, or where they are
-- rejected, and why.
use Rattle.std.specs.Prelude.{◌≡◌, ℕ, List, Ok, Err}
use Rattle.basic_tree.specs.declared.tokens.Cause.{Cause}
use Rattle.basic_tree.specs.declared.tokens.Refusal.{Refusal}
use Rattle.basic_tree.specs.Tokens.{Reading, tokens_of}
use Rattle.basic_tree.specs.SpellingWords.{words_of}
use Rattle.basic_tree.specs.Trees.{LineTree}
use Rattle.basic_tree.specs.GrammarPlaces.{IsReadLine, RefusesLine}

-- there are tokens, they are the line's, and none is nested too deep
abbrev pub SpelledBy : Reading → LineTree → Type 0
SpelledBy (Ok tokens) l = IsReadLine (words_of tokens) l
SpelledBy (Err first) l = ⊥

-- the bytes spell the line
abbrev pub Spells : List ℕ → LineTree → Type 0
Spells line l = SpelledBy (tokens_of line) l

-- rejected at the first byte that begins no token; if there are tokens, at the first that no line
-- can have there, or that is nested too deep
abbrev pub RefusedBy : Reading → Refusal → Type 0
RefusedBy (Ok tokens) refusal = RefusesLine (words_of tokens) refusal.place refusal.cause
RefusedBy (Err first) refusal = first ≡ refusal

-- the bytes spell no line; this is the place, and this the cause
abbrev pub Refuses : List ℕ → Refusal → Type 0
Refuses line refusal = RefusedBy (tokens_of line) refusal

-- the line that the bytes spell, or why they spell none
pub data Verdict : Type 0 where
  HasTree : LineTree → Verdict
  RefusedFor : Cause → Verdict

abbrev pub IsJudged : List ℕ → Verdict → Type 0
IsJudged line (HasTree l) = Spells line l
IsJudged line (RefusedFor cause) = (refusal : Refusal) × Refuses line refusal × (refusal.cause ≡ cause)

-- A judge gives a verdict on each line. `Judges` says that its verdicts are those of the grammar.
abbrev pub Judge : Type 0
Judge = List ℕ → Verdict

abbrev pub Judges : Judge → Type 0
Judges judge = (line : List ℕ) → IsJudged line (judge line)

-- there is a judge that follows the grammar
abbrev pub LinesAreJudged : Type 0
LinesAreJudged = (judge : Judge) × Judges judge

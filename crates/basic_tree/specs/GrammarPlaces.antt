-- Where words stop being an expression or a line, and which rejection comes first.
use Rattle.std.specs.Prelude.{◌≡◌, ◌⊎◌, ℕ, ◌+◌, ◌-◌, ◌<◌, ◌≤◌, List, ◌++◌, length, take, drop, All, Some, None}
use Rattle.basic_tree.specs.declared.kinds.Want.{Want}
use Rattle.basic_tree.specs.declared.tokens.Cause.{Cause}
use Rattle.basic_tree.specs.declared.tokens.Cause.TheVariants as cause
use Rattle.basic_tree.specs.SpellingWords.{Word, LevelStep, levels, most_levels, too_deep}
use Rattle.basic_tree.specs.Trees.{Tree, LineTree}
use Rattle.basic_tree.specs.SpellingExpressions.{steps_of, IsExpr}
use Rattle.basic_tree.specs.SpellingStatements.{IsLine, line_steps}

-- ---- wholes: which words are an expression of a kind, or a line, and the steps that spell it

abbrev pub Whole : Type 1
Whole = List Word → List LevelStep → Type 0

abbrev pub ExprWhole : Want → Whole
ExprWhole w ws steps = (t : Tree) × IsExpr w ws t × (steps ≡ steps_of t)

abbrev pub LineWhole : Whole
LineWhole ws steps = (l : LineTree) × IsLine ws l × (steps ≡ line_steps l)

-- some whole begins with these words
abbrev pub Begins : Whole → List Word → Type 0
Begins whole ws = (rest : List Word) × (steps : List LevelStep) × whole (ws ++ rest) steps

-- the first words, up to a place, are not nested too deep
abbrev pub IsFlatTo : ℕ → List LevelStep → Type 0
IsFlatTo place steps = All (λ level. level ≤ most_levels) (take place (levels 0 steps))

-- some whole begins with the words up to a place, and none of them is nested too deep in it
abbrev pub BeginsFlat : Whole → List Word → ℕ → Type 0
BeginsFlat whole ws k = (rest : List Word) × (steps : List LevelStep) × whole (take k ws ++ rest) steps × IsFlatTo k steps

-- the largest place such that some whole begins with the words up to it
pub record IsLimit (whole : Whole) (ws : List Word) (k : ℕ) : Type 0 where
  pub within : k ≤ length ws
  pub begins : Begins whole (take k ws)
  pub no_more : k < length ws → Begins whole (take (k + 1) ws) → ⊥

-- the words up to their limit begin a whole, in which none of them is nested too deep; but all the
-- words are no whole
pub record IsWrong (whole : Whole) (ws : List Word) (k : ℕ) (all : List Word) : Type 0 where
  pub limit : IsLimit whole ws k
  pub flat : BeginsFlat whole ws k
  pub none : (steps : List LevelStep) → whole all steps → ⊥

-- some whole begins with the words up to this one, which is the first that opens a nesting level
-- too many
pub record IsDeep (whole : Whole) (ws : List Word) (k : ℕ) : Type 0 where
  pub within : k < length ws
  pub opens : (rest : List Word) × (steps : List LevelStep) × whole (take (k + 1) ws ++ rest) steps × (too_deep steps ≡ Some k)

-- the words are rejected at this place, for this cause
abbrev pub IsRefused : Whole → List Word → ℕ → List Word → Cause → Type 0
IsRefused whole ws k all cause.Syntax = IsWrong whole ws k all
IsRefused whole ws k all cause.TooDeep = IsDeep whole ws k
IsRefused whole ws k all other = ⊥

-- ---- expressions between two places of the words

-- the words from one place up to another
abbrev pub between : List Word → ℕ → ℕ → List Word
between ws from k = take (k - from) (drop from ws)

-- the words up to their limit are this expression, and no word of it is nested too deep
pub record IsRead (w : Want) (ws : List Word) (from : ℕ) (t : Tree) (k : ℕ) : Type 0 where
  pub after : from ≤ k
  pub limit : IsLimit (ExprWhole w) (drop from ws) (k - from)
  pub expression : IsExpr w (between ws from k) t
  pub flat : too_deep (steps_of t) ≡ None

-- why there is no expression, and where
abbrev pub RefusesExpr : Want → List Word → ℕ → ℕ → Cause → Type 0
RefusesExpr w ws from k why = (from ≤ k) × IsRefused (ExprWhole w) (drop from ws) (k - from) (between ws from k) why

-- no words are two trees, whatever kinds are expected
abbrev pub OneTree : Type 0
OneTree = (v w : Want) (ws : List Word) (t u : Tree) → IsExpr v ws t → IsExpr w ws u → t ≡ u

-- from each place on, the words are read or rejected
abbrev pub ExpressionsAreRead : Type 0
ExpressionsAreRead = (w : Want) (ws : List Word) (from : ℕ) → from ≤ length ws → ((t : Tree) × (k : ℕ) × IsRead w ws from t k) ⊎ ((k : ℕ) × (why : Cause) × RefusesExpr w ws from k why)

-- ---- lines, which end where the words end

-- the words are this line, and no word of it is nested too deep
pub record IsReadLine (ws : List Word) (l : LineTree) : Type 0 where
  pub line : IsLine ws l
  pub flat : too_deep (line_steps l) ≡ None

-- why the words are no line, and where
abbrev pub RefusesLine : List Word → ℕ → Cause → Type 0
RefusesLine ws k why = IsRefused LineWhole ws k ws why

-- no words are two lines
abbrev pub OneLine : Type 0
OneLine = (ws : List Word) (l m : LineTree) → IsLine ws l → IsLine ws m → l ≡ m

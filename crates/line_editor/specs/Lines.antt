-- Which lines a program can have, and their trees.
use Rattle.std.specs.Prelude.{◌≡◌, ℕ, ◌+◌, ◌≤◌, List, [], ◌∷◌, length}
use Rattle.std.specs.Fmt.{decimal}
use Rattle.std.specs.List.{AllByRecursion}
use Rattle.std.specs.List.Sorted.{IsStrictlySortedBy}
use Rattle.std.specs.Map.{keys_of}
use Rattle.std.specs.Ordering.{nat_cmp}
use Rattle.basic_values.specs.declared.limits.TheConstants.{MOST_LINES, MOST_NUMBER}
use Rattle.basic_values.specs.declared.lists.TheConstants.{LINE_LENGTH}
use Rattle.basic_tree.specs.declared.programs.Line.{Line}
use Rattle.basic_tree.specs.LineVerdicts.{Spells}
use Rattle.basic_tree.specs.ProgramLines.{Lines}
use Rattle.basic_tree.specs.SpellingStatements.{line_statements}
use Rattle.basic_tree.specs.StatementViews.{line_of}
use Rattle.basic_tree.specs.Trees.{LineTree}

-- WHICH LINES A PROGRAM CAN HAVE

pub record IsNumber (number : ℕ) : Type 0 where
  pub low : 1 ≤ number
  pub high : number ≤ MOST_NUMBER

-- with its number, the line is not too long
abbrev pub Fits : ℕ → List ℕ → Type 0
Fits number rest = length (decimal number) + length rest ≤ LINE_LENGTH

-- what follows the number spells a line
abbrev pub SpellsLine : List ℕ → Type 0
SpellsLine rest = (l : LineTree) × Spells rest l

pub record IsProgramLine (line : ℕ × List ℕ) : Type 0 where
  pub number : IsNumber line.0
  pub fits : Fits line.0 line.1
  pub spelled : SpellsLine line.1

pub record IsProgram (lines : Lines) : Type 0 where
  pub ordered : IsStrictlySortedBy nat_cmp (keys_of lines)
  pub each : AllByRecursion IsProgramLine lines
  pub few : length lines ≤ MOST_LINES

-- THE TREES OF THE LINES

-- the line's tree is the one that the bytes spell
abbrev pub IsTreeOf : List ℕ → Line → Type 0
IsTreeOf rest tree = (l : LineTree) × Spells rest l × (line_of tree ≡ line_statements l)

-- they are the trees of these lines, under the same numbers
abbrev pub AreTrees : Lines → List (ℕ × Line) → Type 0
AreTrees [] [] = Unit {0}
AreTrees (line ∷ lines) (tree ∷ trees) = (tree.0 ≡ line.0) × IsTreeOf line.1 tree.1 × AreTrees lines trees
AreTrees [] (tree ∷ trees) = ⊥
AreTrees (line ∷ lines) [] = ⊥

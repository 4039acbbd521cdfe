-- Statements without modifiers that are not an IF: what is read at a place.
use Rattle.std.specs.Prelude.{◌≡◌, ℕ, Bool, true, false, List, ◌∷◌, drop, Some, Result, Ok, Err}
use Rattle.basic_expr.specs.declared.failures.Failure.{Failure}
use Rattle.basic_tree.specs.SpellingWords.{Word}
use Rattle.basic_tree.specs.declared.statements.Statement.{Statement}
use Rattle.basic_tree.specs.StatementViews.{statement_of}
use Rattle.basic_tree.specs.Trees.{StatementTree}
use Rattle.grammar_machine.specs.MachineStack.{Stated}
use Rattle.grammar_machine.specs.MachineSentences as sentences
use Rattle.grammar_machine.specs.MachineSentences.{Sentence, sentence_of}
use Rattle.statement_parts.specs.ParsedForms.{Behind, IsPlaced, Makes, Halts}
use Rattle.statement_parts.specs.declared.read.Read.{Read}

abbrev pub is_choice : sentences.Class → Bool
is_choice sentences.Choice = true
is_choice other = false

-- the words up to the end are such a statement
abbrev pub MakesPlain : ℕ → List Word → ℕ → ℕ → StatementTree → Type 0
MakesPlain n ws from end s = (t : Word) (rest : List Word) (b : Sentence) → drop from ws ≡ t ∷ rest → sentence_of t ≡ Some b → is_choice b.class ≡ false → Makes n ws from end b.form (Stated s)

abbrev pub HaltsPlain : ℕ → List Word → ℕ → Failure → Type 0
HaltsPlain n ws from e = (t : Word) (rest : List Word) (b : Sentence) → drop from ws ≡ t ∷ rest → sentence_of t ≡ Some b → is_choice b.class ≡ false → Halts n ws from b.form e

abbrev pub StatesPlain : ℕ → List Word → ℕ → Result (Read Statement) Failure → Type 0
StatesPlain n ws from (Ok x) = Behind ws from x.end × MakesPlain n ws from x.end (statement_of x.value)
StatesPlain n ws from (Err e) = IsPlaced ws e × HaltsPlain n ws from e

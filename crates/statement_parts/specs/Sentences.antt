-- What is read if a word begins a statement.
use Rattle.std.specs.Prelude.{ℕ, List, Option, Some, None, Result, Ok, Err}
use Rattle.basic_expr.specs.declared.failures.Failure.{Failure}
use Rattle.basic_tree.specs.SpellingWords.{Word}
use Rattle.basic_tree.specs.declared.statements.Statement.{Statement}
use Rattle.basic_tree.specs.StatementViews.{statement_of}
use Rattle.basic_tree.specs.Trees.{StatementTree}
use Rattle.grammar_machine.specs.MachineStack.{Stated, Form}
use Rattle.grammar_machine.specs.MachineSentences as sentences
use Rattle.grammar_machine.specs.MachineSentences.{Sentence}
use Rattle.statement_parts.specs.ParsedForms.{Behind, IsPlaced, Makes, Halts}
use Rattle.statement_parts.specs.declared.read.Read.{Read}

-- the words up to the end are a statement of this form; nothing is claimed of an IF
abbrev pub MakesIn : ℕ → List Word → ℕ → ℕ → StatementTree → Form → sentences.Class → Type 0
MakesIn n ws from end s f sentences.Choice = Unit {0}
MakesIn n ws from end s f sentences.Head = Makes n ws from end f (Stated s)
MakesIn n ws from end s f sentences.Simple = Makes n ws from end f (Stated s)

-- the same, if this sentence begins with the word, or none does
abbrev pub MakesAs : ℕ → List Word → ℕ → ℕ → StatementTree → Option Sentence → Type 0
MakesAs n ws from end s None = Unit {0}
MakesAs n ws from end s (Some b) = MakesIn n ws from end s b.form b.class

-- the machine stops at a statement of this form; nothing is claimed of an IF
abbrev pub HaltsIn : ℕ → List Word → ℕ → Failure → Form → sentences.Class → Type 0
HaltsIn n ws from e f sentences.Choice = Unit {0}
HaltsIn n ws from e f sentences.Head = Halts n ws from f e
HaltsIn n ws from e f sentences.Simple = Halts n ws from f e

abbrev pub HaltsAs : ℕ → List Word → ℕ → Failure → Option Sentence → Type 0
HaltsAs n ws from e None = Unit {0}
HaltsAs n ws from e (Some b) = HaltsIn n ws from e b.form b.class

-- a statement of the sentence that begins with a word, or none; or where the machine stops
abbrev pub StatesAs : ℕ → List Word → ℕ → Option Sentence → Result (Read Statement) Failure → Type 0
StatesAs n ws from b (Ok x) = Behind ws from x.end × MakesAs n ws from x.end (statement_of x.value) b
StatesAs n ws from b (Err e) = IsPlaced ws e × HaltsAs n ws from e b

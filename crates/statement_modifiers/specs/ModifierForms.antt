-- What the functions of modifiers return, in terms of symbols of the machine, whatever is expected
-- after these.
use Rattle.std.specs.Prelude.{◌≡◌, ℕ, false, List, [], ◌∷◌, drop, Option, Some, None, Result, Ok, Err}
use Rattle.basic_expr.specs.declared.failures.Failure.{Failure}
use Rattle.basic_tree.specs.declared.statements.Statement.{Statement}
use Rattle.basic_tree.specs.declared.parts.Modifier.{Modifier}
use Rattle.basic_tree.specs.declared.tokens.Keyword.{Keyword}
use Rattle.basic_tree.specs.declared.tokens.Keyword.TheVariants as keyword
use Rattle.basic_tree.specs.declared.kinds.Want.TheVariants as want
use Rattle.basic_tree.specs.SpellingWords.{Word, Key}
use Rattle.basic_tree.specs.SpellingStatements.{wants_else}
use Rattle.basic_tree.specs.Trees.{StatementTree, If, Unless, While, Until, ForModifier}
use Rattle.basic_tree.specs.TreeViews as views
use Rattle.basic_tree.specs.StatementViews.{statement_of}
use Rattle.grammar_machine.specs.MachineStack.{Values, Stated, Modifying, Symbol, Form, Made, ExprOf, Modifiers}
use Rattle.grammar_machine.specs.MachineForms.{range_form}
use Rattle.grammar_machine.specs.MachineSentences.{modifier_of}
use Rattle.grammar_machine.specs.MachineRun.{Halt, run}
use Rattle.statement_parts.specs.ParsedForms.{halt_at, Behind, From, IsPlaced, Makes, Halts}
use Rattle.statement_parts.specs.declared.read.Read.{Read}
use Rattle.statement_modifiers.specs.declared.modifier_list.Modifying.{Modifying as Kind}
use Rattle.statement_modifiers.specs.declared.modifier_list.Modifying.TheVariants as kind

abbrev pub key_as : Kind → Keyword
key_as kind.If = keyword.If
key_as kind.Unless = keyword.Unless
key_as kind.While = keyword.While
key_as kind.Until = keyword.Until
key_as kind.For = keyword.For

abbrev pub kind_of : Keyword → Option Kind
kind_of keyword.If = Some kind.If
kind_of keyword.Unless = Some kind.Unless
kind_of keyword.While = Some kind.While
kind_of keyword.Until = Some kind.Until
kind_of keyword.For = Some kind.For
kind_of other = None

-- which modifier begins with a word
abbrev pub kind_in : Word → Option Kind
kind_in (Key k) = kind_of k
kind_in other = None

-- no modifier begins with the first word, if there is one
abbrev pub NoModifier : List Word → Type 0
NoModifier [] = Unit {0}
NoModifier (t ∷ ts) = modifier_of t ≡ None

-- after the word of a modifier
abbrev pub modifier_form : Kind → Form
modifier_form kind.If = ExprOf want.Number (λ t. Made (Modifying (If t)))
modifier_form kind.Unless = ExprOf want.Number (λ t. Made (Modifying (Unless t)))
modifier_form kind.While = ExprOf want.Number (λ t. Made (Modifying (While t)))
modifier_form kind.Until = ExprOf want.Number (λ t. Made (Modifying (Until t)))
modifier_form kind.For = range_form (λ v start limit step. Made (Modifying (ForModifier v start limit step)))

-- the words up to the end are modifiers of the statement
abbrev pub Modifies : ℕ → List Word → ℕ → ℕ → StatementTree → StatementTree → Type 0
Modifies n ws from end s t = (k : List Symbol) (vs : Values) → run n (drop from ws) (Modifiers ∷ k) (Stated s ∷ vs) ≡ run n (drop end ws) k (Stated t ∷ vs)

abbrev pub StopsModifying : ℕ → List Word → ℕ → StatementTree → Failure → Type 0
StopsModifying n ws from s e = (halt : Halt) → halt_at ws e ≡ Some halt → (k : List Symbol) (vs : Values) → run n (drop from ws) (Modifiers ∷ k) (Stated s ∷ vs) ≡ Err halt

-- what follows the word of a modifier
abbrev pub MakesModifier : ℕ → List Word → ℕ → Kind → Result (Read Modifier) Failure → Type 0
MakesModifier n ws from m (Ok x) = Behind ws from x.end × Makes n ws from x.end (modifier_form m) (Modifying (views.modifier_of x.value))
MakesModifier n ws from m (Err e) = IsPlaced ws e × Halts n ws from (modifier_form m) e

-- a statement with all the modifiers after it, to which no ELSE belongs
abbrev pub ModifiesAll : ℕ → List Word → ℕ → StatementTree → Result (Read Statement) Failure → Type 0
ModifiesAll n ws from s (Ok x) = From ws from x.end × Modifies n ws from x.end s (statement_of x.value) × (wants_else s ≡ false → wants_else (statement_of x.value) ≡ false)
ModifiesAll n ws from s (Err e) = IsPlaced ws e × StopsModifying n ws from s e

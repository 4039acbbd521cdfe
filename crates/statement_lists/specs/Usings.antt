-- The values of PRINT USING, as the machine reads them.
use Rattle.std.specs.Prelude.{ℕ, ◌≤◌, List, [], ◌∷◌, ◌++◌, length, map, Option, Some, None, option_map, Result, Ok, Err}
use Rattle.basic_tree.specs.declared.kinds.Want.TheVariants as want
use Rattle.basic_tree.specs.declared.parts.UsingItem.{UsingItem}
use Rattle.basic_tree.specs.SpellingWords.{Word}
use Rattle.basic_tree.specs.Trees.{Tree, UsingItemTree, PrintUsing}
use Rattle.basic_tree.specs.TreeViews.{tree_of, using_item_of}
use Rattle.grammar_machine.specs.MachineStack.{Stated, Form, ExprOf, MoreUsing}
use Rattle.grammar_machine.specs.MachineForms.{using_value_form}
use Rattle.statement_parts.specs.ParsedForms.{Behind, IsPlaced, Leads, Makes, Halts}
use Rattle.statement_parts.specs.declared.read.Read.{Read}
use Rattle.basic_expr.specs.declared.failures.Failure.{Failure}
use Rattle.statement_lists.specs.declared.using.UsedValues.{UsedValues}
use Rattle.statement_lists.specs.declared.using.Part.{Part}
use Rattle.statement_lists.specs.declared.using.Part.TheVariants as part

-- a value that has to be there, after a channel, a format and the values before
abbrev pub value_form : Option Tree → Tree → List UsingItemTree → Form
value_form c format values = ExprOf want.Either (λ t. using_value_form c format values t)

-- ---- what is at a place

-- one more value
abbrev pub UsesValue : List Word → ℕ → Type 0
UsesValue ws from = (n : ℕ) (c : Option Tree) (format : Tree) (values : List UsingItemTree) → Leads n n ws from from (MoreUsing c format values) (value_form c format values)

-- none
abbrev pub UsesNone : List Word → ℕ → Type 0
UsesNone ws from = (n : ℕ) (c : Option Tree) (format : Tree) (values : List UsingItemTree) → Makes n ws from from (MoreUsing c format values) (Stated (PrintUsing c format values None))

-- the words up to the end are a value with its separator, or the last one
abbrev pub UsedAt : ℕ → List Word → ℕ → ℕ → Part → Type 0
UsedAt n ws from end (part.Item item) = (c : Option Tree) (format : Tree) (values : List UsingItemTree) → Leads n n ws from end (value_form c format values) (MoreUsing c format (values ++ using_item_of item ∷ []))
UsedAt n ws from end (part.Last t) = (c : Option Tree) (format : Tree) (values : List UsingItemTree) → Makes n ws from end (value_form c format values) (Stated (PrintUsing c format values (Some (tree_of t))))

-- these values were read, and one more has to be there
pub record Uses (n : ℕ) (ws : List Word) (from : ℕ) (values : List UsingItem) (end : ℕ) : Type 0 where
  pub runs : (c : Option Tree) (format : Tree) → Leads n n ws from end (value_form c format []) (value_form c format (map using_item_of values))
  pub after : from ≤ end
  pub within : end ≤ length ws

-- ---- what is read, or where the machine stops

abbrev pub UsesPart : ℕ → List Word → ℕ → Result (Read Part) Failure → Type 0
UsesPart n ws from (Ok x) = Behind ws from x.end × UsedAt n ws from x.end x.value
UsesPart n ws from (Err e) = IsPlaced ws e × ((c : Option Tree) (format : Tree) (values : List UsingItemTree) → Halts n ws from (value_form c format values) e)

-- all values
abbrev pub UsesAll : ℕ → List Word → ℕ → Result (Read UsedValues) Failure → Type 0
UsesAll n ws from (Ok x) = Behind ws from x.end × ((c : Option Tree) (format : Tree) → Makes n ws from x.end (value_form c format []) (Stated (PrintUsing c format (map using_item_of x.value.values) (option_map tree_of x.value.last))))
UsesAll n ws from (Err e) = IsPlaced ws e × ((c : Option Tree) (format : Tree) → Halts n ws from (value_form c format []) e)

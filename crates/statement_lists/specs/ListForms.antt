-- The forms of lists and of their elements that have no name in the grammar.
use Rattle.std.specs.Prelude.{ℕ, false, List, [], ◌∷◌, Option, Some, None}
use Rattle.basic_tree.specs.declared.tokens.Keyword.TheVariants as keyword
use Rattle.basic_tree.specs.declared.tokens.Sign.TheVariants as sign
use Rattle.basic_tree.specs.declared.kinds.Want.{Want}
use Rattle.basic_tree.specs.declared.kinds.Want.TheVariants as want
use Rattle.basic_tree.specs.declared.names.Name.{Name}
use Rattle.basic_tree.specs.Trees.{Tree}
use Rattle.basic_tree.specs.SpellingExpressions.{is_text, want_of}
use Rattle.grammar_machine.specs.MachineStack.{Form, NameIn, TakeKey, TakeSign, IfSign, LiteralIn, Bound, ExprOf, TargetOf, MoreOf, Targets, TargetItem}
use Rattle.grammar_machine.specs.MachineForms.{targets_in}

-- `=` and a value
abbrev pub value_form : Want → (Tree → Form) → Form
value_form w g = TakeSign false sign.Equal (ExprOf w g)

-- after the name and the first bound of an array, an optional second bound
abbrev pub second_form : (Option ℕ → Form) → Form
second_form g = IfSign false sign.Comma (LiteralIn Bound (λ second. g (Some second))) (g None)

-- the variable of a part of FIELD
abbrev pub field_name_form : (Name → Form) → Form
field_name_form g = TakeKey false keyword.As (NameIn want.Text g)

-- targets of one kind, and the value that they take
abbrev pub assigned_form : (List Tree → Tree → Form) → Form
assigned_form g =
    TargetOf want.Either (λ t. MoreOf (Targets (want_of (is_text t))) (TargetItem t ∷ []) (λ items.
    TakeSign false sign.Equal (ExprOf (want_of (is_text t)) (λ value. g (targets_in items) value))))

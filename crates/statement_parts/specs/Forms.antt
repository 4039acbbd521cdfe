-- The forms of parts that have no name in the grammar.
use Rattle.std.specs.Prelude.{ℕ, false, List, [], ◌∷◌, Option, Some, None}
use Rattle.basic_tree.specs.declared.tokens.Keyword.TheVariants as keyword
use Rattle.basic_tree.specs.declared.tokens.Sign.TheVariants as sign
use Rattle.basic_tree.specs.declared.kinds.Want.TheVariants as want
use Rattle.basic_tree.specs.declared.names.Name.{Name}
use Rattle.basic_tree.specs.Trees.{Tree}
use Rattle.grammar_machine.specs.MachineStack.{Form, NameIn, TakeKey, TakeSign, IfKey, ExprOf, ItemIn, MoreItems}

-- the step of a range
abbrev pub step_form : (Option Tree → Form) → Form
step_form g = IfKey false keyword.Step (ExprOf want.Number (λ n. g (Some n))) (g None)

-- the variable of a loop
abbrev pub loop_form : (Name → Form) → Form
loop_form g = NameIn want.Number (λ v. TakeSign false sign.Equal (g v))

-- the limit of a range and its step
abbrev pub limits_form : (Tree → Option Tree → Form) → Form
limits_form g = TakeKey false keyword.To (ExprOf want.Number (λ limit. step_form (g limit)))

-- one or more items of DATA
abbrev pub items_form : (List (List ℕ) → Form) → Form
items_form g = ItemIn (λ item. MoreItems (item ∷ []) g)

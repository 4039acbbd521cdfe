-- The forms of OPEN's options that have no name in the grammar.
use Rattle.std.specs.Prelude.{Option, Some, None}
use Rattle.basic_tree.specs.declared.kinds.Want.TheVariants as want
use Rattle.basic_tree.specs.Trees.{Tree}
use Rattle.grammar_machine.specs.MachineStack.{Form, ExprOf}
use Rattle.grammar_machine.specs.MachineForms.{cluster_form, mode_form}

-- after RECORDSIZE
abbrev pub recorded_form : (Option Tree → Option Tree → Option Tree → Form) → Form
recorded_form g = ExprOf want.Number (λ n. cluster_form (g (Some n)))

-- after CLUSTERSIZE, if there is no RECORDSIZE before it
abbrev pub clustered_form : (Option Tree → Option Tree → Option Tree → Form) → Form
clustered_form g = ExprOf want.Number (λ n. mode_form (g None (Some n)))

use Rattle.grammar_machine.proofs.OneTree.{one_tree_lem}
use Rattle.grammar_machine.proofs.laws.one_tree.Goals as goal

pub returns : goal.returns
returns c = one_tree_lem

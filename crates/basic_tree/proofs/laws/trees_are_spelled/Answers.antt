use Rattle.basic_tree.proofs.LineSpelling.{trees_spelled}
use Rattle.basic_tree.proofs.laws.trees_are_spelled.Goals as goal

pub returns : goal.returns
returns c = trees_spelled

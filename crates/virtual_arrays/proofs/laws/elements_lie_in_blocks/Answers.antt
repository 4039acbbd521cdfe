use Rattle.virtual_arrays.proofs.BlockLemmas.{lies}
use Rattle.virtual_arrays.proofs.laws.elements_lie_in_blocks.Goals as goal

pub returns : goal.returns
returns c = lies

use Rattle.std.proofs.Common.{refl, arith}
use Rattle.basic_tree.proofs.SliceLemmas.{tokens_cut}
use Rattle.basic_tree.proofs.laws.tokens_are_slices.Goals as goal

pub returns : goal.returns
returns c line tokens e = tokens_cut line line 0 0 tokens refl (omega arith) e

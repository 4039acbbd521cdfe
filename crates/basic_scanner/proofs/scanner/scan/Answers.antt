use Rattle.std.proofs.Common.{refl, arith}
use Rattle.basic_tree.proofs.SliceLemmas.{tokens_cut}
use Rattle.basic_scanner.proofs.ShortLemmas.{cut_short}
use Rattle.basic_scanner.proofs.scanner.scan.Goals as goal

pub returns-in-Ok-clause-slices : goal.returns-in-Ok-clause-slices
returns-in-Ok-clause-slices c = tokens_cut c.args.line.now c.args.line.now 0 0 _ refl (omega arith) c.in-Ok.ensures.found

pub invariant_of-result : goal.invariant_of-result
invariant_of-result c =
    cut_short c.args.line.now 0 _ c.requires (tokens_cut c.args.line.now c.args.line.now 0 0 _ refl (omega arith) c.in-Ok.ensures.found)

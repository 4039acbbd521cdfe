use Rattle.loop_pairs.proofs.PairLemmas.{none_passed, one_passed, all_passed}
use Rattle.loop_pairs.proofs.pairs.pairs_in.Goals as goal

pub loop-m-init : goal.loop-m-init
loop-m-init c = λ program same own. none_passed program c.args.statements.now _ _ c.new-pairs.ensures.items c.new-opens.ensures same

pub loop-m-preserved : goal.loop-m-preserved
loop-m-preserved c = λ program same own.
    one_passed program c.args.statements.now c.loop-m.m c.index-statements-m.result c.args.bodies.now c.entry_at.result c.loop-m.pairs.items c.pass.new.pairs.items c.loop-m.opens c.pass.new.opens _ c.index-statements-m.is c.loop-m-test.true c.entry_at.ensures c.in_ok-pass.ensures own (c.loop-m.invariant program same own)

pub returns : goal.returns
returns c = λ program same own. all_passed program c.args.statements.now c.loop-m.m c.loop-m.pairs.items c.loop-m.opens _ c.loop-m-test.false (c.loop-m.invariant program same own)

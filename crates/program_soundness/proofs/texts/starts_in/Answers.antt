use Rattle.program_soundness.proofs.TextLemmas.{starts_passed, count_passed, starts_ended}
use Rattle.program_soundness.proofs.texts.starts_in.Goals as goal

pub loop-text-preserved : goal.loop-text-preserved
loop-text-preserved c = record {
  starts = starts_passed c.args.texts.now c.loop-text.text-index c.text-item.result c.text-item.is c.loop-text-test.true c.loop-text.starts.items c.pass_line.new.starts.items c.loop-text.first c.in_ok-first.first c.in_ok-first.ensures.next c.in_ok-first.ensures.filled c.loop-text.invariant.starts;
  count = count_passed c.args.texts.now c.loop-text.text-index c.text-item.result c.text-item.is c.loop-text-test.true c.loop-text.first c.in_ok-first.first _ c.in_ok-first.ensures.next c.loop-text.invariant.count;
}

pub returns : goal.returns
returns c = λ n. starts_ended c.args.texts.now c.loop-text.text-index c.loop-text.starts.items c.loop-text.first n c.loop-text-test.false (c.loop-text.invariant.starts n) c.loop-text.invariant.count

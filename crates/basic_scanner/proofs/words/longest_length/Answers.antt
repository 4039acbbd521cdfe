use Rattle.std.proofs.Common.{sym, ◌∙◌, arith}
use Rattle.basic_scanner.proofs.WordLemmas.{longest_by}
use Rattle.basic_scanner.proofs.words.longest_length.Goals as goal

pub loop-entry-preserved : goal.loop-entry-preserved
loop-entry-preserved g c = record {
  value = c.longer-longest.ensures.value ∙ sym (longest_by c.args.table.now c.args.rest.now c.loop-entry.entry-index c.loop-entry.longest c.entry-item.result c.loop-entry-test.true c.entry-item.is c.loop-entry.invariant.value);
  within = c.longer-longest.ensures.within c.loop-entry.invariant.within;
}

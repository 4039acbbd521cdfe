use Rattle.std.proofs.Common.{refl, sym, ◌∙◌}
use Rattle.basic_scanner.proofs.WordLemmas.{spelled_by, spelled_end}
use Rattle.basic_scanner.proofs.words.spelled.Goals as goal

pub returns : goal.returns
returns g c =
    sym (c.loop-entry.invariant ∙ spelled_end c.args.table.now c.args.bytes.now c.loop-entry.entry-index c.loop-entry-test.false)

pub loop-entry-init : goal.loop-entry-init
loop-entry-init g c = refl

pub returns-then-is_word : goal.returns-then-is_word
returns-then-is_word g c =
    sym (c.loop-entry.invariant ∙ spelled_by _ _ _ _ c.entry-item.result c.loop-entry-test.true c.entry-item.is c.if-is_word.ensures)

pub loop-entry-preserved : goal.loop-entry-preserved
loop-entry-preserved g c =
    c.loop-entry.invariant ∙ spelled_by _ _ _ _ c.entry-item.result c.loop-entry-test.true c.entry-item.is c.if-is_word.ensures

use Rattle.std.proofs.Common.{ℕ, List, map, refl}
use Rattle.basic_tree.specs.StatementViews.{line_of}
use Rattle.program_soundness.specs.declared.texts.LineText.{LineText}
use Rattle.program_soundness.specs.Listings.{text_of, numbers_of}
use Rattle.program_soundness.proofs.LoopLemmas.{begun, added, ended}
use Rattle.program_soundness.proofs.texts.numbers_in.Goals as goal

abbrev come : List LineText → List ℕ
come texts = numbers_of (text_of texts)

pub loop-text-init : goal.loop-text-init
loop-text-init c = begun come c.args.texts.now _ c.new-numbers.ensures.items

pub loop-text-preserved : goal.loop-text-preserved
loop-text-preserved c =
    added come (λ (text : LineText). map (λ s. text.number) (line_of text.line.now)) c.args.texts.now c.loop-text.text-index c.text-item.result c.loop-text.numbers.items c.add_number.new.numbers.items _ (λ text texts. refl) c.text-item.is c.loop-text-test.true c.in_ok-add_number.ensures c.loop-text.invariant

pub returns : goal.returns
returns c = ended come c.args.texts.now c.loop-text.text-index c.loop-text.numbers.items _ refl c.loop-text-test.false c.loop-text.invariant

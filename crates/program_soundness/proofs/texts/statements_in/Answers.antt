use Rattle.std.proofs.Common.{List, map, Bor, ap, refl}
use Rattle.basic_tree.specs.StatementViews.{line_of, statement_of}
use Rattle.basic_tree.specs.Trees.{StatementTree}
use Rattle.basic_tree.specs.declared.statements.Statement.{Statement}
use Rattle.program_model.specs.Program.{statements_of}
use Rattle.program_soundness.specs.declared.texts.LineText.{LineText}
use Rattle.program_soundness.specs.Listings.{text_of}
use Rattle.program_soundness.proofs.LoopLemmas.{begun, added, ended}
use Rattle.program_soundness.proofs.texts.statements_in.Goals as goal

abbrev come : List LineText → List StatementTree
come texts = statements_of (text_of texts)

abbrev seen : List (Bor Statement) → List StatementTree
seen all = map (λ (r : Bor Statement). statement_of r.now) all

pub loop-text-init : goal.loop-text-init
loop-text-init c = begun come c.args.texts.now _ (ap seen c.new-all.ensures.items)

pub loop-text-preserved : goal.loop-text-preserved
loop-text-preserved c =
    added come (λ (text : LineText). line_of text.line.now) c.args.texts.now c.loop-text.text-index c.text-item.result (seen c.loop-text.all.items) (seen c.add_statements.new.all.items) _ (λ text texts. refl) c.text-item.is c.loop-text-test.true c.in_ok-add_statements.ensures c.loop-text.invariant

pub returns : goal.returns
returns c = ended come c.args.texts.now c.loop-text.text-index (seen c.loop-text.all.items) _ refl c.loop-text-test.false c.loop-text.invariant

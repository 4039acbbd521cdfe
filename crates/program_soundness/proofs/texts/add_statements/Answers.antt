use Rattle.std.proofs.Common.{List, [], ◌∷◌, ◌++◌, map, ap, refl}
use Rattle.basic_tree.specs.StatementViews.{statement_of}
use Rattle.basic_tree.specs.Trees.{StatementTree}
use Rattle.basic_tree.specs.declared.statements.Statement.{Statement}
use Rattle.program_soundness.proofs.LoopLemmas.{added, ended}
use Rattle.program_soundness.proofs.TextLemmas.{seen, one_seen}
use Rattle.program_soundness.proofs.texts.add_statements.Goals as goal

abbrev come : List Statement → List StatementTree
come statements = map statement_of statements

pub loop-statement-init : goal.loop-statement-init
loop-statement-init c = ap (λ (l : List Statement). seen c.args.all.now.items ++ come l) c.deref-statement-items.ensures.value

pub loop-statement-preserved : goal.loop-statement-preserved
loop-statement-preserved c =
    added come (λ (s : Statement). statement_of s ∷ []) c.deref-statement-items.result.now c.loop-statement.statement-index c.statement-item.result (seen c.loop-statement.all.items) (seen c.push.new.self.items) _ (λ s ss. refl) c.statement-item.is c.loop-statement-test.true (one_seen c.loop-statement.all.items c.push.new.self.items _ c.in_ok-push.ensures.items) c.loop-statement.invariant

pub returns : goal.returns
returns c = ended come c.deref-statement-items.result.now c.loop-statement.statement-index (seen c.loop-statement.all.items) _ refl c.loop-statement-test.false c.loop-statement.invariant

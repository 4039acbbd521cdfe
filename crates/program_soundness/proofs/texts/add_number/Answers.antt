use Rattle.std.proofs.Common.{ℕ, List, [], ◌∷◌, map, refl}
use Rattle.basic_tree.specs.StatementViews.{statement_of}
use Rattle.basic_tree.specs.declared.statements.Statement.{Statement}
use Rattle.program_soundness.proofs.LoopLemmas.{added_same, ended}
use Rattle.program_soundness.proofs.texts.add_number.Goals as goal

abbrev come : ℕ → List Statement → List ℕ
come number statements = map (λ s. number) (map statement_of statements)

pub loop-statement-preserved : goal.loop-statement-preserved
loop-statement-preserved c =
    added_same (come c.args.number) (c.args.number ∷ []) _ c.loop-statement._statement-index c.loop-statement.numbers.items c.push.new.self.items _ (λ s ss. refl) c.loop-statement-test.true c.in_ok-push.ensures.items c.loop-statement.invariant

pub returns : goal.returns
returns c = ended (come c.args.number) _ c.loop-statement._statement-index c.loop-statement.numbers.items _ refl c.loop-statement-test.false c.loop-statement.invariant

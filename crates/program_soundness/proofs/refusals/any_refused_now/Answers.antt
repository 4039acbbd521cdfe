use Rattle.std.proofs.Common.{sym, ap, ◌∙◌}
use Rattle.basic_tree.specs.declared.statements.Statement.{Statement}
use Rattle.basic_tree.specs.StatementViews.{statement_of}
use Rattle.program_model.specs.Soundness.{is_refused_now}
use Rattle.program_soundness.proofs.RefusalLemmas.{any_found, any_further}
use Rattle.program_soundness.proofs.refusals.any_refused_now.Goals as goal

pub returns-then-branch : goal.returns-then-branch
returns-then-branch c =
    any_found is_refused_now statement_of c.args.statements.now c.loop-statement.statement-index c.statement-item.result _ c.loop-statement-test.true
    (sym (ap (λ (s : Statement). is_refused_now (statement_of s)) c.statement-item.is) ∙ sym c.in_ok-is_refused_now.ensures ∙ c.if-branch.true) c.loop-statement.invariant

pub loop-statement-preserved : goal.loop-statement-preserved
loop-statement-preserved c =
    any_further is_refused_now statement_of c.args.statements.now c.loop-statement.statement-index c.statement-item.result _ c.loop-statement-test.true
    (sym (ap (λ (s : Statement). is_refused_now (statement_of s)) c.statement-item.is) ∙ sym c.in_ok-is_refused_now.ensures ∙ c.if-branch.false) c.loop-statement.invariant

use Rattle.std.proofs.Common.{arith}
use Rattle.basic_tree.specs.StatementViews.{statement_of, clause_of}
use Rattle.basic_tree.specs.TreeViews.{tree_of}
use Rattle.basic_line.specs.Structure.{else_tree}
use Rattle.basic_line.proofs.ClauseSteps.{if_then_states, if_goto_states, goto_gives, then_gives, open_goto, open_then}
use Rattle.basic_line.proofs.choices.+choices.Goals as goal

pub goto_at-returns : goal.goto_at-returns
goto_at-returns t c =
    let otherwise = c.in_ok-otherwise.otherwise in
    let e = c.in_ok-otherwise.ensures in (
      (omega (arith, c.in_ok-behind.ensures.0.0, e.0.0), e.0.1),
      goto_gives c.args.levels c.args.words.now c.args.from c.in_ok-behind.behind otherwise.end (tree_of c.args.condition) c.in-Some.line (else_tree otherwise.clause) (statement_of c.if_goto.result) c.in_ok-behind.ensures.1 c.in-Some.ensures.line e.1 c.if_goto.ensures,
      open_goto (tree_of c.args.condition) c.in-Some.line (else_tree otherwise.clause) (statement_of c.if_goto.result) otherwise.takes_else c.if_goto.ensures e.2,
    )

pub then_at-returns : goal.then_at-returns
then_at-returns t c =
    let then = c.in_ok-then.then in
    let otherwise = c.in_ok-otherwise.otherwise in
    let d = c.in_ok-then.ensures in
    let e = c.in_ok-otherwise.ensures in (
      (omega (arith, d.0.0, e.0.0), e.0.1),
      then_gives c.args.levels c.args.words.now c.args.from then.end otherwise.end (tree_of c.args.condition) (clause_of then.clause) then.takes_else (else_tree otherwise.clause) (statement_of c.if_then.result) d.1 d.2 e.1 c.if_then.ensures,
      open_then (tree_of c.args.condition) (clause_of then.clause) (else_tree otherwise.clause) (statement_of c.if_then.result) otherwise.takes_else c.if_then.ensures e.2,
    )

pub if_at-returns-else-levels-eq0 : goal.if_at-returns-else-levels-eq0
if_at-returns-else-levels-eq0 t c =
    let condition = c.in_ok-condition in
    if_then_states c.args.levels c.args.words.now c.args.from c.in_ok-behind.behind condition.field-0.end (tree_of condition.field-0.value) c.then_at.result (omega arith) (omega (arith, c.in_ok-behind.ensures.0.0, condition.ensures.0.0)) c.in_ok-behind.ensures.1 condition.ensures.1 c.if-opens.ensures.key c.then_at.ensures

pub if_at-returns-else-opens : goal.if_at-returns-else-opens
if_at-returns-else-opens t c =
    let condition = c.in_ok-condition in
    if_goto_states c.args.levels c.args.words.now c.args.from c.in_ok-behind.behind condition.field-0.end (tree_of condition.field-0.value) c.goto_at.result (omega (arith, c.in_ok-behind.ensures.0.0, condition.ensures.0.0)) c.in_ok-behind.ensures.1 condition.ensures.1 c.if-opens.ensures.key c.goto_at.ensures

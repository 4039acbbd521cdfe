use Rattle.basic_eval.proofs.state.Running.step.Goals as goal

pub returns-in-Justify : goal.returns-in-Justify
returns-in-Justify c = rw c.in-Justify.is c.justify.ensures

pub returns-in-JustifyBy : goal.returns-in-JustifyBy
returns-in-JustifyBy c = rw c.in-JustifyBy.is (c.justify_by.ensures c.args.stack.now)

use Rattle.basic_expr.proofs.Steps.{not_negated, no_not}
use Rattle.basic_expr.proofs.signs.next_not.Goals as goal

pub returns-then-next_is_key-clause-prefix : goal.returns-then-next_is_key-clause-prefix
returns-then-next_is_key-clause-prefix c = let at = c.if-next_is_key.ensures.stands in not_negated c.args.words.now c.args.place at.0 at.1

pub returns-else-next_is_key-clause-prefix : goal.returns-else-next_is_key-clause-prefix
returns-else-next_is_key-clause-prefix c = no_not c.args.words.now c.args.place c.if-next_is_key.ensures.stands

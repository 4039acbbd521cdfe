use Rattle.grammar_machine.proofs.OneAnswer.{one_expr_answer}
use Rattle.grammar_machine.proofs.laws.expressions_have_one_answer.Goals as goal

pub returns : goal.returns
returns c = one_expr_answer

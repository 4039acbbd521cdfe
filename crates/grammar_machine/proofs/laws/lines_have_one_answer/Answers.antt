use Rattle.grammar_machine.proofs.OneAnswer.{one_line_answer}
use Rattle.grammar_machine.proofs.laws.lines_have_one_answer.Goals as goal

pub returns : goal.returns
returns c = one_line_answer

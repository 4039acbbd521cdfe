use Rattle.grammar_machine.proofs.OneAnswer.{one_bytes_answer}
use Rattle.grammar_machine.proofs.laws.bytes_have_one_answer.Goals as goal

pub returns : goal.returns
returns c = one_bytes_answer

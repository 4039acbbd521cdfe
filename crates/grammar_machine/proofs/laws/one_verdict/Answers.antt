use Rattle.grammar_machine.proofs.OneAnswer.{one_verdict_lem}
use Rattle.grammar_machine.proofs.laws.one_verdict.Goals as goal

pub returns : goal.returns
returns c = one_verdict_lem

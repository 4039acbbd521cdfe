use Rattle.grammar_machine.proofs.LevelsSettled.{levels_settled}
use Rattle.grammar_machine.proofs.laws.levels_are_settled.Goals as goal

pub returns : goal.returns
returns c = levels_settled

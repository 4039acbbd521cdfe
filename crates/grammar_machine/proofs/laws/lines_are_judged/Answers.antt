-- The machine is a judge of all lines.
use Rattle.grammar_machine.proofs.Judged.{lines_judged}
use Rattle.grammar_machine.proofs.laws.lines_are_judged.Goals as goal

pub returns : goal.returns
returns c = lines_judged

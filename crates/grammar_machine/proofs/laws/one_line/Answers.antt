-- No words are two lines.
use Rattle.grammar_machine.proofs.OneLine.{one_line_lem}
use Rattle.grammar_machine.proofs.laws.one_line.Goals as goal

pub returns : goal.returns
returns c = one_line_lem

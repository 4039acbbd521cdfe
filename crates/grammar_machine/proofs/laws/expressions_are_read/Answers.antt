-- From each place on, the machine reads or rejects the words.
use Rattle.grammar_machine.proofs.Judged.{expressions_read}
use Rattle.grammar_machine.proofs.laws.expressions_are_read.Goals as goal

pub returns : goal.returns
returns c = expressions_read

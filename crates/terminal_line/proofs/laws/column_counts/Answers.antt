use Rattle.terminal_line.proofs.CountLemmas.{column_counts}
use Rattle.terminal_line.proofs.laws.column_counts.Goals as goal

pub returns : goal.returns
returns c = column_counts

use Rattle.terminal_line.proofs.ColumnLemmas as lemmas
use Rattle.terminal_line.proofs.laws.tabs_reach.Goals as goal

pub returns : goal.returns
returns c = lemmas.tabs_reach

use Rattle.terminal_line.proofs.ColumnLemmas as lemmas
use Rattle.terminal_line.proofs.laws.zones_reach.Goals as goal

pub returns : goal.returns
returns c = lemmas.zones_reach

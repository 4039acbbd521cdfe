use Rattle.live_lines.proofs.OwnLines as own
use Rattle.live_lines.proofs.laws.own_lines.Goals as goal

pub returns : goal.returns
returns c = own.own_lines

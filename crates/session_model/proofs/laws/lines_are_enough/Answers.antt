use Rattle.session_model.proofs.Talks.{lines_are_enough_lem}
use Rattle.session_model.proofs.laws.lines_are_enough.Goals as goal

pub returns : goal.returns
returns c = lines_are_enough_lem

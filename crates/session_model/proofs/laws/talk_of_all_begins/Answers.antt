use Rattle.session_model.proofs.Talks.{talk_of_all_begins_lem}
use Rattle.session_model.proofs.laws.talk_of_all_begins.Goals as goal

pub returns : goal.returns
returns c = talk_of_all_begins_lem

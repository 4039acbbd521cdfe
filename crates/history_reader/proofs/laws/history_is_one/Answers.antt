use Rattle.history_reader.proofs.HistoryLaws.{history_is_one}
use Rattle.history_reader.proofs.laws.history_is_one.Goals as goal

pub returns : goal.returns
returns c = history_is_one

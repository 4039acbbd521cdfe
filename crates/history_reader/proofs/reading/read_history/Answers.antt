use Rattle.history_reader.proofs.HistoryLaws.{wrong_heading}
use Rattle.history_reader.proofs.reading.read_history.Goals as goal

pub returns-in-None : goal.returns-in-None
returns-in-None c = wrong_heading c.args.text.now c.in-None.ensures

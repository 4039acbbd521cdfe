use Rattle.monitor_model.proofs.Closing.{accounts_stay, closing_is_volume}
use Rattle.monitor_model.proofs.laws.closing.Goals as goal

pub returns-clause-accounts : goal.returns-clause-accounts
returns-clause-accounts c = accounts_stay

pub returns-clause-volume : goal.returns-clause-volume
returns-clause-volume c = closing_is_volume

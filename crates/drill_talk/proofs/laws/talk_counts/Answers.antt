use Rattle.drill_talk.proofs.SessionEnds.{talk_counts_by_runs}
use Rattle.drill_talk.proofs.Turns.{run_counts}
use Rattle.drill_talk.proofs.laws.talk_counts.Goals as goal

pub returns : goal.returns
returns c = talk_counts_by_runs run_counts

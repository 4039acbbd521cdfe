use Rattle.key_rings.proofs.LawProofs.{ended_keys, same_events}
use Rattle.key_rings.proofs.laws.live_is_batch.Goals as goal

pub returns-clause-ended : goal.returns-clause-ended
returns-clause-ended c = ended_keys

pub returns-clause-same : goal.returns-clause-same
returns-clause-same c = same_events

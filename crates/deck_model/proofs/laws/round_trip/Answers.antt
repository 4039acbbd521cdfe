use Rattle.deck_model.proofs.DiskLaws.{volume_spelled}
use Rattle.deck_model.proofs.LengthLaws.{volume_short}
use Rattle.deck_model.proofs.laws.round_trip.Goals as goal

pub returns : goal.returns
returns c = record { spelled = volume_spelled; short = volume_short }

use Rattle.record_fields.proofs.WriteLemmas.{others_stay}
use Rattle.record_fields.proofs.laws.others_stay.Goals as goal

pub returns : goal.returns
returns c = others_stay

use Rattle.record_fields.proofs.PlaceLemmas.{apart}
use Rattle.record_fields.proofs.laws.elements_are_apart.Goals as goal

pub returns : goal.returns
returns c = apart

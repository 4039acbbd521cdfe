use Rattle.basic_values.proofs.BitLemmas.{by_place}
use Rattle.basic_values.proofs.laws.bits_go_by_place.Goals as goal

pub returns : goal.returns
returns c = by_place

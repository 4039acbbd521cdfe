use Rattle.basic_strings.proofs.LeastLemmas.{place_is_least}
use Rattle.basic_strings.proofs.laws.place_is_least.Goals as goal

pub returns : goal.returns
returns c = place_is_least

use Rattle.basic_values.proofs.RangeLemmas.{wrap-sum}
use Rattle.basic_values.proofs.laws.wrap_passes_sums.Goals as goal

pub returns : goal.returns
returns c = wrap-sum

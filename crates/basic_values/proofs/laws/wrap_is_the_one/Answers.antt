use Rattle.basic_values.proofs.RangeLemmas.{wrap-in_range, wrap-differ, wrap_only}
use Rattle.basic_values.proofs.laws.wrap_is_the_one.Goals as goal

pub returns : goal.returns
returns c = λ z. (wrap-in_range z, wrap-differ z, λ other within differ. wrap_only z other within differ)

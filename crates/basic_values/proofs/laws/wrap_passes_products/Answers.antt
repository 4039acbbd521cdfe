use Rattle.basic_values.proofs.RangeLemmas.{wrap-product}
use Rattle.basic_values.proofs.laws.wrap_passes_products.Goals as goal

pub returns : goal.returns
returns c = wrap-product

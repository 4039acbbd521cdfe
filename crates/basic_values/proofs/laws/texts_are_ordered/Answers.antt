use Rattle.basic_values.proofs.OrderLemmas.{texts_ordered}
use Rattle.basic_values.proofs.laws.texts_are_ordered.Goals as goal

pub returns : goal.returns
returns c = texts_ordered

use Rattle.basic_values.proofs.DivisionLemmas.{towards_zero}
use Rattle.basic_values.proofs.laws.division_truncates.Goals as goal

pub returns : goal.returns
returns c = towards_zero

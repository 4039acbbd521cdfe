use Rattle.basic_matrix.proofs.LawLemmas.{assignment_changes}
use Rattle.basic_matrix.proofs.laws.assignment_changes_the_target.Goals as goal

pub returns : goal.returns
returns c = assignment_changes

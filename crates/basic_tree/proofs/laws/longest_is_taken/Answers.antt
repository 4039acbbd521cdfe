use Rattle.basic_tree.proofs.KeywordLemmas.{longest_taken}
use Rattle.basic_tree.proofs.laws.longest_is_taken.Goals as goal

pub returns : goal.returns
returns c = longest_taken

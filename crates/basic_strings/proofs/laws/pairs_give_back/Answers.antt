use Rattle.basic_strings.proofs.GiveBackLemmas.{pairs_give_back}
use Rattle.basic_strings.proofs.laws.pairs_give_back.Goals as goal

pub returns : goal.returns
returns c = pairs_give_back

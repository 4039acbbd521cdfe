use Rattle.basic_strings.proofs.GiveBackLemmas.{reading_gives_back}
use Rattle.basic_strings.proofs.laws.reading_gives_back.Goals as goal

pub returns : goal.returns
returns c = reading_gives_back

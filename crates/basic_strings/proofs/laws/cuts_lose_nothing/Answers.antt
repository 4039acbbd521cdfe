use Rattle.basic_strings.proofs.GiveBackLemmas.{cuts_lose_nothing}
use Rattle.basic_strings.proofs.laws.cuts_lose_nothing.Goals as goal

pub returns : goal.returns
returns c = cuts_lose_nothing

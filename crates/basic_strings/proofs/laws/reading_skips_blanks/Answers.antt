use Rattle.basic_strings.proofs.GiveBackLemmas.{reading_skips_blanks}
use Rattle.basic_strings.proofs.laws.reading_skips_blanks.Goals as goal

pub returns : goal.returns
returns c = reading_skips_blanks

use Rattle.std.proofs.Common.{length}
use Rattle.deck_reader.proofs.files.+fit_in.Given as goal

abbrev pub decreases-fit_in : goal.decreases-fit_in
decreases-fit_in l = length l.files.now

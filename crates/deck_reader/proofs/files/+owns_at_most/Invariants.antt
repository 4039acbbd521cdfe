use Rattle.std.proofs.Common.{length}
use Rattle.deck_reader.proofs.files.+owns_at_most.Given as goal

abbrev pub decreases-owns_at_most : goal.decreases-owns_at_most
decreases-owns_at_most l = length l.files.now

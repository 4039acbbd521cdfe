use Rattle.std.proofs.Common.{◌∙◌, arith}
use Rattle.program_soundness.specs.Listings.{text_of}
use Rattle.code_places.proofs.PlacementLemmas.{past_missing}
use Rattle.code_places.proofs.placement.PlacementLookups.past_body.Goals as goal

pub returns-else-m-count : goal.returns-else-m-count
returns-else-m-count c = c.place-else-m-count.ensures ∙ past_missing (text_of c.args.self.now) c.args.m (omega (arith, c.if-m-count.false, c.count.ensures))

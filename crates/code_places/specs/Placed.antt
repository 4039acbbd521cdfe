-- What a placement keeps of its program.
use Rattle.std.specs.Prelude.{◌≡◌}
use Rattle.program_model.specs.Program.{statements_of, loops_in}
use Rattle.program_soundness.specs.Listings.{text_of}
use Rattle.code_places.specs.declared.placement.Placement.TheInside.{Inside}
use Rattle.code_places.specs.Sums.{size_whole, sums_from}

pub record IsPlaced (p : Inside) : Type 0 where
  pub places : p.places.items ≡ sums_from size_whole 0 (statements_of (text_of p.tables))
  pub loops : p.loops.items ≡ sums_from loops_in 0 (statements_of (text_of p.tables))

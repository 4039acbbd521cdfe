use Rattle.std.proofs.Common.{◌∙◌}
use Rattle.std.specs.Global.{Vec}
use Rattle.std.proofs.lemmas.Result.{IfOk-weaker}
use Rattle.polish_code.specs.declared.lines.LinePlace.{LinePlace}
use Rattle.code_places.proofs.PlacementLemmas.{lines_are}
use Rattle.code_places.proofs.placement.Placement.line_places.Goals as goal

pub returns : goal.returns
returns c = IfOk-weaker _ _ _ (λ (lines : Vec LinePlace) e. lines_are c.self.inside c.args.self.now c.self.view_is c.self.invariant c.deref.result.now c.texts.result.now lines.items c.deref.ensures.value (c.texts.ensures ∙ c.listing.ensures) e) c.line_places_in.ensures

use Rattle.std.proofs.Common.{suc, arith}
use Rattle.code_places.proofs.PlacementLemmas.{places_count, place_next, place_missing}
use Rattle.code_places.proofs.placement.Placement.place_behind.Goals as goal

pub index-requires : goal.index-requires
index-requires c = omega (arith, places_count c.self.inside c.args.self.now c.self.view_is c.self.invariant, c.if-m-count.true, c.count-count.ensures, c.self.inside.places.ok.0)

pub index-requires-else-m-count : goal.index-requires-else-m-count
index-requires-else-m-count c = omega (arith, places_count c.self.inside c.args.self.now c.self.view_is c.self.invariant, c.count-count.ensures, c.self.inside.places.ok.0)

pub returns-then-m-count : goal.returns-then-m-count
returns-then-m-count c = place_next c.self.inside c.args.self.now c.self.view_is c.self.invariant c.args.m c.index.result.now c.index.ensures (omega (arith, c.if-m-count.true, c.count-count.ensures))

pub returns-else-m-count : goal.returns-else-m-count
returns-else-m-count c = place_missing c.self.inside c.args.self.now c.self.view_is c.self.invariant (suc c.args.m) c.count-count.result c.index-else-m-count.result.now c.index-else-m-count.ensures c.count-count.ensures (omega (arith, c.if-m-count.false))

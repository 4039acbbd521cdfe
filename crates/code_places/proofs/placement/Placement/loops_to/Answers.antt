use Rattle.std.proofs.Common.{arith}
use Rattle.code_places.proofs.PlacementLemmas.{loops_count, loops_there, loops_missing}
use Rattle.code_places.proofs.placement.Placement.loops_to.Goals as goal

pub index-requires : goal.index-requires
index-requires c = omega (arith, loops_count c.self.inside c.args.self.now c.self.view_is c.self.invariant, c.if-m-count.true, c.count-count.ensures, c.self.inside.loops.ok.0)

pub index-requires-else-m-count : goal.index-requires-else-m-count
index-requires-else-m-count c = omega (arith, loops_count c.self.inside c.args.self.now c.self.view_is c.self.invariant, c.count-count.ensures, c.self.inside.loops.ok.0)

pub returns-then-m-count : goal.returns-then-m-count
returns-then-m-count c = loops_there c.self.inside c.args.self.now c.self.view_is c.self.invariant c.args.m c.index.result.now c.index.ensures (omega (arith, c.if-m-count.true, c.count-count.ensures))

pub returns-else-m-count : goal.returns-else-m-count
returns-else-m-count c = loops_missing c.self.inside c.args.self.now c.self.view_is c.self.invariant c.args.m c.count-count.result c.index-else-m-count.result.now c.index-else-m-count.ensures c.count-count.ensures (omega (arith, c.if-m-count.false))

use Rattle.std.proofs.Common.{List, [], ◌∷◌, map, refl}
use Rattle.basic_tree.specs.declared.names.Name.{Name}
use Rattle.basic_tree.specs.declared.parts.Shape.{Shape}
use Rattle.program_soundness.proofs.LoopLemmas.{added_read, ended, some_added, on_err}
use Rattle.program_soundness.proofs.dims.add_shapes.Goals as goal

abbrev come : List Shape → List Name
come shapes = map (λ (shape : Shape). shape.name) shapes

pub loop-shape-preserved : goal.loop-shape-preserved
loop-shape-preserved c =
    added_read come (λ (shape : Shape). shape.name ∷ []) c.args.shapes.now c.loop-shape.shape-index _ c.loop-shape.names.items c.push.new.self.items _ (λ shape shapes. refl) c.loop-shape-test.true c.in_ok-push.ensures.items c.loop-shape.invariant

pub returns-clause-added : goal.returns-clause-added
returns-clause-added c = ended come c.args.shapes.now c.loop-shape.shape-index c.loop-shape.names.items _ refl c.loop-shape-test.false c.loop-shape.invariant

pub returns-in_err-push-clause-memory : goal.returns-in_err-push-clause-memory
returns-in_err-push-clause-memory c =
    on_err c.from_residual.result (some_added (λ (shape : Shape). shape.name) c.args.shapes.now c.loop-shape.shape-index c.args.names.now.items c.loop-shape.names.items _ c.in_err-push.ensures.items c.loop-shape.invariant)

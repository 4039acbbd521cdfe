use Rattle.std.proofs.Common.{List, [], ◌∷◌, map, refl}
use Rattle.basic_tree.specs.declared.names.Name.{Name}
use Rattle.basic_tree.specs.declared.parts.FileShape.{FileShape}
use Rattle.program_soundness.proofs.LoopLemmas.{added_read, ended, some_added, on_err}
use Rattle.program_soundness.proofs.dims.add_file_shapes.Goals as goal

abbrev come : List FileShape → List Name
come files = map (λ (file : FileShape). file.shape.name) files

pub loop-file-preserved : goal.loop-file-preserved
loop-file-preserved c =
    added_read come (λ (file : FileShape). file.shape.name ∷ []) c.args.files.now c.loop-file.file-index _ c.loop-file.names.items c.push.new.self.items _ (λ file files. refl) c.loop-file-test.true c.in_ok-push.ensures.items c.loop-file.invariant

pub returns-clause-added : goal.returns-clause-added
returns-clause-added c = ended come c.args.files.now c.loop-file.file-index c.loop-file.names.items _ refl c.loop-file-test.false c.loop-file.invariant

pub returns-in_err-push-clause-memory : goal.returns-in_err-push-clause-memory
returns-in_err-push-clause-memory c =
    on_err c.from_residual.result (some_added (λ (file : FileShape). file.shape.name) c.args.files.now c.loop-file.file-index c.args.names.now.items c.loop-file.names.items _ c.in_err-push.ensures.items c.loop-file.invariant)

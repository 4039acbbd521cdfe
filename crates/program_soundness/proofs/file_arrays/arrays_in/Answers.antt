use Rattle.std.proofs.Common.{List, map, Bor, refl}
use Rattle.std.specs.List.{flat_map}
use Rattle.basic_tree.specs.declared.statements.Statement.{Statement}
use Rattle.basic_tree.specs.StatementViews.{statement_of}
use Rattle.program_model.specs.FileArrays.{arrays_by}
use Rattle.virtual_arrays.specs.declared.places.VirtualShape.{VirtualShape}
use Rattle.program_soundness.proofs.LoopLemmas.{begun, added, ended}
use Rattle.program_soundness.proofs.file_arrays.arrays_in.Goals as goal

abbrev come : List (Bor Statement) → List VirtualShape
come all = flat_map arrays_by (map (λ (r : Bor Statement). statement_of r.now) all)

pub loop-statement-init : goal.loop-statement-init
loop-statement-init c = begun come c.args.all.now _ c.new-arrays.ensures.items

pub loop-statement-preserved : goal.loop-statement-preserved
loop-statement-preserved c =
    added come (λ (r : Bor Statement). arrays_by (statement_of r.now)) c.args.all.now c.loop-statement.statement-index c.statement-item.result c.loop-statement.arrays.items c.add_declared.new.arrays.items _ (λ r rs. refl) c.statement-item.is c.loop-statement-test.true c.in_ok-add_declared.ensures c.loop-statement.invariant

pub returns : goal.returns
returns c = ended come c.args.all.now c.loop-statement.statement-index c.loop-statement.arrays.items _ refl c.loop-statement-test.false c.loop-statement.invariant

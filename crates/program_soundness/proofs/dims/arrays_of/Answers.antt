use Rattle.std.proofs.Common.{List, map, Bor, refl}
use Rattle.std.specs.List.{flat_map}
use Rattle.basic_tree.specs.declared.names.Name.{Name}
use Rattle.basic_tree.specs.declared.statements.Statement.{Statement}
use Rattle.basic_tree.specs.StatementViews.{statement_of}
use Rattle.program_model.specs.Soundness.{arrays_in}
use Rattle.program_soundness.proofs.LoopLemmas.{begun, added, ended}
use Rattle.program_soundness.proofs.dims.arrays_of.Goals as goal

abbrev come : List (Bor Statement) → List Name
come all = flat_map arrays_in (map (λ (r : Bor Statement). statement_of r.now) all)

pub loop-statement-init : goal.loop-statement-init
loop-statement-init c = begun come c.args.all.now _ c.new-names.ensures.items

pub loop-statement-preserved : goal.loop-statement-preserved
loop-statement-preserved c =
    added come (λ (r : Bor Statement). arrays_in (statement_of r.now)) c.args.all.now c.loop-statement.statement-index c.statement-item.result c.loop-statement.names.items c.add_arrays.new.names.items _ (λ r rs. refl) c.statement-item.is c.loop-statement-test.true c.in_ok-add_arrays.ensures.added c.loop-statement.invariant

pub returns : goal.returns
returns c = ended come c.args.all.now c.loop-statement.statement-index c.loop-statement.names.items _ refl c.loop-statement-test.false c.loop-statement.invariant

use Rattle.std.proofs.Common.{ℕ, List, map, Bor, refl}
use Rattle.basic_tree.specs.declared.statements.Statement.{Statement}
use Rattle.basic_tree.specs.StatementViews.{statement_of}
use Rattle.program_soundness.specs.declared.definitions.Definition.{Definition}
use Rattle.program_soundness.specs.Listings.{definitions_in, definitions_from}
use Rattle.program_soundness.proofs.LoopLemmas.{begun, added_at, ended}
use Rattle.program_soundness.proofs.definitions.definitions_in.Goals as goal

abbrev come : ℕ → List (Bor Statement) → List Definition
come place all = definitions_from place (map (λ (r : Bor Statement). statement_of r.now) all)

pub loop-place-init : goal.loop-place-init
loop-place-init c = begun (come 0) c.args.all.now _ c.new-definitions.ensures.items

pub loop-place-preserved : goal.loop-place-preserved
loop-place-preserved c =
    added_at come (λ place (r : Bor Statement). definitions_in place (statement_of r.now)) c.args.all.now c.loop-place.place c.index-all-place.result c.loop-place.definitions.items c.add_definition.new.definitions.items _ (λ place r rs. refl) c.index-all-place.is c.loop-place-test.true c.in_ok-add_definition.ensures c.loop-place.invariant

pub returns : goal.returns
returns c = ended (come c.loop-place.place) c.args.all.now c.loop-place.place c.loop-place.definitions.items _ refl c.loop-place-test.false c.loop-place.invariant

use Rattle.std.proofs.Common.{arith}
use Rattle.std.specs.Prelude.{vec_capacity}
use Rattle.block_interlock.proofs.FieldLemmas.{has_room, take_up_kept}
use Rattle.block_interlock.proofs.holds.take_up.Goals as goal

pub add_all-requires-clause-room : goal.add_all-requires-clause-room
add_all-requires-clause-room c =
    omega (arith, has_room c.args.fields.now.items c.args.index.now.items (vec_capacity c.args.index.now) c.requires.kept c.args.job c.args.channel c.requires.field c.args.run.now c.requires.empty c.requires.short c.requires.free, c.args.index.now.ok.0)

pub returns-clause-kept : goal.returns-clause-kept
returns-clause-kept c =
    take_up_kept c.args.fields.now.items c.args.index.now.items (vec_capacity c.args.index.now) c.requires.kept c.args.job c.args.channel c.requires.field c.args.run.now c.requires.empty c.requires.short c.requires.free c.add_all.new.index.items c.add_all.ensures.adds (vec_capacity c.add_all.new.index) c.add_all.ensures.room

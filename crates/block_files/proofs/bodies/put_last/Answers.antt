use Rattle.block_files.proofs.KeyLemmas.{inserted}
use Rattle.block_files.proofs.bodies.put_last.Goals as goal

pub returns : goal.returns
returns c =
    inserted c.args.name c.args.body c.args.files.now c.insert.new.self.entries c.insert.result c.requires.fresh (c.insert.ensures.succeeds c.requires.room) c.insert.ensures.entries

use Rattle.block_files.proofs.OwnerLemmas.{counted_created}
use Rattle.block_files.proofs.disks.Disk.create.Goals as goal

pub invariant_of-self : goal.invariant_of-self
invariant_of-self c =
    counted_created c.create.result c.self.inside.owners c.self.inside.store c.create.new.self c.args.name c.args.code c.create.ensures.ok c.create.ensures.err c.self.invariant

use Rattle.std.proofs.Common.{◌∙◌}
use Rattle.block_files.proofs.KeyLemmas.{lookup-key}
use Rattle.block_files.proofs.bodies.body_of.Goals as goal

pub returns : goal.returns
returns c = c.get.ensures.value ∙ lookup-key c.args.name.now c.args.files.now.entries

use Rattle.std.proofs.Common.{◌∙◌}
use Rattle.block_files.proofs.KeyLemmas.{lookup-key, remove_entry-key}
use Rattle.block_files.proofs.bodies.take_out.Goals as goal

pub returns-clause-value : goal.returns-clause-value
returns-clause-value c = c.shift_remove.ensures.value ∙ lookup-key c.args.name.now c.args.files.now.entries

pub returns-clause-entries : goal.returns-clause-entries
returns-clause-entries c = c.shift_remove.ensures.entries ∙ remove_entry-key c.args.name.now c.args.files.now.entries

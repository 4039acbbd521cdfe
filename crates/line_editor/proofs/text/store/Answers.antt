use Rattle.std.specs.BTreeMap.{is_at}
use Rattle.std.specs.Ordering.{nat_cmp}
use Rattle.line_editor.proofs.MapLemmas.{absent}
use Rattle.line_editor.proofs.ProgramLemmas.{whole_stored, whole_same, taken_back}
use Rattle.line_editor.proofs.text.store.Goals as goal

-- what was stored is removed again
pub returns-clause-memory : goal.returns-clause-memory
returns-clause-memory c =
    taken_back c.args.number c.args.rest.now c.args.buffer.now c.store.new.self c.remove.new.self
    (absent (is_at (nat_cmp c.args.number)) c.args.buffer.now c.args.trees.now.entries c.requires.whole.beside c.in-Err.ensures.absent)
    c.in_ok-store.ensures.ok c.in_ok-store.ensures.orderly c.remove.ensures

pub returns-clause-whole : goal.returns-clause-whole
returns-clause-whole c =
    whole_same c.args.buffer.now c.args.trees.now c.remove.new.self c.insert.new.self c.requires.whole (returns-clause-memory c) c.in-Err.ensures.err

pub returns-in-Ok-clause-whole : goal.returns-in-Ok-clause-whole
returns-in-Ok-clause-whole c =
    whole_stored c.args.buffer.now c.store.new.self c.args.trees.now c.insert.new.self c.args.number c.args.rest.now c.args.tree c.in-Ok.field-0
    c.requires.whole c.requires.line c.requires.tree c.requires.room c.in_ok-store.ensures.ok c.in_ok-store.ensures.orderly
    c.in-Ok.ensures.entries c.in-Ok.ensures.old c.in-Ok.ensures.len

use Rattle.std.proofs.Common.{◌<◌, ◌≤◌, length, slice_set, ap, sym, subst, ◌∙◌, arith}
use Rattle.std.specs.Map.{lookup, remove_entry}
use Rattle.job_memory.specs.Names.{at_name}
use Rattle.job_memory.specs.Slots.{IsOrdered}
use Rattle.job_memory.proofs.SlotLemmas.{lookup-row, lookup-no_row, sorted-entries_of, entries_of-remove, entries_of-no_row}
use Rattle.job_memory.proofs.slots.Slots.remove.Goals as goal

pub returns-then-letter-len-clause-value : goal.returns-then-letter-len-clause-value
returns-then-letter-len-clause-value g c =
    let inside : c.from-letter.result < length c.self.inside.rows.items = omega (arith, c.self.inside.rows.ok.0) in
    lookup-row c.args.name c.self.inside.rows.items c.index_mut.result.now c.from-letter.result c.slot_of.result _ c.from-letter.ensures c.slot_of.ensures inside c.index_mut.ensures.value c.remove.ensures.old
    ∙ ap (lookup (at_name c.args.name)) c.self.view_is

pub returns-then-letter-len-clause-entries : goal.returns-then-letter-len-clause-entries
returns-then-letter-len-clause-entries g c =
    let inside : c.from-letter.result < length c.self.inside.rows.items = omega (arith, c.self.inside.rows.ok.0) in
    entries_of-remove c.self.inside.rows.items c.index_mut.result.now c.remove.new.self c.from-letter.result inside c.index_mut.ensures.value c.args.name c.slot_of.result c.from-letter.ensures c.slot_of.ensures c.remove.ensures.removes
    ∙ ap (remove_entry (at_name c.args.name)) c.self.view_is

pub returns-then-letter-len-clause-ordered : goal.returns-then-letter-len-clause-ordered
returns-then-letter-len-clause-ordered g c = sorted-entries_of (slice_set c.self.inside.rows.items c.from-letter.result c.remove.new.self)

pub returns-else-letter-len-clause-value : goal.returns-else-letter-len-clause-value
returns-else-letter-len-clause-value g c =
    let past : length c.self.inside.rows.items ≤ c.from-letter.result = omega (arith, c.self.inside.rows.ok.0) in
    sym (lookup-no_row c.args.name c.self.inside.rows.items c.from-letter.result c.from-letter.ensures past) ∙ ap (lookup (at_name c.args.name)) c.self.view_is

pub returns-else-letter-len-clause-entries : goal.returns-else-letter-len-clause-entries
returns-else-letter-len-clause-entries g c =
    let past : length c.self.inside.rows.items ≤ c.from-letter.result = omega (arith, c.self.inside.rows.ok.0) in
    sym c.self.view_is ∙ entries_of-no_row c.self.inside.rows.items c.args.name c.from-letter.result c.from-letter.ensures past ∙ ap (remove_entry (at_name c.args.name)) c.self.view_is

pub returns-else-letter-len-clause-ordered : goal.returns-else-letter-len-clause-ordered
returns-else-letter-len-clause-ordered g c = subst IsOrdered c.self.view_is (sorted-entries_of c.self.inside.rows.items)

use Rattle.std.proofs.Common.{refl, ap, sym, subst, ◌∙◌, slice_set}
use Rattle.std.specs.Map.{lookup, set_value}
use Rattle.std.specs.Option.{ghost_name_of}
use Rattle.job_memory.specs.Names.{at_name}
use Rattle.job_memory.specs.Slots.{slot_in, IsOrdered}
use Rattle.job_memory.proofs.EntryLemmas.{set_value-absent}
use Rattle.job_memory.proofs.SlotLemmas.{lookup-row, lookup-no_row, sorted-entries_of, entries_of-rewrite, entries_of-same_row}
use Rattle.job_memory.proofs.slots.Slots.get_mut.Goals as goal

pub returns-in-Some : goal.returns-in-Some
returns-in-Some g c =
    let rows = c.self.inside.rows.items in
    let was = c.in-Some.row.now in
    let letter = c.from.result in
    let inside = c.in-Some.ensures.item.3.0 in
    let read = c.in-Some.ensures.value in
    let slot = c.slot_of-slot.result in (
      (
        refl {a = ghost_name_of c.get_mut-in-Some.result},
        λ w. (
          entries_of-rewrite rows was (c.get_mut-in-Some.follows.lender w) letter inside read c.args.name slot (slot_in was slot) w c.from.ensures c.slot_of-slot.ensures refl (c.get_mut-in-Some.follows.holds w)
              ∙ ap (λ es. set_value (at_name c.args.name) es w) c.self.view_is,
          sorted-entries_of (slice_set rows letter (c.get_mut-in-Some.follows.lender w)),
        ),
        entries_of-same_row rows was c.get_mut-in-Some.follows.lender-at-none letter inside read c.get_mut-in-Some.follows.holds-at-none ∙ c.self.view_is,
      ),
      record {
        writes_back = tt;
        value = lookup-row c.args.name rows was letter slot _ c.from.ensures c.slot_of-slot.ensures inside read c.get_mut-in-Some.ensures.value ∙ ap (lookup (at_name c.args.name)) c.self.view_is;
        ordered = subst IsOrdered c.self.view_is (sorted-entries_of rows);
      },
    )

pub returns-in-None : goal.returns-in-None
returns-in-None g c =
    let rows = c.self.inside.rows.items in
    let absent = lookup-no_row c.args.name rows c.from.result c.from.ensures c.in-None.ensures.item.3 in
    let none = sym absent ∙ ap (lookup (at_name c.args.name)) c.self.view_is in
    let ordered = subst IsOrdered c.self.view_is (sorted-entries_of rows) in (
      (refl, λ w. (sym (set_value-absent (at_name c.args.name) w c.args.self.now (sym none)), ordered), c.self.view_is),
      record { writes_back = tt; value = none; ordered = ordered },
    )

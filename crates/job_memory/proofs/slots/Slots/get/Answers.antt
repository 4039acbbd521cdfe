use Rattle.std.proofs.Common.{ap, sym, ◌∙◌}
use Rattle.std.specs.Map.{lookup}
use Rattle.job_memory.specs.Names.{at_name}
use Rattle.job_memory.specs.Slots.{entries_of}
use Rattle.job_memory.proofs.SlotLemmas.{lookup-row, lookup-no_row}
use Rattle.job_memory.proofs.slots.Slots.get.Goals as goal

pub returns-in-Some : goal.returns-in-Some
returns-in-Some g c = record {
  value = lookup-row c.args.name c.deref.result.now c.in-Some.row.now c.from.result c.slot_of.result _ c.from.ensures c.slot_of.ensures c.in-Some.ensures.lookup.3.0 c.in-Some.ensures.lookup.1 c.get-in-Some.ensures
      ∙ ap (λ rows. lookup (at_name c.args.name) (entries_of rows)) c.deref.ensures.value
      ∙ ap (lookup (at_name c.args.name)) c.self.view_is;
}

pub returns-in-None : goal.returns-in-None
returns-in-None g c = record {
  value = sym (lookup-no_row c.args.name c.deref.result.now c.from.result c.from.ensures c.in-None.ensures.lookup.3)
      ∙ ap (λ rows. lookup (at_name c.args.name) (entries_of rows)) c.deref.ensures.value
      ∙ ap (lookup (at_name c.args.name)) c.self.view_is;
}

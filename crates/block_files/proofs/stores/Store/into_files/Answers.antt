use Rattle.block_files.proofs.SlotLemmas.{full_once}
use Rattle.block_files.proofs.stores.Store.into_files.Goals as goal

pub unmounted-requires : goal.unmounted-requires
unmounted-requires c =
    let i = c.self.inside in
    full_once i.pages.items i.free.items i.files.entries c.self.invariant.disk

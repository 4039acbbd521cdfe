use Rattle.std.proofs.Common.{sym, ap, ◌∙◌}
use Rattle.std.specs.Prelude.{is_some}
use Rattle.monitor_model.specs.Files.{is_block}
use Rattle.block_files.specs.Disks.{place_at}
use Rattle.block_files.proofs.ReadLemmas.{page_at-none, is_block-file_of}
use Rattle.block_files.proofs.stores.Store.is_block.Goals as goal

pub returns-in-Some : goal.returns-in-Some
returns-in-Some c =
    let i = c.self.inside in
    c.is_some.ensures ∙ ap is_some (c.place_in.ensures ∙ ap (λ xs. place_at xs c.args.block) c.as_slice.ensures.value) ∙ is_block-file_of i.pages.items i.files.entries c.args.name.now c.in-Some.body.now c.args.block c.in-Some.ensures ∙ ap (λ d. is_block d.files c.args.name.now c.args.block) c.self.view_is

pub returns-in-None : goal.returns-in-None
returns-in-None c =
    let i = c.self.inside in
    sym (ap is_some (page_at-none i.pages.items i.files.entries c.args.name.now c.args.block c.in-None.ensures)) ∙ ap (λ d. is_block d.files c.args.name.now c.args.block) c.self.view_is

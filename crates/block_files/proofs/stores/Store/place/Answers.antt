use Rattle.std.proofs.Common.{sym, ap, ◌∙◌, subst}
use Rattle.std.specs.Prelude.{is_some}
use Rattle.monitor_model.specs.Files.{is_block}
use Rattle.block_files.specs.Disks.{place_at, place_of, IsLaidOut}
use Rattle.block_files.proofs.ReadLemmas.{page_at-none, is_block-file_of}
use Rattle.block_files.proofs.LayLemmas.{place_in-file_of, place_in-none, laid_out}
use Rattle.block_files.proofs.stores.Store.place.Goals as goal

pub returns-in-Some-clause-value : goal.returns-in-Some-clause-value
returns-in-Some-clause-value c =
    let i = c.self.inside in
    (c.place_in.ensures ∙ ap (λ xs. place_at xs c.args.block) c.as_slice.ensures.value) ∙ sym (place_in-file_of i.pages.items i.files.entries c.args.name.now c.args.block c.in-Some.body.now c.in-Some.ensures) ∙ ap (λ d. place_of d c.args.name.now c.args.block) c.self.view_is

pub returns-in-Some-clause-some : goal.returns-in-Some-clause-some
returns-in-Some-clause-some c =
    let i = c.self.inside in
    ap is_some (c.place_in.ensures ∙ ap (λ xs. place_at xs c.args.block) c.as_slice.ensures.value) ∙ is_block-file_of i.pages.items i.files.entries c.args.name.now c.in-Some.body.now c.args.block c.in-Some.ensures ∙ ap (λ d. is_block d.files c.args.name.now c.args.block) c.self.view_is

pub returns-in-Some-clause-laid_out : goal.returns-in-Some-clause-laid_out
returns-in-Some-clause-laid_out c =
    let i = c.self.inside in subst IsLaidOut c.self.view_is (laid_out i.pages.items i.free.items i.files.entries c.self.invariant.disk)

pub returns-in-None-clause-value : goal.returns-in-None-clause-value
returns-in-None-clause-value c =
    let i = c.self.inside in
    sym (place_in-none i.pages.items i.files.entries c.args.name.now c.args.block c.in-None.ensures) ∙ ap (λ d. place_of d c.args.name.now c.args.block) c.self.view_is

pub returns-in-None-clause-some : goal.returns-in-None-clause-some
returns-in-None-clause-some c =
    let i = c.self.inside in
    sym (ap is_some (page_at-none i.pages.items i.files.entries c.args.name.now c.args.block c.in-None.ensures)) ∙ ap (λ d. is_block d.files c.args.name.now c.args.block) c.self.view_is

pub returns-in-None-clause-laid_out : goal.returns-in-None-clause-laid_out
returns-in-None-clause-laid_out c =
    let i = c.self.inside in subst IsLaidOut c.self.view_is (laid_out i.pages.items i.free.items i.files.entries c.self.invariant.disk)

use Rattle.std.proofs.Common.{sym, ap, ◌∙◌, arith, get_or, []}
use Rattle.std.specs.Prelude.{is_some, option_map, vec_capacity}
use Rattle.monitor_model.specs.Files.{page_at, replace, with_page, the_file}
use Rattle.block_files.specs.Disks.{place_at}
use Rattle.block_files.specs.Rows.{files_of}
use Rattle.block_files.proofs.ReadLemmas.{page_at-none, page_at-file_of}
use Rattle.block_files.proofs.LayLemmas.{stored_below}
use Rattle.block_files.proofs.KeptLemmas.{kept_put, file_put_at}
use Rattle.block_files.proofs.stores.Store.put.Goals as goal

pub index_mut-requires : goal.index_mut-requires
index_mut-requires c =
    let i = c.self.inside in
    let at = c.in-Some-place_in.ensures ∙ ap (λ xs. place_at xs c.args.block) c.as_slice.ensures.value in
    let lt = stored_below i.pages.items i.free.items i.files.entries c.self.invariant.disk c.args.name.now c.in-Some.body.now c.args.block c.in-Some-place_in.place (sym c.in-Some.ensures) (sym at) in
    omega (arith, lt, i.pages.ok.0)

pub invariant_of-self : goal.invariant_of-self
invariant_of-self c =
    let i = c.self.inside in
    let at = c.in-Some-place_in.ensures ∙ ap (λ xs. place_at xs c.args.block) c.as_slice.ensures.value in
    kept_put i.pages.items i.free.items (vec_capacity i.free) i.files.entries c.self.invariant c.args.name.now c.in-Some.body.now c.args.block c.in-Some-place_in.place c.copy_from.new.self (sym c.in-Some.ensures) (sym at)

pub returns-in-Some-place_in-clause-files : goal.returns-in-Some-place_in-clause-files
returns-in-Some-place_in-clause-files c =
    let i = c.self.inside in
    let at = c.in-Some-place_in.ensures ∙ ap (λ xs. place_at xs c.args.block) c.as_slice.ensures.value in
    file_put_at i.pages.items i.free.items (vec_capacity i.free) i.files.entries c.self.invariant c.args.name.now c.in-Some.body.now c.args.block c.in-Some-place_in.place c.copy_from.new.self (sym c.in-Some.ensures) (sym at)
    ∙ ap (λ page. replace (files_of i.pages.items i.files.entries) c.args.name.now (with_page (the_file (files_of i.pages.items i.files.entries) c.args.name.now) c.args.block page)) c.copy_from.ensures
    ∙ ap (λ d. replace d.files c.args.name.now (with_page (the_file d.files c.args.name.now) c.args.block c.args.page.now)) c.self.view_is

pub returns-in_default-place_in-clause-files : goal.returns-in_default-place_in-clause-files
returns-in_default-place_in-clause-files c =
    let i = c.self.inside in
    let none = page_at-file_of i.pages.items i.files.entries c.args.name.now c.in-Some.body.now c.args.block c.in-Some.ensures ∙ sym (ap (option_map (λ p. get_or i.pages.items p [])) (c.in_default-place_in.ensures ∙ ap (λ xs. place_at xs c.args.block) c.as_slice.ensures.value)) in
    absurd (let clash = ap is_some (sym none ∙ ap (λ d. page_at d.files c.args.name.now c.args.block) c.self.view_is) ∙ c.requires in cc)

pub returns-in_default-clause-files : goal.returns-in_default-clause-files
returns-in_default-clause-files c =
    let i = c.self.inside in
    let none = page_at-none i.pages.items i.files.entries c.args.name.now c.args.block c.in_default.ensures in
    absurd (let clash = ap is_some (sym none ∙ ap (λ d. page_at d.files c.args.name.now c.args.block) c.self.view_is) ∙ c.requires in cc)

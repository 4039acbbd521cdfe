use Rattle.std.proofs.Common.{get_or, Some, sym, ap, ◌∙◌, arith, []}
use Rattle.std.proofs.lemmas.List.{get_or_read}
use Rattle.std.specs.Prelude.{is_some, option_map}
use Rattle.monitor_model.specs.Files.{page_at}
use Rattle.block_files.specs.Disks.{place_at}
use Rattle.block_files.proofs.ReadLemmas.{page_at-none, page_at-file_of}
use Rattle.block_files.proofs.LayLemmas.{stored_below}
use Rattle.block_files.proofs.stores.Store.copy_block.Goals as goal

pub index-requires : goal.index-requires
index-requires c =
    let i = c.self.inside in
    let at = c.in-Some-place_in.ensures ∙ ap (λ xs. place_at xs c.args.block) c.as_slice.ensures.value in
    let lt = stored_below i.pages.items i.free.items i.files.entries c.self.invariant.disk c.args.name.now c.in-Some.body.now c.args.block c.in-Some-place_in.place (sym c.in-Some.ensures) (sym at) in
    omega (arith, lt, i.pages.ok.0)

pub returns-in-Some-place_in : goal.returns-in-Some-place_in
returns-in-Some-place_in c =
    let i = c.self.inside in
    let at = c.in-Some-place_in.ensures ∙ ap (λ xs. place_at xs c.args.block) c.as_slice.ensures.value in
    ap (λ d. page_at d.files c.args.name.now c.args.block) (sym c.self.view_is) ∙ page_at-file_of i.pages.items i.files.entries c.args.name.now c.in-Some.body.now c.args.block c.in-Some.ensures ∙ sym (ap (option_map (λ p. get_or i.pages.items p [])) at) ∙ ap Some (sym (c.copy_from.ensures ∙ get_or_read i.pages.items c.in-Some-place_in.place c.index.result.now (omega (arith, stored_below i.pages.items i.free.items i.files.entries c.self.invariant.disk c.args.name.now c.in-Some.body.now c.args.block c.in-Some-place_in.place (sym c.in-Some.ensures) (sym at))) c.index.ensures []))

pub returns-in_default-place_in : goal.returns-in_default-place_in
returns-in_default-place_in c =
    let i = c.self.inside in
    let none = page_at-file_of i.pages.items i.files.entries c.args.name.now c.in-Some.body.now c.args.block c.in-Some.ensures ∙ sym (ap (option_map (λ p. get_or i.pages.items p [])) (c.in_default-place_in.ensures ∙ ap (λ xs. place_at xs c.args.block) c.as_slice.ensures.value)) in
    absurd (let clash = ap is_some (sym none ∙ ap (λ d. page_at d.files c.args.name.now c.args.block) c.self.view_is) ∙ c.requires in cc)

pub returns-in_default : goal.returns-in_default
returns-in_default c =
    let i = c.self.inside in
    let none = page_at-none i.pages.items i.files.entries c.args.name.now c.args.block c.in_default.ensures in
    absurd (let clash = ap is_some (sym none ∙ ap (λ d. page_at d.files c.args.name.now c.args.block) c.self.view_is) ∙ c.requires in cc)

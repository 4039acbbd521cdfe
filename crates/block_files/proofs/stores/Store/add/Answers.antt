use Rattle.std.proofs.Common.{refl, sym, ap, ◌∙◌, subst}
use Rattle.std.specs.Prelude.{vec_capacity}
use Rattle.monitor_model.specs.Files.{is_file, make, empty_file}
use Rattle.block_files.specs.Rows.{IsKept, body_at, files_of}
use Rattle.block_files.proofs.ReadLemmas.{no_body}
use Rattle.block_files.proofs.KeptLemmas.{kept_made, file_made}
use Rattle.block_files.proofs.stores.Store.add.Goals as goal

pub put_last-requires-clause-fresh : goal.put_last-requires-clause-fresh
put_last-requires-clause-fresh c =
    let i = c.self.inside in
    ap (λ es. body_at es c.args.name) c.in_ok-make_room.ensures.entries ∙ no_body i.pages.items i.files.entries c.args.name (ap (λ d. is_file d.files c.args.name) c.self.view_is ∙ c.requires)

pub invariant_of-self-2 : goal.invariant_of-self-2
invariant_of-self-2 c =
    let i = c.self.inside in
    let k = subst (λ es. IsKept i.pages.items i.free.items (vec_capacity i.free) es) (sym c.in_ok-make_room.ensures.entries) c.self.invariant in
    subst (λ es. IsKept i.pages.items i.free.items (vec_capacity i.free) es) (sym c.put_last.ensures) (kept_made i.pages.items i.free.items (vec_capacity i.free) c.make_room.new.files.entries k c.args.name _ (ap (λ es. body_at es c.args.name) c.in_ok-make_room.ensures.entries ∙ no_body i.pages.items i.files.entries c.args.name (ap (λ d. is_file d.files c.args.name) c.self.view_is ∙ c.requires)) c.new-places.ensures.items)

pub returns-clause-ok : goal.returns-clause-ok
returns-clause-ok c =
    let i = c.self.inside in
    ap (files_of i.pages.items) c.put_last.ensures ∙ file_made i.pages.items c.make_room.new.files.entries c.args.name _ c.args.code c.new-places.ensures.items refl ∙ ap (λ es. make (files_of i.pages.items es) (empty_file c.args.name c.args.code)) c.in_ok-make_room.ensures.entries ∙ ap (λ d. make d.files (empty_file c.args.name c.args.code)) c.self.view_is

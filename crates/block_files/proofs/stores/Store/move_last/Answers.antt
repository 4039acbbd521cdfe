use Rattle.std.proofs.Common.{◌≡◌, [], ◌∷◌, ◌++◌, refl, sym, ap, ◌∙◌, subst}
use Rattle.std.specs.Prelude.{is_some, not, ◌&&◌, vec_capacity}
use Rattle.monitor_calls.specs.FileNames.{same_name}
use Rattle.block_files.specs.declared.bodies.FileBody.{FileBody}
use Rattle.monitor_model.specs.Files.{is_file, the_file, renamed, remove, make}
use Rattle.block_files.specs.Rows.{IsKept, files_of, body_at, without}
use Rattle.block_files.proofs.ReadLemmas.{is_body}
use Rattle.block_files.proofs.KeptLemmas.{fresh, kept_moved, file_moved}
use Rattle.block_files.proofs.stores.Store.move_last.Goals as goal

pub put_last-requires-clause-fresh : goal.put_last-requires-clause-fresh
put_last-requires-clause-fresh c =
    let i = c.self.inside in
    ap (λ es. body_at es c.args.new) (c.take_out.ensures.entries ∙ ap (λ es. without es c.args.old.now) c.in_ok-make_room.ensures.entries) ∙ fresh i.pages.items i.free.items (vec_capacity i.free) i.files.entries c.self.invariant c.args.old.now c.args.new (ap (λ d. is_file d.files c.args.new && not (same_name c.args.new c.args.old.now)) c.self.view_is ∙ c.requires.fresh)

pub invariant_of-self-in-Some : goal.invariant_of-self-in-Some
invariant_of-self-in-Some c =
    let i = c.self.inside in
    let v = c.in-Some.body in
    let w : FileBody = record { code = c.args.code; places = v.places } in
    let there = ap (λ es. body_at es c.args.old.now) (sym c.in_ok-make_room.ensures.entries) ∙ sym c.in-Some.ensures.value in
    let none = fresh i.pages.items i.free.items (vec_capacity i.free) i.files.entries c.self.invariant c.args.old.now c.args.new (ap (λ d. is_file d.files c.args.new && not (same_name c.args.new c.args.old.now)) c.self.view_is ∙ c.requires.fresh) in
    let entries : c.put_last.new.files.entries ≡ without i.files.entries c.args.old.now ++ (c.args.new, w) ∷ [] = c.put_last.ensures ∙ ap (λ es. es ++ (c.args.new, w) ∷ []) (c.take_out.ensures.entries ∙ ap (λ es. without es c.args.old.now) c.in_ok-make_room.ensures.entries) in
    subst (λ es. IsKept i.pages.items i.free.items (vec_capacity i.free) es) (sym entries) (kept_moved i.pages.items i.free.items (vec_capacity i.free) i.files.entries c.self.invariant c.args.old.now c.args.new v w there none refl)

pub returns-in-Some-clause-ok : goal.returns-in-Some-clause-ok
returns-in-Some-clause-ok c =
    let i = c.self.inside in
    let v = c.in-Some.body in
    let w : FileBody = record { code = c.args.code; places = v.places } in
    let there = ap (λ es. body_at es c.args.old.now) (sym c.in_ok-make_room.ensures.entries) ∙ sym c.in-Some.ensures.value in
    let entries : c.put_last.new.files.entries ≡ without i.files.entries c.args.old.now ++ (c.args.new, w) ∷ [] = c.put_last.ensures ∙ ap (λ es. es ++ (c.args.new, w) ∷ []) (c.take_out.ensures.entries ∙ ap (λ es. without es c.args.old.now) c.in_ok-make_room.ensures.entries) in
    ap (files_of i.pages.items) entries ∙ file_moved i.pages.items i.files.entries c.args.old.now c.args.new v w c.args.code there refl refl ∙ ap (λ d. make (remove d.files c.args.old.now) (renamed (the_file d.files c.args.old.now) c.args.new c.args.code)) c.self.view_is

pub invariant_of-self-in_default : goal.invariant_of-self-in_default
invariant_of-self-in_default c =
    let i = c.self.inside in
    let none = ap (λ es. body_at es c.args.old.now) (sym c.in_ok-make_room.ensures.entries) ∙ sym c.in_default.ensures.value in
    absurd (let clash = ap is_some (sym none) ∙ is_body i.pages.items i.files.entries c.args.old.now ∙ ap (λ d. is_file d.files c.args.old.now) c.self.view_is ∙ c.requires.there in cc)

pub returns-in_default-clause-ok : goal.returns-in_default-clause-ok
returns-in_default-clause-ok c =
    let i = c.self.inside in
    let none = ap (λ es. body_at es c.args.old.now) (sym c.in_ok-make_room.ensures.entries) ∙ sym c.in_default.ensures.value in
    absurd (let clash = ap is_some (sym none) ∙ is_body i.pages.items i.files.entries c.args.old.now ∙ ap (λ d. is_file d.files c.args.old.now) c.self.view_is ∙ c.requires.there in cc)

use Rattle.std.proofs.Common.{◌≡◌, [], ◌∷◌, ◌++◌, cond, refl, sym, ap, ◌∙◌, subst, arith}
use Rattle.std.specs.Prelude.{is_some, vec_capacity}
use Rattle.block_files.specs.declared.bodies.FileBody.{FileBody}
use Rattle.monitor_model.specs.Files.{is_file, remove, make, empty_file}
use Rattle.block_files.specs.Rows.{IsKept, files_of, body_at, without}
use Rattle.block_files.proofs.RowLemmas.{remove-file_of}
use Rattle.block_files.proofs.ReadLemmas.{is_body}
use Rattle.block_files.proofs.KeptLemmas.{free_room, kept_taken, kept_made, kept_gone, file_made, is_ok_true}
use Rattle.block_files.proofs.stores.Store.make_anew.Goals as goal

pub put_last-requires-clause-fresh : goal.put_last-requires-clause-fresh
put_last-requires-clause-fresh c =
    let i = c.self.inside in
    ap (λ es. body_at es c.args.name.now) (c.take_out.ensures.entries ∙ ap (λ es. without es c.args.name.now) c.in_ok-make_room.ensures.entries) ∙ kept_gone i.pages.items i.free.items (vec_capacity i.free) i.files.entries c.self.invariant c.args.name.now

pub invariant_of-self-in-Some : goal.invariant_of-self-in-Some
invariant_of-self-in-Some c =
    let i = c.self.inside in
    let v = c.in-Some.body in
    let w : FileBody = record { code = c.args.code; places = c.clear.new.self } in
    let room = vec_capacity c.extend_from_slice.new.self in
    let there = ap (λ es. body_at es c.args.name.now) (sym c.in_ok-make_room.ensures.entries) ∙ sym c.in-Some.ensures.value in
    let done = is_ok_true c.extend_from_slice.result (c.extend_from_slice.ensures.succeeds (omega (arith, free_room i.pages.items i.free.items (vec_capacity i.free) i.files.entries c.self.invariant c.args.name.now v there, i.free.ok.0, c.as_slice.ensures.len, v.places.ok.0))) in
    let items : c.extend_from_slice.new.self.items ≡ i.free.items ++ v.places.items = c.extend_from_slice.ensures.items ∙ ap (λ b. cond b (i.free.items ++ c.as_slice.result.now) i.free.items) done ∙ ap (λ xs. i.free.items ++ xs) c.as_slice.ensures.value in
    let taken = kept_taken i.pages.items i.free.items (vec_capacity i.free) i.files.entries c.self.invariant c.args.name.now v room c.extend_from_slice.ensures.capacity there in
    let made = kept_made i.pages.items (i.free.items ++ v.places.items) room (without i.files.entries c.args.name.now) taken c.args.name.now w (kept_gone i.pages.items i.free.items (vec_capacity i.free) i.files.entries c.self.invariant c.args.name.now) c.clear.ensures.items in
    let entries : c.put_last.new.files.entries ≡ without i.files.entries c.args.name.now ++ (c.args.name.now, w) ∷ [] = c.put_last.ensures ∙ ap (λ es. es ++ (c.args.name.now, w) ∷ []) (c.take_out.ensures.entries ∙ ap (λ es. without es c.args.name.now) c.in_ok-make_room.ensures.entries) in
    subst (λ es. IsKept i.pages.items c.extend_from_slice.new.self.items room es) (sym entries)
    (subst (λ xs. IsKept i.pages.items xs room (without i.files.entries c.args.name.now ++ (c.args.name.now, w) ∷ [])) (sym items) made)

pub returns-in-Some-clause-ok : goal.returns-in-Some-clause-ok
returns-in-Some-clause-ok c =
    let i = c.self.inside in
    let w : FileBody = record { code = c.args.code; places = c.clear.new.self } in
    let entries : c.put_last.new.files.entries ≡ without i.files.entries c.args.name.now ++ (c.args.name.now, w) ∷ [] = c.put_last.ensures ∙ ap (λ es. es ++ (c.args.name.now, w) ∷ []) (c.take_out.ensures.entries ∙ ap (λ es. without es c.args.name.now) c.in_ok-make_room.ensures.entries) in
    ap (files_of i.pages.items) entries ∙ file_made i.pages.items (without i.files.entries c.args.name.now) c.args.name.now w c.args.code c.clear.ensures.items refl ∙ ap (λ fs. make fs (empty_file c.args.name.now c.args.code)) (remove-file_of i.pages.items i.files.entries c.args.name.now ∙ ap (λ d. remove d.files c.args.name.now) c.self.view_is)

pub invariant_of-self-in_default : goal.invariant_of-self-in_default
invariant_of-self-in_default c =
    let i = c.self.inside in
    let none = ap (λ es. body_at es c.args.name.now) (sym c.in_ok-make_room.ensures.entries) ∙ sym c.in_default.ensures.value in
    absurd (let clash = ap is_some (sym none) ∙ is_body i.pages.items i.files.entries c.args.name.now ∙ ap (λ d. is_file d.files c.args.name.now) c.self.view_is ∙ c.requires in cc)

pub returns-in_default-clause-ok : goal.returns-in_default-clause-ok
returns-in_default-clause-ok c =
    let i = c.self.inside in
    let none = ap (λ es. body_at es c.args.name.now) (sym c.in_ok-make_room.ensures.entries) ∙ sym c.in_default.ensures.value in
    absurd (let clash = ap is_some (sym none) ∙ is_body i.pages.items i.files.entries c.args.name.now ∙ ap (λ d. is_file d.files c.args.name.now) c.self.view_is ∙ c.requires in cc)

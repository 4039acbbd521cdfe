use Rattle.std.proofs.Common.{◌≡◌, ◌++◌, cond, sym, ap, ◌∙◌, subst, arith}
use Rattle.std.specs.Prelude.{vec_capacity}
use Rattle.monitor_model.specs.Files.{remove}
use Rattle.block_files.specs.Rows.{IsKept, files_of, without}
use Rattle.block_files.proofs.RowLemmas.{remove-file_of}
use Rattle.block_files.proofs.KeptLemmas.{free_room, kept_taken, kept_absent, is_ok_true}
use Rattle.block_files.proofs.stores.Store.take.Goals as goal

pub invariant_of-self : goal.invariant_of-self
invariant_of-self c =
    let i = c.self.inside in
    let v = c.in-Some.body in
    let done = is_ok_true c.extend_from_slice.result (c.extend_from_slice.ensures.succeeds (omega (arith, free_room i.pages.items i.free.items (vec_capacity i.free) i.files.entries c.self.invariant c.args.name.now v (sym c.in-Some.ensures.value), i.free.ok.0, c.as_slice.ensures.len, v.places.ok.0))) in
    let items : c.extend_from_slice.new.self.items ≡ i.free.items ++ v.places.items = c.extend_from_slice.ensures.items ∙ ap (λ b. cond b (i.free.items ++ c.as_slice.result.now) i.free.items) done ∙ ap (λ xs. i.free.items ++ xs) c.as_slice.ensures.value in
    subst (λ es. IsKept i.pages.items c.extend_from_slice.new.self.items (vec_capacity c.extend_from_slice.new.self) es) (sym c.take_out.ensures.entries)
    (subst (λ xs. IsKept i.pages.items xs (vec_capacity c.extend_from_slice.new.self) (without i.files.entries c.args.name.now)) (sym items) (kept_taken i.pages.items i.free.items (vec_capacity i.free) i.files.entries c.self.invariant c.args.name.now v (vec_capacity c.extend_from_slice.new.self) c.extend_from_slice.ensures.capacity (sym c.in-Some.ensures.value)))

pub invariant_of-self-in_default : goal.invariant_of-self-in_default
invariant_of-self-in_default c =
    let i = c.self.inside in
    subst (λ es. IsKept i.pages.items i.free.items (vec_capacity i.free) es) (sym c.take_out.ensures.entries) (kept_absent i.pages.items i.free.items (vec_capacity i.free) i.files.entries c.self.invariant c.args.name.now (sym c.in_default.ensures.value))

pub returns-in-Some-clause-files : goal.returns-in-Some-clause-files
returns-in-Some-clause-files c =
    let i = c.self.inside in
    ap (files_of i.pages.items) c.take_out.ensures.entries ∙ remove-file_of i.pages.items i.files.entries c.args.name.now ∙ ap (λ d. remove d.files c.args.name.now) c.self.view_is

pub returns-in_default-clause-files : goal.returns-in_default-clause-files
returns-in_default-clause-files c =
    let i = c.self.inside in
    ap (files_of i.pages.items) c.take_out.ensures.entries ∙ remove-file_of i.pages.items i.files.entries c.args.name.now ∙ ap (λ d. remove d.files c.args.name.now) c.self.view_is

use Rattle.std.proofs.Common.{◌≡◌, ℕ, ◌-◌, ◌≤◌, List, ◌++◌, length, take, drop, sym, ap, ◌∙◌, subst, arith, Result, Ok, Err}
use Rattle.std.specs.Prelude.{vec_capacity, OnErr}
use Rattle.std.proofs.lemmas.List.{take_rest, length-drop}
use Rattle.monitor_model.specs.Files.{is_file, the_file, replace, grown}
use Rattle.block_files.specs.Disks.{times}
use Rattle.block_files.specs.Rows.{Grows, files_of, disk_of, cleared}
use Rattle.block_files.proofs.RowLemmas.{length-cleared, count_drop}
use Rattle.block_files.proofs.ReadLemmas.{is_body}
use Rattle.block_files.proofs.DiskLemmas.{free_below, files_grown}
use Rattle.block_files.proofs.KeptLemmas.{kept_grown_as, kept_same, whole_slice}
use Rattle.block_files.proofs.stores.Store.grow.Goals as goal

pub add_places-requires : goal.add_places-requires
add_places-requires c =
    let i = c.self.inside in is_body i.pages.items i.files.entries c.args.name.now ∙ ap (λ d. is_file d.files c.args.name.now) c.self.view_is ∙ c.requires.there

pub invariant_of-self : goal.invariant_of-self
invariant_of-self c =
    let i = c.self.inside in
    (kept_same i.pages.items i.free.items (vec_capacity i.free) i.files.entries c.self.invariant c.args.name.now c.add_places.new.files.entries c.in_err-add_places.ensures.err).0

on_err : {T E : Type 0} (r : Result T E) (P : Type 0) → P → OnErr r P
on_err (Ok x) P p = tt
on_err (Err x) P p = p

pub returns-in_err-add_places-clause-err : goal.returns-in_err-add_places-clause-err
returns-in_err-add_places-clause-err c =
    let i = c.self.inside in
    on_err c.from_residual.result (disk_of i.pages.items i.free.items c.add_places.new.files.entries ≡ c.args.self.now)
    ((kept_same i.pages.items i.free.items (vec_capacity i.free) i.files.entries c.self.invariant c.args.name.now c.add_places.new.files.entries c.in_err-add_places.ensures.err).1 ∙ c.self.view_is)

pub clear_pages-requires : goal.clear_pages-requires
clear_pages-requires c =
    let i = c.self.inside in
    let from = c.len.result - c.args.more in
    let slice : take (length c.deref.result.now - from) (drop from c.deref.result.now) ≡ drop from i.free.items = take_rest c.deref.result.now from ∙ ap (drop from) c.deref.ensures.value in
    λ p h.
    let h2 : 1 ≤ times p (drop from i.free.items) = subst (λ xs. 1 ≤ times p xs) slice h in
    let lt = free_below i.pages.items i.free.items i.files.entries c.self.invariant.disk p (omega (arith, h2, count_drop from i.free.items p)) in
    omega (arith, lt, ap (length {A = List ℕ}) c.as_mut_slice.ensures.value)

pub invariant_of-self-2 : goal.invariant_of-self-2
invariant_of-self-2 c =
    let i = c.self.inside in
    let from = c.len.result - c.args.more in
    let slice : take (length c.deref.result.now - from) (drop from c.deref.result.now) ≡ drop from i.free.items = take_rest c.deref.result.now from ∙ ap (drop from) c.deref.ensures.value in
    let clear : c.clear_pages.new.pages ≡ cleared i.pages.items (drop from i.free.items) = c.clear_pages.ensures ∙ (λ j. cleared (c.as_mut_slice.ensures.value j) (slice j)) in
    let len : length c.clear_pages.new.pages ≡ length i.pages.items = ap (length {A = List ℕ}) clear ∙ length-cleared i.pages.items (drop from i.free.items) in
    let whole = whole_slice c.clear_pages.new.pages i.pages.items i.pages.len len i.pages.ok.0 ∙ clear in
    let g = subst (λ xs. Grows c.args.name.now xs i.files.entries c.add_places.new.files.entries) slice c.in_ok-add_places.ensures.ok in
    kept_grown_as i.pages.items i.free.items (vec_capacity i.free) i.files.entries c.self.invariant c.args.name.now c.add_places.new.files.entries from (take i.pages.len (c.clear_pages.new.pages ++ drop (length c.clear_pages.new.pages) i.pages.items)) c.truncate.new.self.items (vec_capacity c.truncate.new.self) g whole c.truncate.ensures.items c.truncate.ensures.capacity

pub returns-clause-ok : goal.returns-clause-ok
returns-clause-ok c =
    let i = c.self.inside in
    let from = c.len.result - c.args.more in
    let slice : take (length c.deref.result.now - from) (drop from c.deref.result.now) ≡ drop from i.free.items = take_rest c.deref.result.now from ∙ ap (drop from) c.deref.ensures.value in
    let clear : c.clear_pages.new.pages ≡ cleared i.pages.items (drop from i.free.items) = c.clear_pages.ensures ∙ (λ j. cleared (c.as_mut_slice.ensures.value j) (slice j)) in
    let len : length c.clear_pages.new.pages ≡ length i.pages.items = ap (length {A = List ℕ}) clear ∙ length-cleared i.pages.items (drop from i.free.items) in
    let whole = whole_slice c.clear_pages.new.pages i.pages.items i.pages.len len i.pages.ok.0 ∙ clear in
    let g = subst (λ xs. Grows c.args.name.now xs i.files.entries c.add_places.new.files.entries) slice c.in_ok-add_places.ensures.ok in
    let enough : c.args.more ≤ length i.free.items = subst (λ d. c.args.more ≤ length d.free) (sym c.self.view_is) c.requires.enough in
    let times : length (drop from i.free.items) ≡ c.args.more = omega (arith, enough, c.len.ensures, i.free.ok.0, length-drop from i.free.items) in
    ap (λ ps. files_of ps c.add_places.new.files.entries) whole ∙ files_grown i.pages.items i.free.items i.files.entries c.self.invariant.disk c.args.name.now c.add_places.new.files.entries from g ∙ ap (λ n. replace (files_of i.pages.items i.files.entries) c.args.name.now (grown (the_file (files_of i.pages.items i.files.entries) c.args.name.now) n)) times ∙ ap (λ d. replace d.files c.args.name.now (grown (the_file d.files c.args.name.now) c.args.more)) c.self.view_is

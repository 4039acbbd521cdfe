use Rattle.std.proofs.Common.{◌<◌, length, slice_set, Result, Ok, Err, ap, ◌∙◌, arith}
use Rattle.std.specs.Prelude.{IfOk, OnOk, OnErr}
use Rattle.std.specs.BTreeMap.{insert_entry}
use Rattle.std.specs.Map.{lookup}
use Rattle.job_memory.specs.Names.{name_cmp, at_name}
use Rattle.job_memory.proofs.SlotLemmas.{lookup-row, sorted-entries_of, entries_of-same, entries_of-same_row, entries_of-insert}
use Rattle.job_memory.proofs.slots.Slots.insert.Goals as goal

on_err : {A E P : Type 0} (r : Result A E) → P → OnErr r P
on_err (Ok done) p = tt
on_err (Err e) p = p

err_then : {A E P Q : Type 0} (r : Result A E) → (P → Q) → OnErr r P → OnErr r Q
err_then (Ok done) f p = p
err_then (Err e) f p = f p

ok_then : {A E P Q : Type 0} (r : Result A E) → (P → Q) → OnOk r P → OnOk r Q
ok_then (Ok done) f p = f p
ok_then (Err e) f p = p

if_ok_then : {A E : Type 0} (P Q : A → Type 0) (r : Result A E) → ((a : A) → P a → Q a) → IfOk r P → IfOk r Q
if_ok_then P Q (Ok a) f p = f a p
if_ok_then P Q (Err e) f p = p

pub returns-in_err-reach_row-clause-err : goal.returns-in_err-reach_row-clause-err
returns-in_err-reach_row-clause-err g c =
    on_err c.from_residual.result (entries_of-same c.self.inside.rows.items c.reach_row.new.rows.items c.reach_row.ensures.same ∙ c.self.view_is)

pub returns-in_err-reach_row-clause-ordered : goal.returns-in_err-reach_row-clause-ordered
returns-in_err-reach_row-clause-ordered g c = sorted-entries_of c.reach_row.new.rows.items

pub returns-clause-old : goal.returns-clause-old
returns-clause-old g c =
    let rows = c.reach_row.new.rows.items in
    let inside : c.from-letter.result < length rows = omega (arith, c.in_ok-reach_row.ensures.reaches, c.reach_row.new.rows.ok.0) in
    let same = entries_of-same c.self.inside.rows.items rows c.reach_row.ensures.same ∙ c.self.view_is in
    if_ok_then _ _ c.insert.result
    (λ old is. lookup-row c.args.name rows c.index_mut.result.now c.from-letter.result c.slot_of.result old c.from-letter.ensures c.slot_of.ensures inside c.index_mut.ensures.value is ∙ ap (lookup (at_name c.args.name)) same)
    c.insert.ensures.old

pub returns-clause-entries : goal.returns-clause-entries
returns-clause-entries g c =
    let rows = c.reach_row.new.rows.items in
    let inside : c.from-letter.result < length rows = omega (arith, c.in_ok-reach_row.ensures.reaches, c.reach_row.new.rows.ok.0) in
    let same = entries_of-same c.self.inside.rows.items rows c.reach_row.ensures.same ∙ c.self.view_is in
    ok_then c.insert.result
    (λ holds. entries_of-insert rows c.index_mut.result.now c.insert.new.self c.from-letter.result inside c.index_mut.ensures.value c.args.name c.slot_of.result c.args.value c.from-letter.ensures c.slot_of.ensures holds ∙ ap (λ es. insert_entry name_cmp es c.args.name c.args.value) same)
    c.insert.ensures.stores

pub returns-clause-err : goal.returns-clause-err
returns-clause-err g c =
    let rows = c.reach_row.new.rows.items in
    let inside : c.from-letter.result < length rows = omega (arith, c.in_ok-reach_row.ensures.reaches, c.reach_row.new.rows.ok.0) in
    err_then c.insert.result
    (λ kept. entries_of-same_row rows c.index_mut.result.now c.insert.new.self c.from-letter.result inside c.index_mut.ensures.value kept ∙ entries_of-same c.self.inside.rows.items rows c.reach_row.ensures.same ∙ c.self.view_is)
    c.insert.ensures.refused

pub returns-clause-ordered : goal.returns-clause-ordered
returns-clause-ordered g c = sorted-entries_of (slice_set c.reach_row.new.rows.items c.from-letter.result c.insert.new.self)

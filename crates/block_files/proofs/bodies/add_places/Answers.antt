use Rattle.std.proofs.Common.{Result, Ok, Err, ◌≡◌, ◌∙◌, refl, sym, ap, None, []}
use Rattle.std.proofs.lemmas.List.{append-nil}
use Rattle.std.specs.Prelude.{is_some, OnErr}
use Rattle.block_files.specs.Rows.{Grows, body_at}
use Rattle.block_files.specs.declared.bodies.FileBody.{FileBody}
use Rattle.block_files.proofs.KeyLemmas.{lookup-key, set_value-key}
use Rattle.block_files.proofs.bodies.add_places.Goals as goal

pub returns-in_ok-extend_from_slice-clause-ok : goal.returns-in_ok-extend_from_slice-clause-ok
returns-in_ok-extend_from_slice-clause-ok c =
    let w : FileBody = record { code = c.in-Some.body.now.code; places = c.extend_from_slice.new.self } in
    record {
      was = c.in-Some.body.now;
      there = sym (lookup-key c.args.name.now c.args.files.now.entries) ∙ sym c.in-Some.ensures.value;
      now = w;
      entries = (c.get_mut.follows.holds w).0 ∙ set_value-key c.args.name.now w c.args.files.now.entries;
      code = refl;
      places = c.in_ok-extend_from_slice.ensures.items;
    }

on_err : {T E : Type 0} (r : Result T E) (P : Type 0) → P → OnErr r P
on_err (Ok x) P p = tt
on_err (Err x) P p = p

pub returns-in_err-extend_from_slice-clause-err : goal.returns-in_err-extend_from_slice-clause-err
returns-in_err-extend_from_slice-clause-err c =
    let w : FileBody = record { code = c.in-Some.body.now.code; places = c.extend_from_slice.new.self } in
    on_err c.from_residual.result (Grows c.args.name.now [] c.args.files.now.entries (c.get_mut.follows.lender w).entries)
    (record {
      was = c.in-Some.body.now;
      there = sym (lookup-key c.args.name.now c.args.files.now.entries) ∙ sym c.in-Some.ensures.value;
      now = w;
      entries = (c.get_mut.follows.holds w).0 ∙ set_value-key c.args.name.now w c.args.files.now.entries;
      code = refl;
      places = c.in_err-extend_from_slice.ensures.items ∙ sym (append-nil c.in-Some.body.now.places.items);
    })

pub returns-in_default-clause-ok : goal.returns-in_default-clause-ok
returns-in_default-clause-ok c =
    let none : body_at c.args.files.now.entries c.args.name.now ≡ None = sym (lookup-key c.args.name.now c.args.files.now.entries) ∙ sym c.in_default.ensures.value in
    absurd (let clash = sym (ap is_some none) ∙ c.requires in cc)

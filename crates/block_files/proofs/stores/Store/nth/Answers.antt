use Rattle.std.proofs.Common.{◌+◌, ◌<◌, length, drop, sym, ap, ◌∙◌, arith}
use Rattle.std.specs.Prelude.{option_map}
use Rattle.monitor_model.specs.Files.{nth_of}
use Rattle.block_files.specs.Rows.{nth_name}
use Rattle.block_files.proofs.NthLemmas.{nth_here, nth_later, nth_other, nth_end, nth_shown}
use Rattle.block_files.proofs.stores.Store.nth.Goals as goal
use Rattle.block_files.proofs.stores.Store.nth.Goals.{in-Some+then-eq+else-left-eq0, in-Some+else-eq, in_default}

pub returns-then-left-eq0 : goal.returns-then-left-eq0
returns-then-left-eq0 c =
    let i = c.self.inside in
    sym (nth_here i.files.entries c.args.owner c.loop-place.place c.in-Some.name.now c.in-Some.field-0-1.now c.loop-place.left c.in-Some.ensures.entry (sym c.eq.ensures ∙ c.if-eq.true) c.if-left-eq0.true) ∙ c.loop-place.invariant ∙ nth_shown i.pages.items i.files.entries c.args.owner c.args.index ∙ ap (λ d. option_map (λ file. file.name) (nth_of d.files c.args.owner c.args.index)) c.self.view_is

pub loop-place-preserved : goal.loop-place-preserved
loop-place-preserved c =
    let es = c.self.inside.files.entries in
    elim c.match-get_index.branch [
      | in-Some+then-eq+else-left-eq0 w ↦ sym (nth_later es c.args.owner c.loop-place.place w.in-Some.name.now w.in-Some.field-0-1.now c.loop-place.left c.match-get_index.left w.in-Some.ensures.entry (sym w.eq.ensures ∙ w.if-eq.true) w.if-left-eq0.false w.left-is) ∙ c.loop-place.invariant
      | in-Some+else-eq w ↦ ap (λ n. nth_name (drop (c.loop-place.place + 1) es) c.args.owner n) w.left-is ∙ sym (nth_other es c.args.owner c.loop-place.place w.in-Some.name.now w.in-Some.field-0-1.now c.loop-place.left w.in-Some.ensures.entry (sym w.eq.ensures ∙ w.if-eq.false)) ∙ c.loop-place.invariant
      | in_default w ↦ absurd (let within : c.loop-place.place < length es = omega (arith, c.loop-place-test.true, c.len-place-end.ensures.len) in let found = w.in_default.ensures.found.1 within in cc)
    ]

pub returns : goal.returns
returns c =
    let i = c.self.inside in
    sym (nth_end i.files.entries c.args.owner c.loop-place.place c.loop-place.left (omega (arith, c.len-place-end.ensures.len))) ∙ c.loop-place.invariant ∙ nth_shown i.pages.items i.files.entries c.args.owner c.args.index ∙ ap (λ d. option_map (λ file. file.name) (nth_of d.files c.args.owner c.args.index)) c.self.view_is

use Rattle.std.proofs.Common.{◌≡◌, ℕ, ◌+◌, ◌<◌, ◌++◌, List, length, drop, ap, subst, sym, ◌∙◌, arith}
use Rattle.std.specs.Prelude.{Option}
use Rattle.block_files.specs.Disks.{times, total}
use Rattle.block_files.specs.Rows.{rows}
use Rattle.block_files.specs.Slots.{entries_in, AreTakenOnce}
use Rattle.block_files.proofs.SlotLemmas.{row_once, rest_once, entry_more}
use Rattle.block_files.proofs.unmounting.entries_of.Goals as goal
use Rattle.block_files.proofs.unmounting.entries_of.Goals.{in-Some+in_ok-entry_of+in_ok-push, in_default}

pub entry_of-requires : goal.entry_of-requires
entry_of-requires c =
    let now = c.loop-place.slots in
    row_once now now now c.args.files.now.entries c.loop-place.place c.in-Some.name.now c.in-Some.body.now c.in-Some.ensures.entry c.loop-place.invariant.left

pub loop-place-preserved : goal.loop-place-preserved
loop-place-preserved c =
    let slots = c.args.slots.now in
    let now = c.loop-place.slots in
    let es = c.args.files.now.entries in
    let place = c.loop-place.place in
    elim c.match-get_index.branch [
      | in-Some+in_ok-entry_of+in_ok-push w ↦
          let made = w.in_ok-entry_of in
          let new = w.entry_of.new.slots in
          let name = w.in-Some.name.now in
          let body = w.in-Some.body.now in
          record {
            told = (λ i. (w.entries-is i).items ++ entries_in (w.slots-is i) (drop (place + 1) es))
                ∙ entry_more slots now new es place name body w.in-Some.ensures.entry c.loop-place.invariant.left made.ensures.others c.loop-place.entries.items w.push.new.self.items made.field-0 w.in_ok-push.ensures.items made.ensures.name made.ensures.code made.ensures.pages c.loop-place.invariant.told;
            left = subst (λ (s : List (Option (List ℕ))). AreTakenOnce s (λ p. total (times p) (rows (drop (place + 1) es)))) (sym w.slots-is)
                (rest_once slots now new es place name body w.in-Some.ensures.entry c.loop-place.invariant.left made.ensures.others);
          }
      | in_default w ↦ absurd (let within : place < length es = omega (arith, c.loop-place-test.true, c.len-place-end.ensures.len) in let found = w.in_default.ensures.found.1 within in cc)
    ]

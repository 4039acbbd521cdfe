use Rattle.std.proofs.Common.{◌≡◌, ◌+◌, ◌-◌, ◌∙◌, arith, rules}
use Rattle.record_fields.proofs.WrittenLemmas.{written_in_place}
use Rattle.record_fields.proofs.writing.write_from.Goals as goal
use borrow.Rule.Slice.PartMut.{put_mid}

pub returns : goal.returns
returns c =
    let start = c.min-start.result in
    let kept = c.min-kept.result in
    let width : start + kept - start ≡ kept = omega arith in
    (λ i. put_mid start (width i) c.args.target.now c.copy_from_slice.new.self) ∙ written_in_place start kept c.args.place c.args.bytes.now c.args.target.now c.copy_from_slice.new.self (search rules) (search rules) (search rules)

use Rattle.std.proofs.Common.{◌≡◌, ◌+◌, ◌-◌, drop, replicate, ap, ◌∙◌, arith, rules}
use Rattle.std.proofs.Math.Seq.{paste}
use Rattle.basic_values.specs.Texts.{space}
use Rattle.record_fields.proofs.ShiftLemmas.{shifted_right}
use borrow.Rule.Slice.PartMut.{put_mid}
use Rattle.record_fields.proofs.writing.shift_right.Goals as goal

pub returns : goal.returns
returns c =
    let kept = c.min-kept.result in
    let spaces = c.args.to.length - kept in
    let source = c.args.from.offset + (c.args.from.length - kept) in
    let width : c.args.to.offset + spaces - c.args.to.offset ≡ spaces = omega arith in
    let count : source + kept - source ≡ kept = omega arith in
    let moved = c.copy_within.ensures.after ∙ ap (paste c.args.buffer.now (c.args.to.offset + spaces) (drop source c.args.buffer.now)) count in
    let blank : c.fill.new.self ≡ replicate spaces space = search rules in
    (λ i. put_mid c.args.to.offset (width i) (moved i) (blank i)) ∙ shifted_right c.args.from c.args.to c.args.buffer.now kept (search rules) c.requires.from c.requires.to

use Rattle.std.proofs.Common.{◌≡◌, replicate}
use Rattle.record_fields.specs.declared.sizes.RecordSize.TheVariants.{One}
use Rattle.record_fields.specs.Buffers.{blank}
use Rattle.record_fields.proofs.buffers.Buffers.new.Given as goal

abbrev pub invariant-loop-made : goal.invariant-loop-made
invariant-loop-made l = l.buffers.items ≡ replicate l.made (blank One)

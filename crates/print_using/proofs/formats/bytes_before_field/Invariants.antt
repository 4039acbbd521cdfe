use Rattle.std.proofs.Common.{◌≡◌, ◌+◌, drop}
use Rattle.print_using.specs.FormatFronts.{bytes_before_field}
use Rattle.print_using.proofs.formats.bytes_before_field.Given as goal

abbrev pub invariant-loop-place : goal.invariant-loop-place
invariant-loop-place l = bytes_before_field l.format ≡ l.place + bytes_before_field (drop l.place l.format)

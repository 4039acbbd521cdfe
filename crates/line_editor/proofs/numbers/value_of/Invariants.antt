use Rattle.std.proofs.Common.{◌≡◌, take}
use Rattle.std.specs.Prelude.{min}
use Rattle.std.specs.Str.Parse.{digits_value}
use Rattle.line_editor.specs.declared.numbers.TheConstants.{TOO_GREAT}
use Rattle.line_editor.proofs.numbers.value_of.Given as goal

abbrev pub invariant-loop-digit : goal.invariant-loop-digit
invariant-loop-digit l = l.value ≡ min (digits_value 10 (take l.digit-index l.digits)) TOO_GREAT

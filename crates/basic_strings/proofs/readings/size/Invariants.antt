use Rattle.std.proofs.Common.{◌≡◌, min, take}
use Rattle.std.specs.Str.Parse.{AllDigits, digits_value}
use Rattle.basic_strings.proofs.readings.size.Given as goal

abbrev pub invariant-loop-digit : goal.invariant-loop-digit
invariant-loop-digit l = (l.size ≡ min 32769 (digits_value 10 (take l.digit-index l.text))) × AllDigits 10 (take l.digit-index l.text)

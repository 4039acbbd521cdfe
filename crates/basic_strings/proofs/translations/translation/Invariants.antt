use Rattle.std.proofs.Common.{◌≡◌, take}
use Rattle.basic_strings.specs.Translations.{translated}
use Rattle.basic_strings.proofs.translations.translation.Given as goal

abbrev pub invariant-loop-byte : goal.invariant-loop-byte
invariant-loop-byte l = l.bytes.items ≡ translated l.table (take l.byte-index l.text)

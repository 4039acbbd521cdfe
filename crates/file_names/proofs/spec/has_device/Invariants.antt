use Rattle.std.proofs.Common.{◌≡◌, take, true, length}
use Rattle.std.specs.Prelude.{nat_lt}
use Rattle.std.specs.List.{list_all}
use Rattle.std.specs.Char.{is_ascii_alphanumeric}
use Rattle.file_names.specs.Names.{solid}
use Rattle.file_names.proofs.spec.has_device.Given as goal

abbrev pub invariant-loop-byte : goal.invariant-loop-byte
invariant-loop-byte l =
    (list_all is_ascii_alphanumeric (solid (take l.byte-index l.text)) ≡ true)
    × (l.has_letters ≡ nat_lt 0 (length (solid (take l.byte-index l.text))))

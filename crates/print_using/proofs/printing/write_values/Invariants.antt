use Rattle.std.proofs.Common.{◌≡◌, ◌++◌, List, ℕ, map, drop}
use Rattle.print_using.specs.FormatFronts.{format_parts}
use Rattle.print_using.specs.Using.{using_bytes, using_from, with_front}
use Rattle.print_using.specs.Values.{printed_value}
use Rattle.print_using.proofs.printing.write_values.Given as goal

abbrev pub invariant-loop-value : goal.invariant-loop-value
invariant-loop-value l =
    (more : List ℕ)
    × (using_bytes l.format (map printed_value l.values) ≡ with_front more (using_from (format_parts l.format) (format_parts l.left) (map printed_value (drop l.value-index l.values))))
    × (l.bytes.items ≡ l.initial.bytes.items ++ more)

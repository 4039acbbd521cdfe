use Rattle.std.proofs.Common.{◌≡◌, ◌++◌, drop, map}
use Rattle.std.specs.List.{flat_map}
use Rattle.deck_model.specs.Spelling.{terminal_lines}
use Rattle.deck_model.specs.DiskTexts.{keyless, text_of_lines}
use Rattle.disk_texts.proofs.volumes.push_terminals.Given as goal

abbrev pub invariant-loop-name : goal.invariant-loop-name
invariant-loop-name l =
    l.out.items ++ text_of_lines (flat_map terminal_lines (map keyless (drop l.name-index l.names)))
    ≡ l.initial.out.items ++ text_of_lines (flat_map terminal_lines (map keyless l.names))

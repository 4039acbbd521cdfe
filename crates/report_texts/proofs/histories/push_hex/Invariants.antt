use Rattle.std.proofs.Common.{◌≡◌, ◌++◌, drop}
use Rattle.deck_model.specs.Histories.{hex_text}
use Rattle.report_texts.proofs.histories.push_hex.Given as goal

abbrev pub invariant-loop-byte : goal.invariant-loop-byte
invariant-loop-byte l =
    l.out.items ++ hex_text (drop l.byte-index l.bytes) ≡ l.initial.out.items ++ hex_text l.bytes

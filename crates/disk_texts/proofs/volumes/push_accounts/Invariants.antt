use Rattle.std.proofs.Common.{◌≡◌, ◌++◌, drop, map}
use Rattle.deck_model.specs.declared.versions.Version.TheVariants.{Three}
use Rattle.deck_model.specs.Spelling.{account_line}
use Rattle.deck_model.specs.DiskTexts.{text_of_lines}
use Rattle.disk_texts.proofs.volumes.push_accounts.Given as goal

abbrev pub invariant-loop-entry : goal.invariant-loop-entry
invariant-loop-entry l =
    l.out.items ++ text_of_lines (map (account_line Three) (drop l.entry-index l.accounts))
    ≡ l.initial.out.items ++ text_of_lines (map (account_line Three) l.accounts)

use Rattle.std.proofs.Common.{◌≡◌, ◌++◌, drop}
use Rattle.disk_texts.specs.Parts.{files_text}
use Rattle.disk_texts.proofs.files.push_files.Given as goal

abbrev pub invariant-loop-file : goal.invariant-loop-file
invariant-loop-file l =
    l.out.items ++ files_text (drop l.file-index l.files) ≡ l.initial.out.items ++ files_text l.files

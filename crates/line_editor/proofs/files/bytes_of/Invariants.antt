use Rattle.std.proofs.Common.{◌≡◌, take}
use Rattle.basic_tree.specs.FileLines.{file_text}
use Rattle.line_editor.proofs.files.bytes_of.Given as goal

abbrev pub invariant-loop-page : goal.invariant-loop-page
invariant-loop-page l = l.bytes.items ≡ file_text (take l.page-index l.pages)

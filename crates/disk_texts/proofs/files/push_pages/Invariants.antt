use Rattle.std.proofs.Common.{◌≡◌, ◌++◌, drop, map}
use Rattle.deck_model.specs.Spelling.{content_line}
use Rattle.deck_model.specs.DiskTexts.{page_line, text_of_lines}
use Rattle.disk_texts.proofs.files.push_pages.Given as goal

abbrev pub invariant-loop-page : goal.invariant-loop-page
invariant-loop-page l =
    l.out.items ++ text_of_lines (map content_line (map page_line (drop l.page-index l.pages)))
    ≡ l.initial.out.items ++ text_of_lines (map content_line (map page_line l.pages))

use Rattle.std.proofs.Common.{◌∙◌, ◌++◌, List, ℕ, take, ap, sym}
use Rattle.std.specs.Prelude.{filter}
use Rattle.basic_tree.specs.FileLines.{is_written, file_text}
use Rattle.line_editor.proofs.PageLemmas.{text_more}
use Rattle.line_editor.proofs.files.bytes_of.Goals as goal

pub loop-page-preserved : goal.loop-page-preserved
loop-page-preserved c =
    c.in_ok-append_written.ensures
    ∙ ap (λ (bytes : List ℕ). bytes ++ filter is_written c.as_bytes.result.now) c.loop-page.invariant
    ∙ ap (λ (page : List ℕ). file_text (take c.loop-page.page-index c.args.pages.now) ++ filter is_written page) c.as_bytes.ensures.bytes
    ∙ sym (text_more c.args.pages.now c.loop-page.page-index c.page-item.result c.loop-page-test.true c.page-item.is)

use Rattle.std.proofs.Common.{◌∙◌}
use Rattle.line_editor.proofs.PageLemmas.{padded}
use Rattle.line_editor.proofs.files.page_of.Goals as goal

pub returns : goal.returns
returns c =
    c.fill.ensures ∙ c.as_slice.ensures.value ∙ c.in_ok-resize.ensures.items
    ∙ padded c.in_ok-whole.whole.items c.args.bytes.now _ c.in_ok-whole.ensures.items c.in_ok-whole.ensures.len c.requires

use Rattle.std.proofs.Common.{◌++◌, List, ℕ, ap, subst, ◌∙◌}
use Rattle.basic_values.specs.Cuts.{behind}
use Rattle.monitor_calls.specs.declared.calls.Entry.{Entry}
use Rattle.deck_model.specs.Histories.{history_text}
use Rattle.history_reader.specs.LineFields.{ReadsAs}
use Rattle.history_reader.proofs.LineLaws.{line_written, line_is_written}
use Rattle.history_reader.proofs.entries.behind_line.Goals as goal

pub returns-in-Some : goal.returns-in-Some
returns-in-Some c =
    let written = c.as_slice.ensures.value ∙ c.in_ok-push_history.ensures.text ∙ ap (λ (l : List Entry). c.new-history.result.items ++ history_text l) c.from_ref.ensures.value in
    let one = line_written c.args.entry.now c.new-history.result.items c.as_slice.result.now c.in-Some.field-0-0.now c.in-Some.line.now c.new-history.ensures.items written c.in-Some.ensures.parts in
    subst (λ (l : List ℕ). ReadsAs (λ x. x.now) c.stripped.result (behind l c.args.text.now)) one c.stripped.ensures

pub returns : goal.returns
returns c =
    let written = c.as_slice.ensures.value ∙ c.in_ok-push_history.ensures.text ∙ ap (λ (l : List Entry). c.new-history.result.items ++ history_text l) c.from_ref.ensures.value in
    absurd (line_is_written c.args.entry.now c.new-history.result.items c.as_slice.result.now c.new-history.ensures.items written c.in-None.ensures.parts)

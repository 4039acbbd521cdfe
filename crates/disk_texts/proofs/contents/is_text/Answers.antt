use Rattle.std.proofs.Common.{◌≡◌, Bool, true, false, sym, ap, ◌∙◌}
use Rattle.std.specs.Prelude.{◌&&◌}
use Rattle.deck_model.specs.DiskTexts.{is_text}
use Rattle.disk_texts.specs.Parts.{is_ended_text}
use Rattle.disk_texts.proofs.TextLemmas.{text_goes, text_ends}
use Rattle.disk_texts.proofs.contents.is_text.Goals as goal

pub loop-line-preserved : goal.loop-line-preserved
loop-line-preserved c =
    let after = c.in-Some.after.now in
    let ended : is_ended_text c.in-Some.line.now ≡ true = sym c.is_ended_text.ensures ∙ c.if-is_ended_text.true in
    c.loop-line.invariant ∙ text_goes c.loop-line.rest.now (c.in-Some.line.now, after) c.in-Some.ensures.parts ∙ ap (λ (b : Bool). b && is_text after) ended

pub returns-else-is_ended_text : goal.returns-else-is_ended_text
returns-else-is_ended_text c =
    let after = c.in-Some.after.now in
    let ended : is_ended_text c.in-Some.line.now ≡ false = sym c.is_ended_text.ensures ∙ c.if-is_ended_text.false in
    sym (c.loop-line.invariant ∙ text_goes c.loop-line.rest.now (c.in-Some.line.now, after) c.in-Some.ensures.parts ∙ ap (λ (b : Bool). b && is_text after) ended)

pub returns : goal.returns
returns c = c.is_empty.ensures ∙ sym (c.loop-line.invariant ∙ text_ends c.loop-line.rest.now c.in_default.ensures.parts)

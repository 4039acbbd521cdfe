use Rattle.std.proofs.Common.{sym, ap, ◌∙◌}
use Rattle.std.specs.Prelude.{option_map}
use Rattle.basic_strings.specs.Readings.{judged, with_sign}
use Rattle.basic_strings.proofs.SizeLemmas.{capped}
use Rattle.basic_strings.proofs.readings.number.Goals as goal

pub returns : goal.returns
returns c =
    c.in_range.ensures
    ∙ ap (λ size. judged c.args.no_number (option_map (with_sign c.signed-is_negative.result.0) size)) c.size.ensures
    ∙ capped c.signed-is_negative.result.0 c.args.no_number _
    ∙ ap (judged c.args.no_number) c.signed-is_negative.ensures

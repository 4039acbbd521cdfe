use Rattle.std.proofs.Common.{◌<◌, ◌^◌, sym, ap, ◌∙◌, arith}
use Rattle.std.specs.Prelude.{bytes_eq}
use Rattle.deck_model.proofs.CountTexts.{count_decimal}
use Rattle.history_reader.proofs.reading.is_decimal_of.Goals as goal

pub returns : goal.returns
returns c =
    let small : c.args.number < 2 ^ 64 = omega (arith, c.ranges.number) in
    c.is_formatted.ensures ∙ ap (bytes_eq c.args.text.now) (sym (count_decimal c.args.number small))

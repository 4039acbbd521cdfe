use Rattle.std.proofs.Common.{◌∙◌, arith}
use Rattle.std.proofs.lemmas.Str.Parse.{digit_at}
use Rattle.basic_scanner.proofs.DigitLemmas.{capped_step}
use Rattle.basic_scanner.proofs.front.capped_value.Goals as goal

pub overflow_sub-digit : goal.overflow_sub-digit
overflow_sub-digit c = omega (arith, digit_at c.args.digits.now c.loop-digit.digit-index c.requires (omega arith))

pub loop-digit-preserved : goal.loop-digit-preserved
loop-digit-preserved c =
    c.min-value.ensures ∙ capped_step c.loop-digit.digit-index c.loop-digit.value c.from.result c.args.digits.now c.requires (omega arith) c.loop-digit.invariant c.from.ensures

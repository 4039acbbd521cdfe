use Rattle.std.proofs.Common.{arith}
use Rattle.std.proofs.lemmas.Str.Parse.{digit_at}
use Rattle.basic_values.proofs.DigitLemmas.{value_below, value_step}
use Rattle.basic_values.proofs.decimals.value_of_digits.Goals as goal

pub overflow_mul-value : goal.overflow_mul-value
overflow_mul-value c =
    let below = value_below c.loop-digit.digit-index c.args.digits.now c.requires.digits (omega arith) c.requires.short in
    omega (arith, c.loop-digit.invariant, below)

pub overflow_sub-digit : goal.overflow_sub-digit
overflow_sub-digit c = omega (arith, digit_at c.args.digits.now c.loop-digit.digit-index c.requires.digits (omega arith))

pub overflow_add-value : goal.overflow_add-value
overflow_add-value c =
    let below = value_below c.loop-digit.digit-index c.args.digits.now c.requires.digits (omega arith) c.requires.short in
    let digit = digit_at c.args.digits.now c.loop-digit.digit-index c.requires.digits (omega arith) in
    omega (arith, c.loop-digit.invariant, below, digit, c.from.ensures)

pub loop-digit-preserved : goal.loop-digit-preserved
loop-digit-preserved c =
    value_step c.loop-digit.digit-index c.loop-digit.value c.from.result c.args.digits.now c.requires.digits (omega arith) c.loop-digit.invariant c.from.ensures

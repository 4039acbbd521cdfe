use Rattle.std.proofs.Common.{◌≡◌, ◌<◌, min, length, take, Some, sym, ap, ◌∙◌, subst, arith}
use Rattle.std.specs.Prelude.{option_map}
use Rattle.std.specs.Str.Parse.{AllDigits, digits_value}
use Rattle.std.proofs.lemmas.Bool.Decides.{nat_tests}
use Rattle.std.proofs.lemmas.Int.Digits.{digits_more}
use Rattle.std.proofs.lemmas.List.{take_all}
use Rattle.std.proofs.lemmas.Str.Parse.{digit_from_value}
use Rattle.basic_strings.proofs.SizeLemmas.{no_size, size_of_digits, size_step}
use Rattle.basic_strings.proofs.readings.size.Goals as goal

pub returns-then-not-is_ascii_digit : goal.returns-then-not-is_ascii_digit
returns-then-not-is_ascii_digit c =
    sym (ap (option_map (min 32769)) (no_size c.args.text.now c.loop-digit.digit-index (omega arith) (λ digit. absurd (grind (arith, c.if-not-is_ascii_digit.ensures.cases)))))

pub loop-digit-preserved : goal.loop-digit-preserved
loop-digit-preserved c = (
  c.min-size.ensures ∙ size_step c.args.text.now c.loop-digit.digit-index c.loop-digit.size c.from.result (omega arith) (digit_from_value _ c.if-not-is_ascii_digit.ensures.bound) c.from.ensures c.loop-digit.invariant.0,
  digits_more 10 c.args.text.now c.loop-digit.digit-index (omega arith) c.loop-digit.invariant.1 c.if-not-is_ascii_digit.ensures.bound,
)

pub returns : goal.returns
returns c =
    let text = c.args.text.now in
    let whole : take c.loop-digit.digit-index text ≡ text = take_all c.loop-digit.digit-index text (omega arith) in
    let some : 0 < length text = grind (arith, nat_tests) in
    ap Some (c.loop-digit.invariant.0 ∙ ap (λ ds. min 32769 (digits_value 10 ds)) whole)
    ∙ sym (ap (option_map (min 32769)) (size_of_digits text some (subst (AllDigits 10) whole c.loop-digit.invariant.1)))

use Rattle.std.proofs.Common.{arith, rules}
use Rattle.std.specs.Str.Parse.{AllDigits}
use Rattle.std.proofs.lemmas.Int.Digits.{digits_more}
use Rattle.std.proofs.lemmas.Str.Parse.{digit_at}
use Rattle.basic_values.proofs.decimals.is_digits.Goals as goal

pub returns-then-not-is_ascii_digit : goal.returns-then-not-is_ascii_digit
returns-then-not-is_ascii_digit c =
    let at = λ (all : AllDigits 10 c.args.text.now). digit_at c.args.text.now c.loop-byte.byte-index all (omega arith) in
    (λ e. absurd (search rules), λ all. let d = at all in absurd (grind (arith, c.if-not-is_ascii_digit.ensures.cases)))

pub loop-byte-preserved : goal.loop-byte-preserved
loop-byte-preserved c = digits_more 10 c.args.text.now c.loop-byte.byte-index (omega arith) c.loop-byte.invariant c.if-not-is_ascii_digit.ensures.bound

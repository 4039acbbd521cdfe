use Rattle.std.proofs.Common.{false, arith, rules}
use Rattle.std.specs.Prelude.{IsTrue}
use Rattle.basic_values.proofs.DigitLemmas.{not_short}
use Rattle.basic_values.proofs.decimals.number_between.Goals as goal
use Rattle.basic_values.proofs.decimals.number_between.Goals.{then-text-gt-MOST_DIGITS-via-then-text-gt-MOST_DIGITS, then-text-gt-MOST_DIGITS-via-else-text-gt-MOST_DIGITS+then-not-is_digits}

pub returns-then-text-gt-MOST_DIGITS : goal.returns-then-text-gt-MOST_DIGITS
returns-then-text-gt-MOST_DIGITS c =
    not_short c.args.low c.args.high c.args.text.now (omega arith)
    (λ h. elim c.then-text-gt-MOST_DIGITS.branch [
      | then-text-gt-MOST_DIGITS-via-then-text-gt-MOST_DIGITS w ↦ absurd (omega (arith, h.0))
      | then-text-gt-MOST_DIGITS-via-else-text-gt-MOST_DIGITS+then-not-is_digits w ↦ let no : IsTrue false = w.if-not-is_digits.ensures.1 h.1 in absurd (search rules)
    ])

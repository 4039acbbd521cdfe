use Rattle.std.proofs.Common.{sym, subst, take, ℕ}
use Rattle.std.specs.Str.Parse.{AllDigits}
use Rattle.basic_scanner.proofs.DigitLemmas.{front_digits}
use Rattle.basic_scanner.proofs.front.digits_length.Goals as goal

pub returns-clause-digits : goal.returns-clause-digits
returns-clause-digits c =
    subst (λ (n : ℕ). AllDigits 10 (take n c.args.rest.now)) (sym c.digits_in_front.ensures.count) (front_digits c.args.rest.now)

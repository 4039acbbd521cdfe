use Rattle.std.proofs.Common.{rules}
use Rattle.basic_values.proofs.WrapLemmas.{power_up}
use Rattle.basic_values.proofs.integers.Int.power.Goals as goal

pub returns-then-exponent-ge0 : goal.returns-then-exponent-ge0
returns-then-exponent-ge0 c = search (rules, power_up)

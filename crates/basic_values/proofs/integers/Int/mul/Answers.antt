use Rattle.std.proofs.Common.{rules}
use Rattle.std.specs.Int.{w16}
use Rattle.std.proofs.lemmas.Int.{wrapping_mul_is}
use Rattle.basic_values.proofs.WrapLemmas.{wrap-is}
use Rattle.basic_values.proofs.integers.Int.mul.Goals as goal

pub returns : goal.returns
returns c = search (rules, wrapping_mul_is w16, wrap-is)

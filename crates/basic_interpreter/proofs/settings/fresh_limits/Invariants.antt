use Rattle.std.proofs.Common.{◌≡◌}
use Rattle.basic_interpreter.specs.Setting.{fresh_limits}
use Rattle.basic_interpreter.proofs.settings.fresh_limits.Given as goal

abbrev pub invariant-loop-made : goal.invariant-loop-made
invariant-loop-made l = l.limits.items ≡ fresh_limits l.made

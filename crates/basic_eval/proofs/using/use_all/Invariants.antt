use Rattle.std.proofs.Common.{◌≡◌, map, take}
use Rattle.print_using.specs.Values.{printed_value}
use Rattle.program_model.specs.PrintingOnChannels.{used_value}
use Rattle.basic_eval.proofs.using.use_all.Given as goal

abbrev pub invariant-loop-value : goal.invariant-loop-value
invariant-loop-value l = map printed_value l.used.items ≡ map used_value (take l.value-index l.values)

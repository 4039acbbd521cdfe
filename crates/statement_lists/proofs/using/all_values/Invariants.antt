use Rattle.std.proofs.Common.{◌-◌, length}
use Rattle.statement_lists.specs.Usings.{Uses}
use Rattle.statement_lists.proofs.using.all_values.Given as goal

abbrev pub invariant-more : goal.invariant-more
invariant-more l = Uses l.fn.levels l.words l.fn.from l.values.items l.end

abbrev pub decreases-more : goal.decreases-more
decreases-more l = length l.words - l.end

use Rattle.std.proofs.Common.{◌-◌, length}
use Rattle.basic_line.specs.Structure.{LineSoFar}
use Rattle.basic_line.proofs.lines.all_statements.Given as goal

abbrev pub invariant-others : goal.invariant-others
invariant-others l = LineSoFar l.words l.place l.statements.items

abbrev pub decreases-others : goal.decreases-others
decreases-others l = length l.words - l.place

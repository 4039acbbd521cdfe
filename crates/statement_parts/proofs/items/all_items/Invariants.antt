use Rattle.std.proofs.Common.{◌-◌, length}
use Rattle.statement_parts.specs.ParsedForms.{Itemized}
use Rattle.statement_parts.proofs.items.all_items.Given as goal

abbrev pub invariant-more : goal.invariant-more
invariant-more l = Itemized l.words l.fn.from l.items.items l.end

abbrev pub decreases-more : goal.decreases-more
decreases-more l = length l.words - l.end

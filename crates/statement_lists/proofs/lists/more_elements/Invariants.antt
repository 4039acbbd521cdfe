use Rattle.std.proofs.Common.{◌-◌, length, map}
use Rattle.statement_parts.specs.ParsedForms.{Lists}
use Rattle.statement_lists.proofs.lists.more_elements.Given as goal

abbrev pub invariant-more : goal.invariant-more
invariant-more g l = Lists l.fn.levels l.words (g.T.Element.sequence l.fn.want) l.fn.from (g.T.Element.item l.fn.first) (map g.T.Element.item l.items.items) l.end

abbrev pub decreases-more : goal.decreases-more
decreases-more g l = length l.words - l.end

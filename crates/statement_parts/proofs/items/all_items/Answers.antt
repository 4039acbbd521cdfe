use Rattle.std.proofs.Common.{rules}
use Rattle.statement_parts.proofs.ItemSteps.{items_grow}
use Rattle.statement_parts.proofs.items.all_items.Goals as goal

pub more-preserved : goal.more-preserved
more-preserved c =
    let stands = rw c.in-Some-2.is at c.in_ok-item.ensures.stands in
    items_grow c.args.words.now c.args.from c.more.end c.more.items.items c.push-in-Some-2.new.self.items c.in-Some-2.item c.more.invariant stands (search rules)

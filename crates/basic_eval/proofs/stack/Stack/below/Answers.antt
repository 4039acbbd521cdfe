use Rattle.std.proofs.Common.{◌≡◌, ◌-◌, length, arith}
use Rattle.basic_eval.proofs.LastValues.{before_last}
use Rattle.basic_eval.proofs.stack.Stack.below.Goals as goal

pub returns : goal.returns
returns g c =
    let kept : c.saturating_sub.result ≡ length c.self.inside.items.items - c.args.count = omega arith in
    rw (← c.self.view_is, ← before_last c.self.inside.items.items c.saturating_sub.result c.args.count kept) (rw c.deref.ensures.value at c.newest_of.ensures)

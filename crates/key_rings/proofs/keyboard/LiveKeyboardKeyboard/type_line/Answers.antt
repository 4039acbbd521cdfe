use Rattle.std.proofs.Common.{◌∙◌}
use Rattle.rtrb.specs.Ring.{received}
use Rattle.key_rings.proofs.Keys.{came_out, none_again, over_out, is_end}
use Rattle.key_rings.proofs.keyboard.LiveKeyboardKeyboard.type_line.Goals as goal

pub returns-then-self-clause-ok : goal.returns-then-self-clause-ok
returns-then-self-clause-ok g c = none_again (received c.args.self.now.ring) (c.args.self.now.over_is c.if-self.true)

pub invariant_of-self-2 : goal.invariant_of-self-2
invariant_of-self-2 g c =
    let s = c.in_ok-key.ensures.ring in
    let o = c.args.self.now.same in
    record {
      same = ((s.0.0 ∙ o.0.0, s.0.1 ∙ o.0.1, s.0.2 ∙ o.0.2, s.0.3 ∙ o.0.3), s.1 ∙ o.1);
      over_is = λ over. over_out (received c.args.self.now.ring) _ c.in_ok-key.key c.in_ok-key.ensures.came (is_end c.in_ok-key.key c.is_none-self.result c.is_none-self.ensures over);
    }

pub returns-clause-ok : goal.returns-clause-ok
returns-clause-ok g c = came_out (received c.args.self.now.ring) _ c.in_ok-key.key c.in_ok-key.ensures.came c.in_ok-key.ensures.allowed

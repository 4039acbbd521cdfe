use Rattle.std.proofs.Common.{◌∙◌, sym, arith}
use Rattle.rtrb.specs.Ring.{sent}
use Rattle.key_rings.proofs.Waiting.{more_once, more_end, more_weight}
use Rattle.key_rings.proofs.type_ahead.TypeAhead.hang_up.Goals as goal

pub invariant_of-self-then-not-self : goal.invariant_of-self-then-not-self
invariant_of-self-then-not-self c =
    let s = c.args.self.now in
    let is = c.in_ok-push_back.ensures.items in
    let heavy = more_weight s.waiting.items _ _ is in
    record {
      once = more_once (sent s.ring) s.waiting.items _ _ is (sym s.over_is ∙ c.if-not-self.true);
      over_is = sym (more_end (sent s.ring) s.waiting.items _ is);
      weighs = omega (arith, heavy, s.weighs);
      within = s.within;
    }

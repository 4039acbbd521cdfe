use Rattle.std.proofs.Common.{◌∙◌, sym, ap, length, arith}
use Rattle.rtrb.specs.Ring.{sent}
use Rattle.key_rings.proofs.Waiting.{more_once, more_line, more_weight}
use Rattle.key_rings.proofs.type_ahead.TypeAhead.type_line.Goals as goal

pub invariant_of-self-2 : goal.invariant_of-self-2
invariant_of-self-2 c =
    let s = c.args.self.now in
    let is = c.in_ok-push_back.ensures.items in
    let heavy = more_weight s.waiting.items _ _ is in
    let goes_on = sym s.over_is ∙ c.if-self.false in
    record {
      once = more_once (sent s.ring) s.waiting.items _ _ is goes_on;
      over_is = s.over_is ∙ goes_on ∙ sym (more_line (sent s.ring) s.waiting.items _ _ is goes_on);
      weighs = omega (arith, heavy, s.weighs, ap length c.as_bytes.ensures.bytes);
      within = omega (arith, c.if-bytes-gt-TYPE_AHEAD_BYTES.false);
    }

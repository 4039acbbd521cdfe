use Rattle.std.proofs.Common.{ℕ, List, ◌∙◌, subst}
use Rattle.rsts_io.specs.Whole.{BrokeOff}
use Rattle.time_sharing.proofs.drills.run_drill.Goals as goal

pub returns-in-Err-give_all : goal.returns-in-Err-give_all
returns-in-Err-give_all g c =
    let before = g.K.Sink.state c.args.sink.now in
    let after = g.K.Sink.state c.give_all.new.sink in
    let broke : BrokeOff c.as_slice.result.now before after = c.in-Err-give_all.ensures.front in
    record {
      ok = tt;
      failed = record {
        drill = c.in-Ok.drilled.0;
        drill_is = c.in-Ok.ensures.drill;
        broke_off = subst (λ (bytes : List ℕ). BrokeOff bytes before after) (c.as_slice.ensures.value ∙ c.in-Ok.ensures.line) broke;
      };
      completes = λ stays. absurd (stays broke.fault);
    }

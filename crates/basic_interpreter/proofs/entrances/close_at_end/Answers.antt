use Rattle.std.proofs.Common.{Ok, Err, sym, ◌∙◌}
use Rattle.basic_eval.specs.Acting.{seen}
use Rattle.basic_interpreter.proofs.Closings.{closed_other, closed_at_end}
use Rattle.basic_interpreter.proofs.ChainUnits.{stop_spends}
use Rattle.basic_interpreter.proofs.entrances.close_at_end.Goals as goal

pub returns-then-not-is_ended-clause-meaning : goal.returns-then-not-is_ended-clause-meaning
returns-then-not-is_ended-clause-meaning g c start before behind program meaning m =
    closed_other program meaning (seen c.args.state.now) c.args.end (sym c.is_ended.ensures ∙ c.if-not-is_ended.true) m

pub returns-in-Ok-clause-meaning : goal.returns-in-Ok-clause-meaning
returns-in-Ok-clause-meaning g c start before behind program meaning m =
    closed_at_end program meaning (seen c.args.state.now) c.shut_all.new.self (Ok tt) c.args.end (sym c.is_ended.ensures ∙ c.if-not-is_ended.false) m (c.in-Ok.ensures behind)

pub returns-in-Err-clause-meaning : goal.returns-in-Err-clause-meaning
returns-in-Err-clause-meaning g c start before behind program meaning m =
    rw c.exit_at.ensures
    (closed_at_end program meaning (seen c.args.state.now) c.shut_all.new.self (Err c.in-Err.stop) c.args.end (sym c.is_ended.ensures ∙ c.if-not-is_ended.false) m (c.in-Err.ensures behind))

pub returns-then-not-is_ended-clause-units : goal.returns-then-not-is_ended-clause-units
returns-then-not-is_ended-clause-units g c before behind spends = spends

pub returns-in-Ok-clause-units : goal.returns-in-Ok-clause-units
returns-in-Ok-clause-units g c before behind spends = tt

pub returns-in-Err-clause-units : goal.returns-in-Err-clause-units
returns-in-Err-clause-units g c before behind spends = rw c.exit_at.ensures (stop_spends before behind c.in-Err.stop)

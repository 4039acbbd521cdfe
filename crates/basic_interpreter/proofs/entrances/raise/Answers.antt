use Rattle.program_model.specs.Running.{raises_open}
use Rattle.basic_interpreter.proofs.entrances.raise.Goals as goal

pub returns-clause-meaning : goal.returns-clause-meaning
returns-clause-meaning g c program j code is =
    c.close_at_end.ensures.meaning c.args.port.now c.args.clock.now c.raise_open-end.new.clock program (λ most. raises_open program most c.args.fault j) (c.raise_open-end.ensures.meaning program j code is)

pub returns-clause-units : goal.returns-clause-units
returns-clause-units g c program code = c.close_at_end.ensures.units c.args.clock.now c.raise_open-end.new.clock (c.raise_open-end.ensures.units program code)

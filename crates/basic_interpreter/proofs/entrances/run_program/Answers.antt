use Rattle.program_model.specs.Running.{runs_open}
use Rattle.basic_interpreter.proofs.entrances.run_program.Goals as goal

pub returns-clause-meaning : goal.returns-clause-meaning
returns-clause-meaning g c program j text code is =
    c.close_at_end.ensures.meaning c.args.port.now c.args.clock.now c.run_open-end.new.clock program (λ most. runs_open program most c.args.line j) (c.run_open-end.ensures.meaning program j text code is)

pub returns-clause-units : goal.returns-clause-units
returns-clause-units g c program code = c.close_at_end.ensures.units c.args.clock.now c.run_open-end.new.clock (c.run_open-end.ensures.units program code)

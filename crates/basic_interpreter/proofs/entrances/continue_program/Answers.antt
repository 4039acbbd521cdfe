use Rattle.program_model.specs.Running.{continues_open}
use Rattle.basic_interpreter.proofs.entrances.continue_program.Goals as goal

pub returns : goal.returns
returns g c program way j code kept is =
    c.close_at_end.ensures.meaning c.args.port.now c.args.clock.now c.continue_open-end.new.clock program (λ most. continues_open program most way j) (c.continue_open-end.ensures program way j code kept is)

-- A STOP as it is kept for CONT, and the end of a program.
use Rattle.std.specs.Prelude.{Bool, true, false, Result, Err}
use Rattle.basic_values.specs.declared.failures.Trouble.{Trouble}
use Rattle.basic_values.specs.declared.failures.Trouble.TheVariants as trouble
use Rattle.basic_eval.specs.declared.exits.Exit.{Exit}
use Rattle.basic_eval.specs.declared.exits.Exit.TheVariants as exit
use Rattle.program_model.specs.Job.{Leaving, Stopped, StoppedInside}
use Rattle.polish_code.specs.Walk.{Spot}
use Rattle.basic_interpreter.specs.declared.stops.Stop.{Stop}
use Rattle.basic_interpreter.specs.declared.stops.Stop.TheVariants as stop

abbrev pub leaving_of : Stop → Leaving Spot
leaving_of (stop.At spot) = Stopped spot
leaving_of (stop.Inside home) = StoppedInside home

-- whether a program came to its end
abbrev pub is_ended : Result (Unit {0}) (Trouble Exit) → Bool
is_ended (Err (trouble.Refused exit.Ended)) = true
is_ended other = false

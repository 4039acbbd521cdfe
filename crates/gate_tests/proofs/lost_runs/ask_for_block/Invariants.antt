use Rattle.std.proofs.Common.{List}
use Rattle.monitor_calls.specs.declared.events.Event.{Event}
use Rattle.monitor_calls.specs.Pairs.{Grew}
use Rattle.gate_tests.proofs.lost_runs.ask_for_block.Given as goal

abbrev pub invariant-loop : goal.invariant-loop
invariant-loop g l = (events : List Event) × Grew g.P.Port.who g.P.Port.log l.fn.port l.port events

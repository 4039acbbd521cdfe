-- The events of a port, of the parts of its log.
use Rattle.std.specs.Prelude.{List, [], ◌∷◌, ◌++◌, Option, Some, None}
use Rattle.std.specs.declared.snapshot.Snapshot.{Snapshot}
use Rattle.monitor_calls.specs.declared.events.Event.{Event}
use Rattle.monitor_calls.specs.declared.events.Event.TheVariants as event
use Rattle.terminal_runner.specs.declared.event_log.Passed.{Passed}
use Rattle.terminal_runner.specs.declared.event_log.Passed.TheVariants as passed

abbrev pub event_of : Passed → Event
event_of (passed.Asked request reply) = event.Asked request.value reply.value
event_of (passed.Typed key) = event.Typed key.value

-- the events before the last, and the last
abbrev pub log_up_to : Option (Snapshot (List Event) × Passed) → List Event
log_up_to None = []
log_up_to (Some (before, last)) = before.value ++ event_of last ∷ []

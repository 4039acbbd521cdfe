use Rattle.std.proofs.Common.{[], ◌∷◌}
use Rattle.std.specs.Prelude.{Option, List, ℕ}
use Rattle.monitor_calls.specs.declared.events.Event.TheVariants.{Typed}
use Rattle.basic_eval.proofs.Showing.{shown_ok, shown_err}
use Rattle.basic_eval.proofs.input.next_line.Goals as goal

pub returns-clause-ok : goal.returns-clause-ok
returns-clause-ok g c = shown_ok g.P.Port.who g.P.Port.log c.args.port.now c.show.new.self c.type_line.new.self c.type_line.result (λ (key : Option (List ℕ)). Typed key ∷ []) c.show.ensures.ok c.type_line.ensures.ok

pub returns-clause-memory : goal.returns-clause-memory
returns-clause-memory g c = shown_err g.P.Port.who g.P.Port.log c.args.port.now c.show.new.self c.type_line.new.self c.type_line.result c.show.ensures.ok c.type_line.ensures.memory

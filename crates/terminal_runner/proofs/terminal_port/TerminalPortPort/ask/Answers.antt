use Rattle.std.proofs.Common.{◌∷◌, [], subst}
use Rattle.std.specs.Prelude.{IfOk}
use Rattle.monitor_calls.specs.Pairs.{Grew}
use Rattle.terminal_runner.proofs.PortLemmas.{pairs_asked, typed_asked, taken_asked}
use Rattle.terminal_runner.proofs.terminal_port.TerminalPortPort.ask.Goals as goal

pub invariant_of-self : goal.invariant_of-self
invariant_of-self g c =
    let old = c.args.self.now in
    let seat = c.ask-result.new.self in
    let is = c.push_asked.ensures in
    let grew = subst (λ r. IfOk r (λ reply. Grew g.S.Seat.who g.S.Seat.pairs old.seat seat ((c.args.request, reply) ∷ [])))
    c.in-Ok.is c.ask-result.ensures.ok in
    record {
      asked = pairs_asked old.log _ c.args.request _ c.in-Ok.reply is _ _ c.of-asked.ensures old.asked grew.1;
      typed = typed_asked old.log _ c.args.request _ c.in-Ok.reply is _ old.typed;
      taken = taken_asked old.log _ c.args.request _ c.in-Ok.reply is _ old.taken;
    }

use Rattle.terminal_runner.proofs.PortLemmas.{pairs_typed, typed_typed, taken_typed}
use Rattle.terminal_runner.proofs.terminal_port.TerminalPortPort.type_line.Goals as goal

pub invariant_of-self-2 : goal.invariant_of-self-2
invariant_of-self-2 g c =
    let old = c.args.self.now in
    let is = c.push_typed.ensures in
    let on = c.in_ok-key.ensures.ok in
    record {
      asked = pairs_typed old.log _ _ _ _ is on _ old.asked;
      typed = typed_typed old.log _ _ _ _ is on old.typed old.taken;
      taken = taken_typed old.log _ _ _ _ is on old.taken;
    }

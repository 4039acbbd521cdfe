use Rattle.std.proofs.Common.{ap, ◌∙◌, ◌++◌}
use Rattle.terminal_runner.specs.Seats.{unasked}
use Rattle.terminal_runner.proofs.Paced.{told_back}
use Rattle.terminal_runner.proofs.PortLemmas.{came_back}
use Rattle.terminal_runner.proofs.runs.run_paced.Goals as goal

pub returns-clause-back : goal.returns-clause-back
returns-clause-back g c =
    let port = c.run.new.port in
    let ran = c.in_ok-screen.ensures in
    let grew = ran.1 in
    came_back g.K.Keyboard.which g.K.Keyboard.keys (g.B.JobBody.does c.args.job.0) c.args.seat c.new.result.seat port.seat.seat _ c.args.job.1 c.new-port.result.keyboard port.keyboard _ port.log ran.0 c.in_ok-screen.screen
    c.new.ensures.seat (ap (λ w. w.0) grew.0 ∙ ap (λ s. unasked s.seat) c.new-port.ensures.seat) (c.into_parts-seat.ensures.seat ∙ ap (λ s. s.seat) c.into_parts-paced.ensures.seat)
    c.new-port.ensures.keyboard (ap (λ w. w.1) grew.0) c.into_parts-paced.ensures.keyboard (grew.1 ∙ ap (λ l. l ++ ran.0) c.new-port.ensures.log) port.asked port.typed ran.2

pub returns-clause-told : goal.returns-clause-told
returns-clause-told g c =
    let port = c.run.new.port in
    let grew = c.in_ok-screen.ensures.1 in (
      port.seat.calls,
      told_back g.P.Pacer.tellings c.args.seat c.new.result.seat port.seat.seat c.into_parts-seat.result.0 port.seat.told c.into_parts-seat.result.1 port.seat.calls c.new.ensures.seat
          (ap (λ w. w.0) grew.0 ∙ ap (λ s. unasked s.seat) c.new-port.ensures.seat) (c.into_parts-seat.ensures.seat ∙ ap (λ s. s.seat) c.into_parts-paced.ensures.seat)
          (c.into_parts-seat.ensures.told ∙ ap (λ s. s.told) c.into_parts-paced.ensures.seat) port.seat.paced,
    )

use Rattle.std.proofs.Common.{◌≡◌, ◌++◌, ap, subst, ◌∙◌}
use Rattle.terminal_runner.specs.Runs.{Did, leaves}
use Rattle.history_replay.specs.Lists.{Listed, part, heard, lister, EndsSeat}
use Rattle.std.specs.Prelude.{Some}
use Rattle.history_replay.proofs.Runs.{port_did, ran_whole, ran_else}
use Rattle.history_replay.proofs.jobs.run_one.Goals as goal

pub returns-in-None : goal.returns-in-None
returns-in-None g c =
    let which = g.K.Keyboard.which in
    let keys = g.K.Keyboard.keys in
    let port = c.run.new.port in
    let ran = c.in_ok-screen.ensures in
    let grew = ran.1 in
    let did : Did which keys (g.B.JobBody.does c.args.job.0) c.args.job.1 port.keyboard (heard port.seat) c.in_ok-screen.screen =
    port_did which keys (g.B.JobBody.does c.args.job.0) c.args.job.1 c.new-port.result.keyboard port.keyboard port.log ran.0 (heard port.seat) c.in_ok-screen.screen
    c.new-port.ensures.keyboard (ap (λ w. w.1) grew.0) (grew.1 ∙ ap (λ l. l ++ ran.0) c.new-port.ensures.log) port.asked port.typed ran.2 in
    let who : lister port.seat ≡ (c.args.history.now, c.args.number) = ap (λ w. w.0) grew.0 ∙ ap lister (c.new-port.ensures.seat ∙ c.new-seat.ensures) in
    ran_whole (leaves which keys g.B.JobBody.does c.args.job) c.args.history.now c.args.number port.seat who c.in_ok-screen.screen (port.keyboard, did)
    (subst (λ (s : Listed). heard s ≡ part s) c.into_parts-seat.ensures.seat c.in-None.ensures)

pub returns-in-Some : goal.returns-in-Some
returns-in-Some g c =
    let which = g.K.Keyboard.which in
    let keys = g.K.Keyboard.keys in
    let port = c.run.new.port in
    let ran = c.in_ok-screen.ensures in
    let grew = ran.1 in
    let did : Did which keys (g.B.JobBody.does c.args.job.0) c.args.job.1 port.keyboard (heard port.seat) c.in_ok-screen.screen =
    port_did which keys (g.B.JobBody.does c.args.job.0) c.args.job.1 c.new-port.result.keyboard port.keyboard port.log ran.0 (heard port.seat) c.in_ok-screen.screen
    c.new-port.ensures.keyboard (ap (λ w. w.1) grew.0) (grew.1 ∙ ap (λ l. l ++ ran.0) c.new-port.ensures.log) port.asked port.typed ran.2 in
    let who : lister port.seat ≡ (c.args.history.now, c.args.number) = ap (λ w. w.0) grew.0 ∙ ap lister (c.new-port.ensures.seat ∙ c.new-seat.ensures) in
    ran_else (leaves which keys g.B.JobBody.does c.args.job) c.args.history.now c.args.number port.seat who c.in_ok-screen.screen (port.keyboard, did) c.in-Some.dispute
    (subst (λ (s : Listed). EndsSeat s (Some c.in-Some.dispute)) c.into_parts-seat.ensures.seat c.in-Some.ensures)

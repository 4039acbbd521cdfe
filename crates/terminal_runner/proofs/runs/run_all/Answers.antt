use Rattle.std.proofs.Common.{◌<◌, ap, length, arith, rules}
use Rattle.monitor_gate.specs.Passes.{SeatValue}
use Rattle.terminal_runner.proofs.Seated.{seat_here, unused_here, came_here}
use Rattle.terminal_runner.proofs.runs.run_all.Goals as goal

pub map_vec-requires-after_bounds : goal.map_vec-requires-after_bounds
map_vec-requires-after_bounds g c κs within i x below is =
    let seated = c.args.seated.items in
    let seat = seat_here c.args.gate.now seated c.requires.seats i x below is in
    let unused = unused_here g.K.Keyboard.keys seated c.requires.unused i x below is in
    (ap (λ (s : SeatValue). s.gate) seat, (ap (λ (s : SeatValue). s.pass.mine) seat, (unused, (search rules, search rules, search rules, search rules, search rules))))

pub returns-clause-backs : goal.returns-clause-backs
returns-clause-backs g c job other below =
    let seated = c.args.seated.items in
    let here : job < length seated = omega (arith, below, c.in_ok-backs.ensures.len, c.in_ok-backs.backs.ok.0, c.args.seated.ok.0) in
    let each = c.in_ok-backs.ensures.each job other here in
    came_here g.K.Keyboard.keys g.K.Keyboard.which g.B.JobBody.does c.args.gate.now seated c.requires.seats job each.1.job _ here each.1.job_read each.1.call.met

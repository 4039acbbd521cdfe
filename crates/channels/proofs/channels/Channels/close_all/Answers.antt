use Rattle.std.proofs.Common.{◌≡◌, ◌+◌, ◌-◌, ◌<◌, ℕ, Some, ap, arith}
use Rattle.job_model.proofs.Follows.{follows_from, follows_to, follows_on, follows_then, follows_stay, broken}
use Rattle.channels.specs.Openings.{closes_from}
use Rattle.channels.specs.Seen.{files}
use Rattle.channels.proofs.Ended.{closes_step}
use Rattle.channels.proofs.channels.Channels.close_all.Goals as goal

pub loop-place-init : goal.loop-place-init
loop-place-init g c clock = follows_stay

pub returns-in_err-shut_file : goal.returns-in_err-shut_file
returns-in_err-shut_file g c clock =
    let i = c.loop-place.place in
    let less : i < 12 = omega arith in
    follows_on (c.loop-place.invariant clock) (follows_from (closes_step i (files c.loop-place.self c.loop-place.buffers) less)
    (broken c.in_err-shut_file.field-0.0 c.from_residual.result (files c.shut_file.new.self c.shut_file.new.buffers) (λ _. closes_from (i + 1 + 1) (12 - (i + 1))) c.from_residual.ensures.1 (c.in_err-shut_file.ensures clock)))

pub loop-place-preserved : goal.loop-place-preserved
loop-place-preserved g c clock =
    let i = c.loop-place.place in
    let less : i < 12 = omega arith in
    follows_on (c.loop-place.invariant clock) (follows_from (closes_step i (files c.loop-place.self c.loop-place.buffers) less)
    (follows_then (λ _. closes_from (i + 1 + 1) (12 - (i + 1))) (c.in_ok-shut_file.ensures clock)))

pub returns : goal.returns
returns g c clock =
    let none : 12 - c.loop-place.place ≡ 0 = omega arith in
    follows_to (ap (λ (n : ℕ). Some (closes_from (c.loop-place.place + 1) n (files c.loop-place.self c.loop-place.buffers))) none) (c.loop-place.invariant clock)

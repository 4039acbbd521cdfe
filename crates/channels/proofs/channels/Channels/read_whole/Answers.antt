use Rattle.std.proofs.Common.{◌≡◌, ◌+◌, ◌-◌, List, ℕ, Some, ap, sym, ◌∙◌, arith}
use Rattle.job_model.specs.Act.{Gives}
use Rattle.job_model.proofs.Follows.{follows_from, follows_to, follows_on, follows_then, follows_is, broken}
use Rattle.channels.specs.declared.lines.TheConstants.{MOST_TURNS}
use Rattle.channels.specs.declared.lines.Turn.{Turn}
use Rattle.channels.specs.TextIn.{behind_turn, line_from}
use Rattle.channels.specs.Seen.{files}
use Rattle.channels.proofs.Calls.{follows_lost}
use Rattle.channels.proofs.Turned.{line_step, whole_is}
use Rattle.channels.proofs.channels.Channels.read_whole.Goals as goal

pub loop-turn-init : goal.loop-turn-init
loop-turn-init g c clock =
    let old = files c.args.self.now c.args.buffers.now in
    follows_is (whole_is c.args.channel old ∙ ap (λ (line : List ℕ). line_from (MOST_TURNS - 0) c.args.channel line old) (sym c.new-line.ensures))

pub returns-in_err-more : goal.returns-in_err-more
returns-in_err-more g c clock =
    let i = c.loop-turn.turn in
    follows_on (c.loop-turn.invariant clock) (follows_from (line_step i c.args.channel c.loop-turn.line (files c.loop-turn.self c.loop-turn.buffers) c.loop-turn-test.true)
    (broken c.in_err-more.field-0.0 c.from_residual.result (files c.take_turn.new.self c.take_turn.new.buffers) (behind_turn (line_from (MOST_TURNS - (i + 1)) c.args.channel)) c.from_residual.ensures.1 (c.in_err-more.ensures clock)))

pub returns-in_err-text-in-IsWhole : goal.returns-in_err-text-in-IsWhole
returns-in_err-text-in-IsWhole g c clock =
    let i = c.loop-turn.turn in
    follows_lost c.from_residual-in_err-text-in-IsWhole.result _ c.from_residual-in_err-text-in-IsWhole.ensures.1
    (follows_on (c.loop-turn.invariant clock) (follows_from (line_step i c.args.channel c.loop-turn.line (files c.loop-turn.self c.loop-turn.buffers) c.loop-turn-test.true)
    (follows_then (behind_turn (line_from (MOST_TURNS - (i + 1)) c.args.channel)) (c.in_ok-more.ensures clock))))

pub returns-in-IsWhole : goal.returns-in-IsWhole
returns-in-IsWhole g c clock =
    let i = c.loop-turn.turn in
    let left = files c.take_turn.new.self c.take_turn.new.buffers in
    let more = line_from (MOST_TURNS - (i + 1)) c.args.channel in
    follows_on (c.loop-turn.invariant clock) (follows_from (line_step i c.args.channel c.loop-turn.line (files c.loop-turn.self c.loop-turn.buffers) c.loop-turn-test.true)
    (follows_to (ap (λ (turn : Turn). Some (behind_turn more turn left)) c.in-IsWhole.is ∙ ap (λ (line : List ℕ). Some (Gives line left)) (sym c.in_ok-text-in-IsWhole.ensures))
    (follows_then (behind_turn more) (c.in_ok-more.ensures clock))))

pub loop-turn-preserved : goal.loop-turn-preserved
loop-turn-preserved g c clock =
    let i = c.loop-turn.turn in
    let left = files c.take_turn.new.self c.take_turn.new.buffers in
    let more = line_from (MOST_TURNS - (i + 1)) c.args.channel in
    follows_on (c.loop-turn.invariant clock) (follows_from (line_step i c.args.channel c.loop-turn.line (files c.loop-turn.self c.loop-turn.buffers) c.loop-turn-test.true)
    (follows_to (ap (λ (turn : Turn). Some (behind_turn more turn left)) c.in-GoesOn.is)
    (follows_then (behind_turn more) (c.in_ok-more.ensures clock))))

pub returns : goal.returns
returns g c clock =
    let none : MOST_TURNS - c.loop-turn.turn ≡ 0 = omega arith in
    follows_to (ap (λ (n : ℕ). Some (line_from n c.args.channel c.loop-turn.line (files c.loop-turn.self c.loop-turn.buffers))) none) (c.loop-turn.invariant clock)

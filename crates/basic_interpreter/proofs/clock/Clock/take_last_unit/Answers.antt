use Rattle.job_model.proofs.Follows.{follows_none, follows_lost}
use Rattle.basic_interpreter.specs.Doing.{behind_unit}
use Rattle.basic_interpreter.proofs.UnitLemmas.{clock_of, unit_ticks, unit_is_last, done_off, not_done}
use Rattle.basic_interpreter.proofs.clock.Clock.take_last_unit.Goals as goal
use Rattle.basic_interpreter.proofs.clock.Clock.take_last_unit.Goals.{in-Done+else-self-ge-MOST_TICKS, in_default}

pub returns-in_err-ask : goal.returns-in_err-ask
returns-in_err-ask g c = λ j. follows_lost c.from_residual.result (behind_unit j) _ c.from_residual.ensures.1 (follows_none c.in_err-ask.ensures.memory)

pub returns-then-self-ge-MOST_TICKS : goal.returns-then-self-ge-MOST_TICKS
returns-then-self-ge-MOST_TICKS g c =
    unit_is_last c.self.inside.units c.self.inside.ticks c.args.self.now c.self.view_is c.in_ok-ask.field-0 c.in_ok-ask.ensures.ok (rw (← c.self.view_is) at c.requires)
    (done_off (clock_of c.self.inside.units c.self.inside.ticks) c.in_ok-ask.field-0 c.in-Done.is c.if-self-ge-MOST_TICKS.true)

pub returns : goal.returns
returns g c = λ j. elim c.match-branch-2.branch [
  | in-Done+else-self-ge-MOST_TICKS w ↦
      rw (w.result-is, w.self-is) (unit_ticks c.self.inside.units c.self.inside.ticks c.args.self.now c.self.view_is c.in_ok-ask.field-0 c.in_ok-ask.ensures.ok (rw (← c.self.view_is) at c.requires) w.in-Done.is w.if-self-ge-MOST_TICKS.false j)
  | in_default w ↦
      rw (w.result-is, w.self-is) (unit_is_last c.self.inside.units c.self.inside.ticks c.args.self.now c.self.view_is c.in_ok-ask.field-0 c.in_ok-ask.ensures.ok (rw (← c.self.view_is) at c.requires) (not_done c.in_ok-ask.field-0 (clock_of c.self.inside.units c.self.inside.ticks) w.in_default.not-Done) j)
]

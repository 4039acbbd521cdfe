use Rattle.std.proofs.Common.{Some, None, Ok, Err}
use Rattle.command_level.proofs.SessionLemmas.{turn_typed, turn_lost, turn_done, lost_there, keys_end}
use Rattle.command_level.proofs.session.Session.turn.Goals as goal

pub returns-in_err-line : goal.returns-in_err-line
returns-in_err-line g c s st = turn_lost c.show.new.self _ _ c.from_residual.ensures.1 c.show.ensures.ok c.in_err-line.ensures.memory

pub returns-in-Some : goal.returns-in-Some
returns-in-Some g c s st = turn_done (turn_typed c.show.new.self _ (Some c.in-Some.line) s c.in-Some.is c.show.ensures.ok c.in_ok-line.ensures.ok) (c.take_line.ensures s st)

pub returns-in_err-leave-in-None : goal.returns-in_err-leave-in-None
returns-in_err-leave-in-None g c s st =
    lost_there _ _ c.from_residual-in_err-leave-in-None.ensures.1
    (turn_done (turn_typed c.show.new.self _ None s c.in-None.is c.show.ensures.ok c.in_ok-line.ensures.ok)
    (keys_end c.args.self.now c.leave.new.self s st (Err c.in_err-leave-in-None.field-0.0) (c.in_err-leave-in-None.ensures c.args.clock.now)))

pub returns-in_ok-leave-in-None : goal.returns-in_ok-leave-in-None
returns-in_ok-leave-in-None g c s st =
    turn_done (turn_typed c.show.new.self _ None s c.in-None.is c.show.ensures.ok c.in_ok-line.ensures.ok)
    (keys_end c.args.self.now c.leave.new.self s st (Ok tt) (c.in_ok-leave-in-None.ensures c.args.clock.now))

use Rattle.std.proofs.Common.{rules, append_assoc}
use Rattle.terminal_runner.proofs.Paced.{asked_once, told_more}
use Rattle.terminal_runner.proofs.paced_seat.PacedSeatSeat.ask.Goals as goal

pub invariant_of-self : goal.invariant_of-self
invariant_of-self g c =
    let old = c.args.self.now.seat in
    let new = c.ask-reply.new.seat in
    record {
      own = search rules;
      paced = told_more _ _ _ _ _ _ _ old new c.args.self.now.paced (search rules) (search rules) (asked_once old new c.args.request c.ask-reply.result c.ask-reply.ensures.asked c.ask-reply.ensures.memory)
          (search rules) (search (rules, append_assoc));
    }

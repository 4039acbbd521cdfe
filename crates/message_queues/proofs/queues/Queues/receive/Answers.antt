use Rattle.std.proofs.Common.{sym, ◌∙◌}
use Rattle.message_queues.proofs.PlaceLemmas.{receive-none}
use Rattle.message_queues.proofs.queues.Queues.receive.Goals as goal

pub returns-in-None-clause-err : goal.returns-in-None-clause-err
returns-in-None-clause-err c = c.take.ensures.taken ∙ receive-none c.args.self.now c.args.job (sym c.in-None.ensures.letter)

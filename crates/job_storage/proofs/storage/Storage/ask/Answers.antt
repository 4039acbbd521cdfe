use Rattle.job_model.specs.Replies.{asks_for, done_by, no_part}
use Rattle.job_model.proofs.Follows.{follows_in}
use Rattle.job_storage.proofs.storage.Storage.ask.Goals as goal

pub returns : goal.returns
returns g c clock = follows_in no_part c.args.self.now (λ _. asks_for done_by c.args.request) c.ask_done.result tt (c.ask_done.ensures.follows clock)

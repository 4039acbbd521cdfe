use Rattle.std.proofs.Common.{ap}
use Rattle.session_model.specs.Talk.{begins_new}
use Rattle.job_model.proofs.Follows.{follows_from, follows_same}
use Rattle.command_level.specs.Seen.{seen, naming_seen}
use Rattle.command_level.proofs.session.Session.begin_new.Goals as goal

pub returns-in-Misnamed : goal.returns-in-Misnamed
returns-in-Misnamed g c clock =
    follows_from (ap (λ naming. begins_new (naming_seen naming) (seen c.args.self.now)) c.in-Misnamed.is) (follows_same c.answer.result _ c.answer.ensures)

pub returns-in-Nameless : goal.returns-in-Nameless
returns-in-Nameless g c clock =
    follows_from (ap (λ naming. begins_new (naming_seen naming) (seen c.args.self.now)) c.in-Nameless.is) (c.shut_for_new.ensures clock)

pub returns-in-Named : goal.returns-in-Named
returns-in-Named g c clock =
    follows_from (ap (λ naming. begins_new (naming_seen naming) (seen c.args.self.now)) c.in-Named.is) (c.shut_for_new-in-Named.ensures clock)

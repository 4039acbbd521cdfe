use Rattle.std.proofs.Common.{ap, sym}
use Rattle.channels.specs.Records.{unlocks}
use Rattle.channels.specs.Seen.{files}
use Rattle.job_model.specs.Follow.{answered_by}
use Rattle.program_model.specs.Storage.{Storage, in_files}
use Rattle.job_model.proofs.Follows.{follows_from, follows_to, follows_in}
use Rattle.program_model.specs.FileActs.{unlock_act}
use Rattle.job_storage.proofs.storage.Storage.unlock.Goals as goal

pub returns : goal.returns
returns g c clock =
    let s : Storage = record { account = c.self.inside.account; memory = c.self.inside.memory; files = files c.self.inside.channels c.self.inside.buffers; common = c.self.inside.common } in
    follows_from (ap (λ (s : Storage). unlock_act c.args.channel s) (sym c.self.view_is))
    (follows_to (ap (λ (s : Storage). answered_by c.unlock.result s) c.self.view_is)
    (follows_in in_files s (unlocks c.args.channel) c.unlock.result (files c.self.inside.channels c.self.inside.buffers) (c.unlock.ensures clock)))

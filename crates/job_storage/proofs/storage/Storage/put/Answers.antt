use Rattle.std.proofs.Common.{ap, sym}
use Rattle.channels.specs.Records.{puts_record}
use Rattle.channels.specs.Seen.{files}
use Rattle.program_model.specs.Storage.{Storage, in_files}
use Rattle.job_model.proofs.Follows.{follows_from, follows_in}
use Rattle.program_model.specs.FileActs.{put_act}
use Rattle.job_storage.proofs.storage.Storage.put.Goals as goal

pub returns : goal.returns
returns g c clock =
    let s : Storage = record { account = c.self.inside.account; memory = c.self.inside.memory; files = files c.self.inside.channels c.self.inside.buffers; common = c.self.inside.common } in
    follows_from (ap (λ (s : Storage). put_act c.args.channel c.args.block s) (sym c.self.view_is))
    (follows_in in_files s (puts_record c.args.channel c.args.block) c.put.result (files c.put.new.self c.self.inside.buffers) (c.put.ensures clock))

use Rattle.std.proofs.Common.{ap, sym}
use Rattle.channels.specs.Seen.{files}
use Rattle.channels.specs.TextOut.{writes_text}
use Rattle.job_model.proofs.Follows.{follows_from, follows_in}
use Rattle.program_model.specs.PrintingOnChannels.{text_act}
use Rattle.program_model.specs.Storage.{Storage, in_files}
use Rattle.job_storage.proofs.storage.Storage.write_on.Goals as goal

pub returns : goal.returns
returns g c clock =
    let s : Storage = record { account = c.self.inside.account; memory = c.self.inside.memory; files = files c.self.inside.channels c.self.inside.buffers; common = c.self.inside.common } in
    follows_from (ap (λ (s : Storage). text_act c.args.channel c.args.bytes.now s) (sym c.self.view_is))
    (follows_in in_files s (writes_text c.args.channel c.args.bytes.now) c.write_text.result (files c.write_text.new.self c.write_text.new.buffers) (c.write_text.ensures clock))

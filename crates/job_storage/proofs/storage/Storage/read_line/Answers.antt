use Rattle.std.proofs.Common.{ap, sym}
use Rattle.channels.specs.Seen.{files}
use Rattle.channels.specs.TextIn.{reads_line}
use Rattle.job_model.proofs.Follows.{follows_from, follows_in}
use Rattle.program_model.specs.Input.{line_act}
use Rattle.program_model.specs.Storage.{Storage, in_files}
use Rattle.job_storage.proofs.storage.Storage.read_line.Goals as goal

pub returns : goal.returns
returns g c clock =
    let s : Storage = record { account = c.self.inside.account; memory = c.self.inside.memory; files = files c.self.inside.channels c.self.inside.buffers; common = c.self.inside.common } in
    follows_from (ap (λ (s : Storage). line_act c.args.channel s) (sym c.self.view_is))
    (follows_in in_files s (reads_line c.args.channel) c.read_line.result (files c.read_line.new.self c.read_line.new.buffers) (c.read_line.ensures clock))

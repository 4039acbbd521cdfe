use Rattle.std.proofs.Common.{ap, sym}
use Rattle.channels.specs.Openings.{opens_file}
use Rattle.channels.specs.Seen.{files}
use Rattle.job_model.proofs.Follows.{follows_from, follows_in}
use Rattle.program_model.specs.Storage.{Storage, in_files}
use Rattle.program_model.specs.FileActs.{opens_on}
use Rattle.job_storage.proofs.storage.Storage.open_on.Goals as goal

pub returns : goal.returns
returns g c clock =
    let s : Storage = record { account = c.self.inside.account; memory = c.self.inside.memory; files = files c.self.inside.channels c.self.inside.buffers; common = c.self.inside.common } in
    follows_from (ap (λ (s : Storage). opens_on c.args.kind c.args.channel c.args.how c.args.spec s) (sym c.self.view_is))
    (follows_in in_files s (opens_file c.args.channel c.args.spec.name c.args.kind c.args.how.1 c.args.spec.code c.args.how.0) c.open_file.result (files c.open_file.new.self c.open_file.new.buffers) (c.open_file.ensures clock))

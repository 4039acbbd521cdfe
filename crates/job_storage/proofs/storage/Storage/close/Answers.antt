use Rattle.std.proofs.Common.{Ok, Err, ap, sym}
use Rattle.channels.specs.Openings.{closes_file}
use Rattle.channels.specs.Seen.{files}
use Rattle.program_model.specs.Storage.{Storage, in_files}
use Rattle.job_model.specs.Act.{Gives}
use Rattle.job_model.proofs.Follows.{follows_from, follows_with, follows_is, follows_in, broken}
use Rattle.program_model.specs.FileActs.{without_fields, close_act}
use Rattle.job_storage.proofs.storage.Storage.close.Goals as goal

pub returns-in_err-closed : goal.returns-in_err-closed
returns-in_err-closed g c clock =
    let s : Storage = record { account = c.self.inside.account; memory = c.self.inside.memory; files = files c.self.inside.channels c.self.inside.buffers; common = c.self.inside.common } in
    let t = files c.close_file.new.self c.close_file.new.buffers in
    follows_from (ap (λ (s : Storage). close_act c.args.channel s) (sym c.self.view_is))
    (broken c.in_err-closed.field-0.0 c.from_residual.result (record s { files = t }) (λ closed s. Gives tt (without_fields closed s)) c.from_residual.ensures.1
    (follows_in in_files s (closes_file c.args.channel) (Err c.in_err-closed.field-0.0) t (c.in_err-closed.ensures clock)))

pub returns : goal.returns
returns g c clock =
    let s : Storage = record { account = c.self.inside.account; memory = c.self.inside.memory; files = files c.self.inside.channels c.self.inside.buffers; common = c.self.inside.common } in
    let t = files c.close_file.new.self c.close_file.new.buffers in
    follows_from (ap (λ (s : Storage). close_act c.args.channel s) (sym c.self.view_is))
    (follows_with (λ closed s. Gives tt (without_fields closed s))
    (follows_in in_files s (closes_file c.args.channel) (Ok c.in_ok-closed.closed) t (c.in_ok-closed.ensures clock))
    (follows_is (ap (λ (s : Storage). Gives tt s) (sym c.forget.ensures))))

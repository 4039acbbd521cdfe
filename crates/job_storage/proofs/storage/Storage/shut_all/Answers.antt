use Rattle.std.proofs.Common.{Ok, Err, ap, sym}
use Rattle.channels.specs.Openings.{closes_all}
use Rattle.channels.specs.Seen.{files}
use Rattle.job_memory.specs.Memory.{forget_all}
use Rattle.job_model.specs.Act.{Gives}
use Rattle.job_model.proofs.Follows.{follows_from, follows_with, follows_is, follows_in, broken}
use Rattle.program_model.specs.Storage.{Storage, StorageAct, in_files}
use Rattle.program_model.specs.FileActs.{shut_act}
use Rattle.job_storage.proofs.storage.Storage.shut_all.Goals as goal

abbrev next : Unit {0} → StorageAct (Unit {0})
next done s = Gives tt (record s { memory = forget_all s.memory })

pub returns-in_err-close_all : goal.returns-in_err-close_all
returns-in_err-close_all g c clock =
    let s : Storage = record { account = c.self.inside.account; memory = c.self.inside.memory; files = files c.self.inside.channels c.self.inside.buffers; common = c.self.inside.common } in
    let t = files c.close_all.new.self c.close_all.new.buffers in
    follows_from (ap shut_act (sym c.self.view_is))
    (broken c.in_err-close_all.field-0.0 c.from_residual.result (record s { files = t }) next c.from_residual.ensures.1
    (follows_in in_files s closes_all (Err c.in_err-close_all.field-0.0) t (c.in_err-close_all.ensures clock)))

pub returns : goal.returns
returns g c clock =
    let s : Storage = record { account = c.self.inside.account; memory = c.self.inside.memory; files = files c.self.inside.channels c.self.inside.buffers; common = c.self.inside.common } in
    let t = files c.close_all.new.self c.close_all.new.buffers in
    follows_from (ap shut_act (sym c.self.view_is))
    (follows_with next (follows_in in_files s closes_all (Ok tt) t (c.in_ok-close_all.ensures clock))
    (follows_is (ap (λ m. Gives tt (record (record s { files = t }) { memory = m })) (sym c.forget_all.ensures))))

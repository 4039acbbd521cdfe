use Rattle.std.proofs.Common.{[]}
use Rattle.session_model.specs.Talk.{answered, emptied, named, with_storage}
use Rattle.command_level.specs.Seen.{seen, name_seen}
use Rattle.command_level.proofs.FileLemmas.{file_done, file_broke}
use Rattle.command_level.proofs.session.Session.shut_for_new.Goals as goal

pub returns-in-Ok : goal.returns-in-Ok
returns-in-Ok g c clock =
    file_done (with_storage (seen c.args.self.now)) (λ _ s. answered [] (named (name_seen c.args.name) (emptied s))) tt c.shut_all.new.self c.make_new.result c.make_new.new.self (c.in-Ok.ensures clock) c.make_new.ensures

pub returns-in-Err : goal.returns-in-Err
returns-in-Err g c clock =
    file_broke (with_storage (seen c.args.self.now)) (λ _ s. answered [] (named (name_seen c.args.name) (emptied s))) c.in-Err.stop c.shut_all.new.self c.break_off.result c.break_off.new.self (c.in-Err.ensures clock) c.break_off.ensures

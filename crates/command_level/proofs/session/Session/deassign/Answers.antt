use Rattle.std.proofs.Common.{[]}
use Rattle.session_model.specs.Talk.{answered}
use Rattle.command_level.specs.Seen.{seen}
use Rattle.command_level.proofs.FileLemmas.{file_done, file_broke}
use Rattle.command_level.proofs.session.Session.deassign.Goals as goal

pub returns-in-Ok : goal.returns-in-Ok
returns-in-Ok g c clock = file_done (λ _. seen c.args.self.now) (λ _ s. answered [] s) tt tt c.answer.result c.answer.new.self (c.in-Ok.ensures clock) c.answer.ensures

pub returns-in-Err : goal.returns-in-Err
returns-in-Err g c clock = file_broke (λ _. seen c.args.self.now) (λ _ s. answered [] s) c.in-Err.stop tt c.break_off.result c.break_off.new.self (c.in-Err.ensures clock) c.break_off.ensures

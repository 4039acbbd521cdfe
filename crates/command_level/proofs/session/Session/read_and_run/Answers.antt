use Rattle.std.proofs.Common.{List, ℕ, ap, sym}
use Rattle.grammar_machine.specs.MachineJudge.{judge_of}
use Rattle.session_model.specs.ProgramFiles.{program_on}
use Rattle.session_model.specs.Talk.{runs_loaded}
use Rattle.command_level.proofs.FileLemmas.{tried_run, tried_broke}
use Rattle.command_level.proofs.Serving.{serves_from}
use Rattle.command_level.proofs.session.Session.read_and_run.Goals as goal

pub returns-in-Ok : goal.returns-in-Ok
returns-in-Ok g c s st =
    let stem = c.args.spec.now.name.stem in
    tried_run (λ _. s) (λ most pages s. runs_loaded judge_of most stem (program_on judge_of pages) s) c.in-Ok.pages tt c.run_pages.new.self c.run_pages.result (c.in-Ok.ensures c.args.clock.now)
    (serves_from (λ most. ap (λ (pages : List (List ℕ)). runs_loaded judge_of most stem (program_on judge_of pages) s) (sym c.as_slice.ensures)) (c.run_pages.ensures s st))

pub returns-in-Err : goal.returns-in-Err
returns-in-Err g c s st =
    tried_broke c.args.self.now c.break_off.new.self (λ _. s) tt st (λ most pages s. runs_loaded judge_of most c.args.spec.now.name.stem (program_on judge_of pages) s) c.in-Err.stop c.break_off.result (c.in-Err.ensures c.args.clock.now) c.break_off.ensures

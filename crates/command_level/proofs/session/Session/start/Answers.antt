use Rattle.std.proofs.Common.{refl}
use Rattle.grammar_machine.specs.MachineJudge.{judge_of}
use Rattle.session_model.specs.Talk.{runs_chained, program_by, runs_shut, with_storage}
use Rattle.command_level.proofs.Chained.{run_over, over_spent}
use Rattle.command_level.proofs.FileLemmas.{shut_broke}
use Rattle.command_level.proofs.Runs.{run_shut}
use Rattle.command_level.proofs.session.Session.start.Goals as goal

pub returns-in-Ok-clause-path : goal.returns-in-Ok-clause-path
returns-in-Ok-clause-path g c count s st =
    let old = c.args.self.now in
    let storage = c.shut_all.new.self in
    run_shut count old (record old { running = record old.running { storage = storage } }) s st storage
    (λ most. runs_shut (runs_chained judge_of most (count most)) (program_by judge_of s.lines) most c.args.line) c.start_shut.new.self c.start_shut.result (c.in-Ok.ensures c.args.clock.now) refl
    (c.start_shut.ensures.path count (with_storage s storage))

pub returns-in-Err-clause-path : goal.returns-in-Err-clause-path
returns-in-Err-clause-path g c count s st =
    let old = c.args.self.now in
    let storage = c.shut_all.new.self in
    run_over count c.break_off.new.self c.break_off.result c.none_ran.result c.none_ran.ensures
    (shut_broke old (record old { running = record old.running { storage = storage } }) s st storage
    (λ most. runs_shut (runs_chained judge_of most (count most)) (program_by judge_of s.lines) most c.args.line) c.in-Err.stop c.break_off.new.self c.break_off.result (c.in-Err.ensures c.args.clock.now) refl c.break_off.ensures)

pub returns-in-Err-clause-units : goal.returns-in-Err-clause-units
returns-in-Err-clause-units g c = over_spent c.args.clock.now c.args.clock.now c.break_off.result c.none_ran.result c.none_ran.ensures

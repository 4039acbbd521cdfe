use Rattle.std.proofs.Common.{ap, sym}
use Rattle.grammar_machine.specs.MachineJudge.{judge_of}
use Rattle.basic_tree.specs.ProgramLines.{Lines}
use Rattle.session_model.specs.Talk.{headed, program_by, runs_all}
use Rattle.command_level.proofs.Chained.{run_on, run_lost_on}
use Rattle.command_level.proofs.Lows.{headed_lines}
use Rattle.command_level.proofs.Runs.{serves_lost, stands_headed}
use Rattle.command_level.proofs.Serving.{serves_from}
use Rattle.command_level.proofs.session.Session.run_program.Goals as goal

pub returns-in_err-write_name : goal.returns-in_err-write_name
returns-in_err-write_name g c s st = serves_lost _ _ c.from_residual.ensures.1

pub returns-in_err-reached : goal.returns-in_err-reached
returns-in_err-reached g c s st =
    let t = headed c.args.with_name s in
    serves_from (λ most. ap (λ (lines : Lines). runs_all judge_of (program_by judge_of lines) most t) (sym (headed_lines c.args.with_name s)))
    (run_lost_on c.start.new.self _ c.in_err-reached.field-0.0 _ _ c.from_residual-in_err-reached.ensures.1
    (c.in_err-reached.ensures.path (λ most. most) t (stands_headed c.args.self.now c.write_name.new.self s c.args.with_name st c.in_ok-write_name.ensures)))

pub returns : goal.returns
returns g c s st =
    let t = headed c.args.with_name s in
    serves_from (λ most. ap (λ (lines : Lines). runs_all judge_of (program_by judge_of lines) most t) (sym (headed_lines c.args.with_name s)))
    (run_on c.start.new.self c.follow_chains.new.self c.in_ok-reached.reached c.follow_chains.result
    (c.in_ok-reached.ensures.path (λ most. most) t (stands_headed c.args.self.now c.write_name.new.self s c.args.with_name st c.in_ok-write_name.ensures))
    c.follow_chains.ensures)

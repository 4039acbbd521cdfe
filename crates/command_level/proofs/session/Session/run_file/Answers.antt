use Rattle.std.proofs.Common.{sym, ◌∙◌}
use Rattle.grammar_machine.specs.MachineJudge.{judge_of}
use Rattle.session_model.specs.Talk.{reads_and_runs}
use Rattle.session_model.specs.Texts.{illegal_command, fault_report}
use Rattle.command_level.proofs.FileLemmas.{name_missing, name_told, name_refused}
use Rattle.command_level.proofs.Runs.{serves_answer, serves_report}
use Rattle.command_level.proofs.Serving.{serves_from}
use Rattle.command_level.proofs.session.Session.run_file.Goals as goal

pub returns-then-is_blank_text : goal.returns-then-is_blank_text
returns-then-is_blank_text g c s st =
    serves_from (λ most. name_missing c.args.own c.args.tail.now (reads_and_runs judge_of most) s (sym c.is_blank_text.ensures ∙ c.if-is_blank_text.true))
    (serves_answer c.args.self.now c.answer.new.self s st illegal_command c.answer.result c.answer.ensures)

pub returns-in-Ok : goal.returns-in-Ok
returns-in-Ok g c s st =
    serves_from (λ most. name_told c.args.own c.args.tail.now (reads_and_runs judge_of most) s c.in-Ok.spec (sym c.is_blank_text.ensures ∙ c.if-is_blank_text.false) c.in-Ok.ensures) (c.read_and_run.ensures s st)

pub returns-in-Err : goal.returns-in-Err
returns-in-Err g c s st =
    serves_from (λ most. name_refused c.args.own c.args.tail.now (reads_and_runs judge_of most) s c.in-Err.fault (sym c.is_blank_text.ensures ∙ c.if-is_blank_text.false) c.in-Err.ensures)
    (serves_report c.args.self.now c.refuse_by.new.self s st (fault_report c.in-Err.fault) c.refuse_by.result c.refuse_by.ensures)

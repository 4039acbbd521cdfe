use Rattle.std.proofs.Common.{ap}
use Rattle.grammar_machine.specs.MachineJudge.{judge_of}
use Rattle.session_model.specs.Talk.{goes_on, program_by}
use Rattle.session_model.specs.Texts.{cant_continue}
use Rattle.command_level.proofs.Runs.{serves_answer, no_stop}
use Rattle.command_level.proofs.Serving.{serves_from}
use Rattle.command_level.proofs.session.Session.continue_program.Goals as goal

pub returns-in-None : goal.returns-in-None
returns-in-None g c s st =
    serves_from (λ most. ap (λ stop. goes_on judge_of (program_by judge_of s.lines) most stop s) (no_stop c.args.self.now s st c.in-None.is))
    (serves_answer c.args.self.now c.answer.new.self s st cant_continue c.answer.result c.answer.ensures)

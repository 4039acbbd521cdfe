use Rattle.std.proofs.Common.{sym, ap}
use Rattle.grammar_machine.specs.MachineJudge.{judge_of}
use Rattle.job_model.proofs.Follows.{follows_from, follows_is}
use Rattle.session_model.specs.Talk.{reads_by}
use Rattle.command_level.proofs.chains.read_program.Goals as goal

pub returns-in-Ok : goal.returns-in-Ok
returns-in-Ok g c = λ clock. follows_from (ap (reads_by judge_of) (sym c.in-Ok.ensures)) (c.read_file.ensures clock)

pub returns-in-Err : goal.returns-in-Err
returns-in-Err g c = λ clock. follows_is (ap (reads_by judge_of) (sym c.in-Err.ensures))

use Rattle.std.proofs.Common.{sym, ap, ◌∙◌}
use Rattle.program_model.specs.Program.{whole}
use Rattle.program_model.specs.Control.{At}
use Rattle.program_model.specs.Running.{apart, line_alone, runs_from, runs_line}
use Rattle.polish_code.specs.Lowered.{lowered, low_leaving}
use Rattle.basic_eval.specs.Acting.{seen}
use Rattle.basic_interpreter.specs.Setting.{kept_of, set_apart, with_kept}
use Rattle.basic_interpreter.proofs.Beginnings.{begins_apart, onward_first}
use Rattle.basic_interpreter.proofs.Meanings.{means_together, means_nothing}
use Rattle.basic_interpreter.proofs.entrances.run_line.Goals as goal

pub returns-in-Ok : goal.returns-in-Ok
returns-in-Ok g c statements program j code few is =
    let line = line_alone statements in
    means_together (low_leaving line) line program j (λ most. runs_from line most (At (whole 0)) (apart line j)) (seen c.run-ended.new.state) (seen c.put_back.new.state) _
    (c.put_back.ensures ∙ ap (λ k. with_kept k (seen c.run-ended.new.state)) (c.in-Ok.ensures.kept ∙ ap kept_of (sym is)))
    (c.run-ended.ensures.meaning line (At (whole 0)) (apart line j) code (onward_first line)
    (begins_apart line program j ∙ ap (λ n. set_apart n (lowered program j)) (sym few) ∙ ap (set_apart c.args.loops) is ∙ sym c.in-Ok.ensures.state))

pub returns-in-Err : goal.returns-in-Err
returns-in-Err g c statements program j code few is =
    means_nothing (low_leaving (line_alone statements)) (lowered program) (λ most. runs_line statements most j) (seen c.set_apart.new.state)

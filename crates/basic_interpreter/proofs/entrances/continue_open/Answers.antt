use Rattle.std.proofs.Common.{sym, ap, ◌∙◌}
use Rattle.std.specs.Prelude.{Some}
use Rattle.program_model.specs.Control.{At, Behind, home_of, runs_at}
use Rattle.program_model.specs.Program.{whole}
use Rattle.polish_code.specs.Lowered.{lowered}
use Rattle.basic_interpreter.specs.Stopping.{leaving_of}
use Rattle.basic_interpreter.proofs.Beginnings.{onward_whole, runs_low}
use Rattle.basic_interpreter.proofs.Meanings.{goes_on_at, goes_on_inside}
use Rattle.basic_interpreter.proofs.entrances.continue_open.Goals as goal

pub returns-in-At : goal.returns-in-At
returns-in-At g c program way j code kept is =
    goes_on_at program j c.in-At.spot _ _ way (kept ∙ ap leaving_of c.in-At.is)
    (λ q same. c.run.ensures.meaning program (Behind q) (runs_at (home_of program q.statement) j) code
    (ap Some (ap (λ s. s.behind) same ∙ sym c.behind.ensures))
    (runs_low program (home_of program q.statement) j ∙ ap (λ h. runs_at h (lowered program j)) (ap (λ s. s.home) same ∙ sym c.home.ensures) ∙ ap (runs_at c.home.result) is ∙ sym c.run_at.ensures))

pub returns-in-Inside : goal.returns-in-Inside
returns-in-Inside g c program way j code kept is =
    goes_on_inside program j c.in-Inside.home _ _ way (kept ∙ ap leaving_of c.in-Inside.is)
    (λ h same. c.run-in-Inside.ensures.meaning program (At (whole h.behind)) j code (onward_whole program h.behind ∙ ap Some (ap (λ h. h.behind) same)) is)

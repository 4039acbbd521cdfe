use Rattle.std.proofs.Common.{sym, ap, ◌∙◌}
use Rattle.basic_values.specs.declared.failures.Stop.TheVariants as stop
use Rattle.grammar_machine.specs.MachineJudge.{judge_of}
use Rattle.job_model.specs.Act.{Breaks, Faulted}
use Rattle.job_model.proofs.Follows.{as_returned, broken, follows_with, follows_is, follows_nothing}
use Rattle.session_model.specs.ProgramFiles.{program_on}
use Rattle.session_model.specs.Talk.{or_bad_text}
use Rattle.command_level.proofs.chains.read_file.Goals as goal

pub returns-in_err-pages : goal.returns-in_err-pages
returns-in_err-pages g c = λ clock. broken _ c.from_residual.result tt (λ pages _. or_bad_text c.args.spec.now.name.stem (program_on judge_of pages)) c.from_residual.ensures.1 (c.in_err-pages.ensures clock)

pub returns-in_err-text : goal.returns-in_err-text
returns-in_err-text g c = λ clock.
    follows_with (λ pages _. or_bad_text c.args.spec.now.name.stem (program_on judge_of pages)) (c.in_ok-pages.ensures clock)
    (as_returned stop.NoMemory c.from_residual-in_err-text.result tt c.from_residual-in_err-text.ensures.1 follows_nothing)

pub returns-in-Some : goal.returns-in-Some
returns-in-Some g c = λ clock.
    follows_with (λ pages _. or_bad_text c.args.spec.now.name.stem (program_on judge_of pages)) (c.in_ok-pages.ensures clock)
    (follows_is (ap (or_bad_text c.args.spec.now.name.stem) (ap (program_on judge_of) (sym c.as_slice.ensures) ∙ sym c.in_ok-text.ensures ∙ c.in-Some.is)))

pub returns : goal.returns
returns g c = λ clock.
    follows_with (λ pages _. or_bad_text c.args.spec.now.name.stem (program_on judge_of pages)) (c.in_ok-pages.ensures clock)
    (follows_is (ap (or_bad_text c.args.spec.now.name.stem) (ap (program_on judge_of) (sym c.as_slice.ensures) ∙ sym c.in_ok-text.ensures ∙ c.in-None.is) ∙ ap (λ n. Breaks (Faulted n) tt) (sym c.new.ensures)))

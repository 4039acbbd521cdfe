use Rattle.std.proofs.Common.{ℕ, Option, sym, ap, ◌∙◌}
use Rattle.grammar_machine.specs.MachineJudge.{judge_of}
use Rattle.polish_code.specs.Walk.{Spot}
use Rattle.session_model.specs.Talk as talk
use Rattle.session_model.specs.Talk.{loaded, program_by, runs, runs_chained}
use Rattle.command_level.proofs.Chained.{run_from, run_lost}
use Rattle.command_level.proofs.Lows.{loaded_low}
use Rattle.command_level.proofs.session.Session.chain_to.Goals as goal

pub returns-in_err-load-clause-path : goal.returns-in_err-load-clause-path
returns-in_err-load-clause-path g c count p s low = run_lost _ _ c.from_residual.ensures.1

pub returns-clause-path : goal.returns-clause-path
returns-clause-path g c count p s low =
    let name = c.args.read.0 in
    let text = c.args.read.1 in
    run_from (λ most. ap (λ (line : Option ℕ). runs (runs_chained judge_of most (count most)) (program_by judge_of text) most line (loaded name text s)) (ap (λ (u : talk.Session Spot). u.job.destination.line) low))
    (c.start.ensures.path count (loaded name text s) (record {
      program = p;
      low = sym (loaded_low p name text s) ∙ ap (loaded name text) low ∙ sym c.in_ok-load.ensures;
      fits = tt;
    }))

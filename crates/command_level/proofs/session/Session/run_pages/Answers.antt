use Rattle.std.proofs.Common.{ℕ, Option, ap, sym, ◌∙◌}
use Rattle.basic_values.specs.declared.errors.TheConstants.{DATA_FORMAT_ERROR}
use Rattle.grammar_machine.specs.MachineJudge.{judge_of}
use Rattle.basic_tree.specs.ProgramLines.{Lines}
use Rattle.session_model.specs.Talk.{loaded, reports, runs_loaded}
use Rattle.session_model.specs.Texts.{fault_report}
use Rattle.command_level.specs.Seen.{seen}
use Rattle.command_level.proofs.Ends.{ok_map}
use Rattle.command_level.proofs.Lows.{loaded_low}
use Rattle.command_level.proofs.Runs.{serves_lost, serves_report}
use Rattle.command_level.proofs.Serving.{serves_from}
use Rattle.command_level.proofs.session.Session.run_pages.Goals as goal

pub returns-in_err-found : goal.returns-in_err-found
returns-in_err-found g c s st = serves_lost _ _ c.from_residual.ensures.1

pub returns-in_err-load-in-Some : goal.returns-in_err-load-in-Some
returns-in_err-load-in-Some g c s st = serves_lost _ _ c.from_residual-in_err-load-in-Some.ensures.1

pub returns-in_ok-load-in-Some : goal.returns-in_ok-load-in-Some
returns-in_ok-load-in-Some g c s st =
    let name = c.args.name in
    let text = c.in-Some.text in
    serves_from (λ most. ap (λ (o : Option Lines). runs_loaded judge_of most name o s) (sym c.in_ok-found.ensures ∙ c.in-Some.is))
    (c.run_program.ensures (loaded name text s) (record {
      program = st.program;
      low = sym (loaded_low st.program name text s) ∙ ap (loaded name text) st.low ∙ sym c.in_ok-load-in-Some.ensures;
      fits = tt;
    }))

pub returns-in-None : goal.returns-in-None
returns-in-None g c s st =
    serves_from (λ most. ap (λ (o : Option Lines). runs_loaded judge_of most c.args.name o s) (sym c.in_ok-found.ensures ∙ c.in-None.is))
    (serves_report c.args.self.now c.refuse_by.new.self s st (fault_report DATA_FORMAT_ERROR) c.refuse_by.result
    (ok_map c.refuse_by.result (λ on same. ap (λ (n : ℕ). reports (fault_report n) (seen c.args.self.now)) (sym c.new.ensures) ∙ same) c.refuse_by.ensures))

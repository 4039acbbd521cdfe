use Rattle.std.proofs.Common.{◌≡◌, subst, sym, ap, ◌∙◌, Err, rules}
use Rattle.std.specs.Prelude.{IfOk}
use Rattle.basic_tree.specs.LineVerdicts as grammar
use Rattle.grammar_machine.specs.MachineJudge.{judge_of}
use Rattle.basic_tree.specs.declared.tokens.Cause.{Cause}
use Rattle.basic_values.specs.declared.failures.Trouble.{Trouble}
use Rattle.session_model.specs.Talk.{answered, immediate, does_line}
use Rattle.session_model.specs.Texts.{refusal_text}
use Rattle.command_level.proofs.Runs.{serves_answer}
use Rattle.command_level.proofs.Serving.{serves_from, serves_nothing}
use Rattle.command_level.specs.AfterLines.{goes}
use Rattle.command_level.specs.Seen.{seen}
use Rattle.command_level.specs.Standing.{HasVerdict}
use Rattle.command_level.proofs.session.Session.run_statement.Goals as goal

pub returns-in-Ok : goal.returns-in-Ok
returns-in-Ok g c s st =
    let read = c.in-Ok.ensures in
    serves_from (λ most. ap (λ (v : grammar.Verdict). immediate judge_of v most s) read.1 ∙ ap (λ ss. does_line judge_of ss most s) (sym read.2)) (c.do_line.ensures s st)

pub returns-in-Err-Refused : goal.returns-in-Err-Refused
returns-in-Err-Refused g c s st =
    let refused : judge_of c.args.statement.now ≡ grammar.RefusedFor c.in-Err-Refused.cause = subst (λ (e : Trouble Cause). HasVerdict (judge_of c.args.statement.now) (Err e)) c.in-Err-Refused.field-0-is c.in-Err-Refused.ensures in
    let told : IfOk c.answer.result (λ onward. answered (refusal_text c.in-Err-Refused.cause) (seen c.args.self.now) ≡ goes onward (seen c.answer.new.self)) = search rules in
    serves_from (λ most. ap (λ (v : grammar.Verdict). immediate judge_of v most s) refused)
    (serves_answer c.args.self.now c.answer.new.self s st (refusal_text c.in-Err-Refused.cause) c.answer.result told)

pub returns-in-Err-NoMemory : goal.returns-in-Err-NoMemory
returns-in-Err-NoMemory g c s st = serves_nothing _

use Rattle.std.proofs.Common.{sym, ap, subst, refl, ◌∙◌, Err, Result}
use Rattle.basic_values.specs.declared.failures.Trouble.{Trouble}
use Rattle.basic_eval.specs.declared.exits.Exit.{Exit}
use Rattle.basic_eval.specs.declared.exits.Exit.TheVariants as exit
use Rattle.basic_eval.specs.Acting as acting
use Rattle.command_level.specs.Chaining.{IsReached}
use Rattle.command_level.specs.declared.chains.Reached.TheVariants as reached
use Rattle.command_level.proofs.Chained.{line_at, line_over, line_chains, line_lost, not_the_chain}
use Rattle.command_level.proofs.session.Session.end_line.Goals as goal

pub returns-in-Ok : goal.returns-in-Ok
returns-in-Ok g c start before line p s meaning rest fits means =
    line_over line p s meaning c.args.self.now c.end_line_by.new.self exit.Ended c.end_line_by.result refl fits c.end_line_by.ensures
    (line_at line p s meaning c.args.self.now c.args.end exit.Ended (subst (λ (end : Result (Unit {0}) (Trouble Exit)). IsReached end (reached.End exit.Ended)) (sym c.in-Ok.is) refl) rest means)

pub returns-in-Chained : goal.returns-in-Chained
returns-in-Chained g c start before line p s meaning rest fits means =
    let why = c.in-Err-Refused.why in
    line_chains line p s meaning c.args.self.now c.chain_from_line.new.self why c.chain_from_line.result c.in-Chained.is (λ j low. c.chain_from_line.ensures p s j low fits)
    (line_at line p s meaning c.args.self.now c.args.end why (subst (λ (end : Result (Unit {0}) (Trouble Exit)). IsReached end (reached.End why)) (sym (c.in-Err-Refused.is ∙ ap Err c.in-Err-Refused.field-0-is)) refl) rest means)

pub returns-in_default : goal.returns-in_default
returns-in_default g c start before line p s meaning rest fits means =
    let why = c.in-Err-Refused.why in
    line_over line p s meaning c.args.self.now c.end_line_by-in_default.new.self why c.end_line_by-in_default.result (not_the_chain why c.in_default.not-Chained) fits c.end_line_by-in_default.ensures
    (line_at line p s meaning c.args.self.now c.args.end why (subst (λ (end : Result (Unit {0}) (Trouble Exit)). IsReached end (reached.End why)) (sym (c.in-Err-Refused.is ∙ ap Err c.in-Err-Refused.field-0-is)) refl) rest means)

pub returns-in-Err-NoMemory : goal.returns-in-Err-NoMemory
returns-in-Err-NoMemory g c start before line p s meaning rest fits means =
    line_lost line p s meaning c.args.self.now (acting.seen c.args.self.now.running) c.args.end _ (c.in-Err-NoMemory.is ∙ ap Err c.in-Err-NoMemory.field-0-is) means

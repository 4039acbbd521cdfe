use Rattle.std.proofs.Common.{◌∙◌, false, arith}
use Rattle.grammar_machine.specs.MachineSentences.{on_form}
use Rattle.statement_parts.proofs.Steps.{states_on_from}
use Rattle.statement_rows.specs.declared.rests.Rest.TheVariants as rest
use Rattle.statement_rows.specs.Rests.{rest_form}
use Rattle.statement_rows.proofs.rests.on.Goals as goal

pub returns-then-if_key : goal.returns-then-if_key
returns-then-if_key c =
    states_on_from c.args.levels c.args.words.now c.args.from _ on_form (rest_form rest.OnError) c.stated.result
    (omega (arith, c.in_ok-at.ensures.0.0))
    (λ k vs. c.in_ok-at.ensures.1 c.args.levels _ k vs ∙ c.if-if_key.ensures.stands.1 c.args.levels _ _ k vs)
    c.stated.ensures

pub returns : goal.returns
returns c =
    states_on_from c.args.levels c.args.words.now c.args.from _ on_form (rest_form rest.OnLines) c.stated-2.result
    c.in_ok-at.ensures.0.0
    (λ k vs. c.in_ok-at.ensures.1 c.args.levels _ k vs ∙ c.if-if_key.ensures.stands c.args.levels false _ _ k vs)
    c.stated-2.ensures

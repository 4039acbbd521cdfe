use Rattle.std.proofs.Common.{◌∙◌, false, arith}
use Rattle.grammar_machine.specs.MachineSentences.{mat_form}
use Rattle.statement_parts.proofs.Steps.{states_on_from}
use Rattle.statement_rows.specs.declared.rests.Rest.TheVariants as rest
use Rattle.statement_rows.specs.Rests.{rest_form}
use Rattle.statement_rows.proofs.rests.mat.Goals as goal

pub returns-then-if_key : goal.returns-then-if_key
returns-then-if_key c =
    states_on_from c.args.levels c.args.words.now c.args.from _ mat_form (rest_form rest.MatRead) c.stated.result
    (omega (arith, c.in_ok-at.ensures.0.0))
    (λ k vs. c.in_ok-at.ensures.1 c.args.levels _ k vs ∙ c.if-if_key.ensures.stands.1 c.args.levels _ _ k vs)
    c.stated.ensures

pub returns-then-if_key-2 : goal.returns-then-if_key-2
returns-then-if_key-2 c =
    states_on_from c.args.levels c.args.words.now c.args.from _ mat_form (rest_form rest.MatPrint) c.stated-then-if_key-2.result
    (omega (arith, c.in_ok-at.ensures.0.0))
    (λ k vs.
    c.in_ok-at.ensures.1 c.args.levels _ k vs
    ∙ c.if-if_key.ensures.stands c.args.levels false _ _ k vs
    ∙ c.if-if_key-2.ensures.stands.1 c.args.levels _ _ k vs)
    c.stated-then-if_key-2.ensures

pub returns : goal.returns
returns c =
    states_on_from c.args.levels c.args.words.now c.args.from _ mat_form (rest_form rest.MatLet) c.stated-2.result
    c.in_ok-at.ensures.0.0
    (λ k vs.
    c.in_ok-at.ensures.1 c.args.levels _ k vs
    ∙ c.if-if_key.ensures.stands c.args.levels false _ _ k vs
    ∙ c.if-if_key-2.ensures.stands c.args.levels false _ _ k vs)
    c.stated-2.ensures

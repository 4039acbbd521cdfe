-- The targets and their value lead to the statement.
use Rattle.std.proofs.Common.{rules, ◌∙◌, false}
use Rattle.basic_tree.specs.Trees.{Let}
use Rattle.grammar_machine.specs.MachineForms.{says, targets_form}
use Rattle.grammar_machine.proofs.FormSteps.{run_made}
use Rattle.statement_parts.specs.ParsedForms.{States}
use Rattle.statement_parts.proofs.Steps.{on_err}
use Rattle.basic_stmt.proofs.values.assigned.Goals as goal

pub returns-in_err-found : goal.returns-in_err-found
returns-in_err-found c =
    let e = c.in_err-found in
    on_err (States c.args.levels c.args.words.now c.args.from (targets_form false)) _ e.field-0.0 (search rules)
    (e.ensures.0, λ halt is k vs. e.ensures.1 (λ ts value. says (Let false ts value)) halt is k vs)

pub returns : goal.returns
returns c = (
  c.in_ok-found.ensures.0,
  λ k vs. c.in_ok-found.ensures.1 (λ ts value. says (Let false ts value)) k vs ∙ run_made c.args.levels _ _ k vs,
)

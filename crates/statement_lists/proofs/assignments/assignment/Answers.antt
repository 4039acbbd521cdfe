use Rattle.std.proofs.Common.{rules, ◌∙◌, ap, arith, map, Bool}
use Rattle.basic_tree.specs.SpellingExpressions.{want_of}
use Rattle.basic_tree.specs.TreeViews.{tree_of, target_of}
use Rattle.statement_lists.specs.ListForms.{assigned_form}
use Rattle.statement_lists.specs.Items.{target_item}
use Rattle.statement_parts.specs.ParsedForms.{Parts}
use Rattle.statement_lists.proofs.AssignmentSteps.{first_halts, others_halt, value_halts, assignment_whole}
use Rattle.statement_lists.proofs.ListSteps.{targets_same}
use Rattle.statement_parts.proofs.Steps.{on_err}
use Rattle.statement_lists.proofs.assignments.assignment.Goals as goal

pub returns-in_err-first : goal.returns-in_err-first
returns-in_err-first c =
    let e = c.in_err-first in
    on_err (Parts c.args.levels c.args.words.now c.args.from assigned_form (λ x g. g (map target_of x.targets) (tree_of x.value))) _ e.field-0.0 (search rules)
    (e.ensures.0, first_halts c.args.levels c.args.words.now c.args.from e.field-0.0 e.ensures.1)

pub returns-in_err-targets : goal.returns-in_err-targets
returns-in_err-targets c =
    let e = c.in_err-targets in
    on_err (Parts c.args.levels c.args.words.now c.args.from assigned_form (λ x g. g (map target_of x.targets) (tree_of x.value))) _ e.field-0.0 (search rules)
    (e.ensures.0, others_halt c.args.levels c.args.words.now c.args.from _ (target_of c.in_ok-first.field-0.value) _ (c.want_of-kind.ensures ∙ ap (λ (text : Bool). want_of text) c.target_text.ensures) c.in_ok-first.ensures.1 e.field-0.0 e.ensures.1)

pub returns-in-Ok : goal.returns-in-Ok
returns-in-Ok c =
    let e = c.in-Ok in (
      (omega (arith, c.in_ok-first.ensures.0, c.in_ok-targets.ensures.0, e.ensures.0), e.ensures.0.1),
      assignment_whole c.args.levels c.args.words.now c.args.from _ (target_of c.in_ok-first.field-0.value) _ (c.want_of-kind.ensures ∙ ap (λ (text : Bool). want_of text) c.target_text.ensures) c.in_ok-first.ensures.1 _ (map target_item c.in_ok-targets.field-0.value) c.in_ok-targets.ensures.1 _ _ _ (targets_same c.in_ok-targets.field-0.value) e.ensures.1,
    )

pub returns-in-Err : goal.returns-in-Err
returns-in-Err c =
    let e = c.in-Err in
    (e.ensures.0, value_halts c.args.levels c.args.words.now c.args.from _ (target_of c.in_ok-first.field-0.value) _ (c.want_of-kind.ensures ∙ ap (λ (text : Bool). want_of text) c.target_text.ensures) c.in_ok-first.ensures.1 _ (map target_item c.in_ok-targets.field-0.value) c.in_ok-targets.ensures.1 e.failure e.ensures.1)

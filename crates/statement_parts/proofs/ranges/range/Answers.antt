use Rattle.std.proofs.Common.{rules, arith, option_map}
use Rattle.basic_tree.specs.TreeViews.{tree_of}
use Rattle.grammar_machine.specs.MachineForms.{range_form}
use Rattle.statement_parts.specs.ParsedForms.{Parts}
use Rattle.statement_parts.proofs.RangeSteps.{variable_halts, start_halts, limits_halt, range_whole}
use Rattle.statement_parts.proofs.Steps.{on_err}
use Rattle.statement_parts.proofs.ranges.range.Goals as goal

pub returns-in_err-variable : goal.returns-in_err-variable
returns-in_err-variable c =
    let e = c.in_err-variable in
    on_err (Parts c.args.levels c.args.words.now c.args.from range_form (λ x g. g x.variable (tree_of x.start) (tree_of x.limit) (option_map tree_of x.step))) _ e.field-0.0 (search rules)
    (e.ensures.0, variable_halts c.args.levels c.args.words.now c.args.from e.field-0.0 e.ensures.1)

pub returns-in_err-start : goal.returns-in_err-start
returns-in_err-start c =
    let e = c.in_err-start in
    on_err (Parts c.args.levels c.args.words.now c.args.from range_form (λ x g. g x.variable (tree_of x.start) (tree_of x.limit) (option_map tree_of x.step))) _ e.field-0.0 (search rules)
    (e.ensures.0, start_halts c.args.levels c.args.words.now c.args.from _ _ e.field-0.0 c.in_ok-variable.ensures.1 e.ensures.1)

pub returns-in-Err : goal.returns-in-Err
returns-in-Err c =
    let e = c.in-Err in
    (e.ensures.0, limits_halt c.args.levels c.args.words.now c.args.from _ _ _ _ _ c.in_ok-variable.ensures.1 c.in_ok-start.ensures.1 e.ensures.1)

pub returns-in-Ok : goal.returns-in-Ok
returns-in-Ok c =
    let e = c.in-Ok in (
      (omega (arith, c.in_ok-variable.ensures.0, c.in_ok-start.ensures.0, e.ensures.0), e.ensures.0.1),
      range_whole c.args.levels c.args.words.now c.args.from _ _ _ _ _ _ _ c.in_ok-variable.ensures.1 c.in_ok-start.ensures.1 e.ensures.1,
    )

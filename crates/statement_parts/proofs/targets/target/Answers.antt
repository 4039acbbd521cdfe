use Rattle.std.proofs.Common.{rules, ◌+◌}
use Rattle.basic_tree.specs.TreeViews.{tree_of, target_of}
use Rattle.grammar_machine.specs.MachineStack.{TargetOf}
use Rattle.statement_parts.specs.ParsedForms.{Parts}
use Rattle.statement_parts.proofs.Steps.{on_err}
use Rattle.statement_parts.proofs.TargetSteps.{target_halts, no_other_target}
use Rattle.statement_parts.proofs.targets.target.Goals as goal

pub returns-in_err-found-in-Some : goal.returns-in_err-found-in-Some
returns-in_err-found-in-Some c =
    let e = c.in_err-found-in-Some in
    on_err (Parts c.args.levels c.args.words.now c.args.from (TargetOf c.args.want) (λ x g. g (target_of x))) _ e.field-0.0 (search rules)
    (target_halts c.args.levels c.args.words.now c.in-Some.name c.args.want c.args.from e.field-0.0 c.in-Some.ensures.stands (search rules) e.ensures.reads)

pub unreachable-requires : goal.unreachable-requires
unreachable-requires c =
    let found = c.in_ok-found-in-Some in
    no_other_target c.args.levels c.args.words.now c.in-Some.name (c.args.from + 1) found.found.end (tree_of found.found.tree) (search rules) found.ensures.reads c.in-None-into_target.ensures.same_tree

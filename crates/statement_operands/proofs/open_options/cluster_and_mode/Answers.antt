use Rattle.std.proofs.Common.{rules, ◌∙◌, Some, option_map}
use Rattle.basic_tree.specs.TreeViews.{tree_of}
use Rattle.grammar_machine.specs.MachineForms.{mode_form, cluster_form}
use Rattle.statement_parts.specs.ParsedForms.{PartsFrom}
use Rattle.statement_parts.proofs.Steps.{on_err}
use Rattle.statement_operands.proofs.open_options.cluster_and_mode.Goals as goal

pub returns-in_err-mode : goal.returns-in_err-mode
returns-in_err-mode c =
    let e = c.in_err-mode in
    on_err (PartsFrom c.args.levels c.args.words.now c.args.from cluster_form (λ x g. g (option_map tree_of x.0) (option_map tree_of x.1))) _ e.field-0.0 (search rules) (
      e.ensures.0,
      λ g halt is k vs.
          c.if-if_sign.ensures.stands.1 c.args.levels _ _ k vs
          ∙ c.if-if_key.ensures.stands.1 c.args.levels _ _ k vs
          ∙ c.in_ok-size.ensures.1 (λ n. mode_form (g (Some n))) k vs
          ∙ e.ensures.1 (g (Some (tree_of c.in_ok-size.field-0.value))) halt is k vs,
    )

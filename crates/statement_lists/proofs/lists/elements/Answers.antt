use Rattle.std.proofs.Common.{rules, ◌∙◌, [], ◌∷◌, map, arith}
use Rattle.grammar_machine.specs.MachineStack.{MoreOf}
use Rattle.grammar_machine.specs.MachineForms.{list_form}
use Rattle.statement_parts.specs.ParsedForms.{Parts}
use Rattle.statement_parts.proofs.Steps.{on_err}
use Rattle.statement_lists.proofs.lists.elements.Goals as goal

pub returns-in_err-items : goal.returns-in_err-items
returns-in_err-items g c =
    let e = c.in_err-items in
    on_err (Parts c.args.levels c.args.words.now c.args.from (list_form (g.T.Element.sequence c.args.want)) (λ x h. h (map g.T.Element.item x))) _ e.field-0.0 (search rules) (
      e.ensures.0,
      λ h halt is k vs.
          c.in_ok-first.ensures.1 (λ item. MoreOf (g.T.Element.sequence c.args.want) (item ∷ []) h) k vs
          ∙ e.ensures.1 h halt is k vs,
    )

pub returns : goal.returns
returns g c = (
  (omega (arith, c.in_ok-first.ensures.0.0, c.in_ok-items.ensures.0.0), c.in_ok-items.ensures.0.1),
  λ h k vs.
      c.in_ok-first.ensures.1 (λ item. MoreOf (g.T.Element.sequence c.args.want) (item ∷ []) h) k vs
      ∙ c.in_ok-items.ensures.1 h k vs,
)

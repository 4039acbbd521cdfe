use Rattle.std.proofs.Common.{rules, map, [], ◌∷◌}
use Rattle.std.proofs.lemmas.List.{length-map}
use Rattle.grammar_machine.specs.MachineStack.{MoreOf}
use Rattle.statement_parts.specs.ParsedForms.{PartsFrom}
use Rattle.statement_lists.proofs.ListSteps.{list_halts}
use Rattle.statement_parts.proofs.Steps.{on_err}
use Rattle.statement_lists.proofs.lists.more_elements.Goals as goal

pub returns-in_err-item : goal.returns-in_err-item
returns-in_err-item g c =
    let e = c.in_err-item in
    on_err (PartsFrom c.args.levels c.args.words.now c.args.from (MoreOf (g.T.Element.sequence c.args.want) (g.T.Element.item c.args.first ∷ [])) (λ x h. h (map g.T.Element.item x))) _ e.field-0.0 (search rules)
    (e.ensures.0, list_halts c.args.levels c.args.words.now (g.T.Element.sequence c.args.want) c.args.from c.more.end (g.T.Element.item c.args.first) (map g.T.Element.item c.more.items.items) c.has_room.result e.field-0.0 c.more.invariant c.more-test.ensures.adds (c.has_room.ensures _ (simp length-map (search rules))) e.ensures.1)

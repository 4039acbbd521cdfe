use Rattle.std.proofs.Common.{arith}
use Rattle.basic_tree.specs.StatementViews.{statement_of}
use Rattle.basic_tree.specs.TreeViews.{modifier_of}
use Rattle.statement_modifiers.proofs.ModifierSteps.{all_modified}
use Rattle.statement_modifiers.proofs.modifier_list.+modifiers.Goals as goal

pub returns : goal.returns
returns t c =
    let m = c.in_ok-modifier in
    all_modified c.args.levels c.args.words.now c.args.from m.field-0.end c.in-Some.kind (statement_of c.args.statement) (statement_of c.in_ok-statement.statement) (modifier_of m.field-0.value) c.modifiers.result (omega arith) (omega (arith, m.ensures.0.0)) c.in-Some.ensures.kind m.ensures.1 c.in_ok-statement.ensures.statement c.modifiers.ensures

use Rattle.std.proofs.Common.{rules, ◌∙◌, false, [], option_map}
use Rattle.basic_tree.specs.declared.tokens.Sign.TheVariants as sign
use Rattle.basic_tree.specs.TreeViews.{tree_of}
use Rattle.grammar_machine.specs.MachineStack.{TakeSign}
use Rattle.grammar_machine.specs.MachineSentences.{using_form}
use Rattle.statement_parts.specs.ParsedForms.{States}
use Rattle.statement_parts.proofs.Steps.{on_err}
use Rattle.statement_lists.specs.Usings.{value_form}
use Rattle.statement_lists.proofs.using.print_using.Goals as goal

pub returns-in_err-found : goal.returns-in_err-found
returns-in_err-found c =
    let e = c.in_err-found in
    let channel = option_map tree_of c.args.channel in
    on_err (States c.args.levels c.args.words.now c.args.from (using_form channel)) _ e.field-0.0 (search rules) (
      e.ensures.0,
      λ halt is k vs.
          c.in_ok-format.ensures.1 (λ format. TakeSign false sign.Comma (value_form channel format [])) k vs
          ∙ c.in_ok-at.ensures.1 c.args.levels _ k vs
          ∙ e.ensures.1 channel _ halt is k vs,
    )

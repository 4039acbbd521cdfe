use Rattle.std.proofs.Common.{rules, true, ◌∙◌, ◌-◌, ℕ, Option, arith}
use Rattle.basic_tree.specs.declared.names.Name.{Name}
use Rattle.basic_tree.specs.declared.parts.Shape.{Shape}
use Rattle.basic_tree.specs.declared.tokens.Sign.TheVariants as sign
use Rattle.grammar_machine.specs.MachineForms.{shape_form}
use Rattle.grammar_machine.specs.MachineStack.{Form, TakeSign, TakeClosing, LiteralIn, Bound}
use Rattle.statement_lists.specs.ListForms.{second_form}
use Rattle.statement_parts.specs.ParsedForms.{Parts}
use Rattle.statement_parts.proofs.Steps.{on_err}
use Rattle.statement_lists.proofs.list_elements.shape.Goals as goal

-- what is expected after the second bound, the first, the parenthesis and the name
abbrev behind_second : Name → ℕ → (Shape → Form) → Option ℕ → Form
behind_second name first g second = TakeClosing (g (record { name = name; first = first; second = second }))

abbrev behind_first : Name → (Shape → Form) → ℕ → Form
behind_first name g first = second_form (behind_second name first g)

abbrev bounds : Name → (Shape → Form) → Form
bounds name g = LiteralIn Bound (behind_first name g)

abbrev behind_name : (Shape → Form) → Name → Form
behind_name g name = TakeSign true sign.Opening (bounds name g)

pub returns-in_err-name : goal.returns-in_err-name
returns-in_err-name c =
    let e = c.in_err-name in
    on_err (Parts c.args.levels c.args.words.now c.args.from shape_form (λ x g. g x)) _ e.field-0.0 (search rules)
    (e.ensures.0, λ g halt is k vs. e.ensures.1 c.args.levels (behind_name g) halt is k vs)

pub returns-in_err-opened : goal.returns-in_err-opened
returns-in_err-opened c =
    let e = c.in_err-opened in
    on_err (Parts c.args.levels c.args.words.now c.args.from shape_form (λ x g. g x)) _ e.field-0.0 (search rules) (
      e.ensures.0,
      λ g halt is k vs.
          c.in_ok-name.ensures.1 c.args.levels (behind_name g) k vs
          ∙ e.ensures.1 (bounds c.in_ok-name.field-0.value g) halt is k vs,
    )

pub returns-in_err-first : goal.returns-in_err-first
returns-in_err-first c =
    let e = c.in_err-first in
    on_err (Parts c.args.levels c.args.words.now c.args.from shape_form (λ x g. g x)) _ e.field-0.0 (search rules) (
      e.ensures.0,
      λ g halt is k vs.
          c.in_ok-name.ensures.1 c.args.levels (behind_name g) k vs
          ∙ c.in_ok-opened.ensures.2 (bounds c.in_ok-name.field-0.value g) k vs
          ∙ e.ensures.1 (c.args.levels - 1) (behind_first c.in_ok-name.field-0.value g) halt is k vs,
    )

pub returns-in_err-second : goal.returns-in_err-second
returns-in_err-second c =
    let e = c.in_err-second in
    on_err (Parts c.args.levels c.args.words.now c.args.from shape_form (λ x g. g x)) _ e.field-0.0 (search rules) (
      e.ensures.0,
      λ g halt is k vs.
          c.in_ok-name.ensures.1 c.args.levels (behind_name g) k vs
          ∙ c.in_ok-opened.ensures.2 (bounds c.in_ok-name.field-0.value g) k vs
          ∙ c.in_ok-first.ensures.1 (c.args.levels - 1) (behind_first c.in_ok-name.field-0.value g) k vs
          ∙ e.ensures.1 (c.args.levels - 1) (behind_second c.in_ok-name.field-0.value c.in_ok-first.field-0.value g) halt is k vs,
    )

pub returns-in_err-end : goal.returns-in_err-end
returns-in_err-end c =
    let e = c.in_err-end in
    on_err (Parts c.args.levels c.args.words.now c.args.from shape_form (λ x g. g x)) _ e.field-0.0 (search rules) (
      e.ensures.0,
      λ g halt is k vs.
          c.in_ok-name.ensures.1 c.args.levels (behind_name g) k vs
          ∙ c.in_ok-opened.ensures.2 (bounds c.in_ok-name.field-0.value g) k vs
          ∙ c.in_ok-first.ensures.1 (c.args.levels - 1) (behind_first c.in_ok-name.field-0.value g) k vs
          ∙ c.in_ok-second.ensures.1 (c.args.levels - 1) (behind_second c.in_ok-name.field-0.value c.in_ok-first.field-0.value g) k vs
          ∙ e.ensures.1 (c.args.levels - 1) (g (record { name = c.in_ok-name.field-0.value; first = c.in_ok-first.field-0.value; second = c.in_ok-second.field-0.value })) halt is k vs,
    )

pub returns : goal.returns
returns c = (
  (omega (arith, c.in_ok-name.ensures.0, c.in_ok-opened.ensures.0, c.in_ok-first.ensures.0, c.in_ok-second.ensures.0, c.in_ok-end.ensures.0), c.in_ok-end.ensures.0.1),
  λ g k vs.
      c.in_ok-name.ensures.1 c.args.levels (behind_name g) k vs
      ∙ c.in_ok-opened.ensures.2 (bounds c.in_ok-name.field-0.value g) k vs
      ∙ c.in_ok-first.ensures.1 (c.args.levels - 1) (behind_first c.in_ok-name.field-0.value g) k vs
      ∙ c.in_ok-second.ensures.1 (c.args.levels - 1) (behind_second c.in_ok-name.field-0.value c.in_ok-first.field-0.value g) k vs
      ∙ c.in_ok-end.ensures.1 (g (record { name = c.in_ok-name.field-0.value; first = c.in_ok-first.field-0.value; second = c.in_ok-second.field-0.value })) k vs,
)

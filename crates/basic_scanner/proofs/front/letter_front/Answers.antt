use Rattle.std.proofs.Common.{sym, ap, ◌∙◌, arith}
use Rattle.basic_tree.specs.Tokens.{name_front}
use Rattle.basic_tree.specs.declared.tokens.TokenKind.TheVariants as kind
use Rattle.basic_scanner.proofs.FrontSteps.{letter_keyword, letter_function, letter_variable}
use Rattle.basic_scanner.proofs.front.letter_front.Goals as goal

pub returns-then-len-gt0 : goal.returns-then-len-gt0
returns-then-len-gt0 c =
    c.keyword_front.ensures ∙ sym (letter_keyword _ _ c.keyword_length-len.ensures.value c.if-len-gt0.true)

pub returns-then-begins_function : goal.returns-then-begins_function
returns-then-begins_function c =
    c.name_front.ensures
    ∙ ap (λ end. name_front kind.FnName end c.args.rest.now) c.name_end.ensures.value
    ∙ sym (letter_function _ (omega (arith, c.keyword_length-len.ensures.value, c.if-len-gt0.false)) (sym c.if-begins_function.ensures))

pub returns-else-begins_function : goal.returns-else-begins_function
returns-else-begins_function c =
    c.name_front-else-begins_function.ensures
    ∙ ap (λ end. name_front kind.Variable end c.args.rest.now) c.name_end-else-begins_function.ensures.value
    ∙ sym (letter_variable _ (omega (arith, c.keyword_length-len.ensures.value, c.if-len-gt0.false)) (sym c.if-begins_function.ensures))

use Rattle.std.proofs.Common.{sym, ap, ◌∙◌, arith}
use Rattle.std.proofs.lemmas.List.{take_rest}
use Rattle.basic_tree.specs.Tokens.{is_floating}
use Rattle.basic_scanner.proofs.FrontSteps.{digit_floating, digit_wide, digit_percent, digit_plain}
use Rattle.basic_scanner.proofs.front.digit_front.Goals as goal

pub returns-then-is_floating : goal.returns-then-is_floating
returns-then-is_floating c =
    sym (digit_floating _ _ c.digits_length-len.ensures.value (ap is_floating (sym (take_rest c.args.rest.now _)) ∙ sym c.if-is_floating.ensures))

pub returns-then-capped_value-eq-TOO_WIDE : goal.returns-then-capped_value-eq-TOO_WIDE
returns-then-capped_value-eq-TOO_WIDE c =
    sym (digit_wide _ _ c.digits_length-len.ensures.value (ap is_floating (sym (take_rest c.args.rest.now _)) ∙ sym c.if-is_floating.ensures) (omega (arith, c.capped_value.ensures, c.if-capped_value-eq-TOO_WIDE.true)))

pub returns-then-byte_at-eq37 : goal.returns-then-byte_at-eq37
returns-then-byte_at-eq37 c =
    sym (digit_percent _ _ c.digits_length-len.ensures.value (ap is_floating (sym (take_rest c.args.rest.now _)) ∙ sym c.if-is_floating.ensures) (omega (arith, c.capped_value.ensures, c.if-capped_value-eq-TOO_WIDE.false)) (sym c.byte_at.ensures ∙ c.if-byte_at-eq37.true))

pub returns-else-byte_at-eq37 : goal.returns-else-byte_at-eq37
returns-else-byte_at-eq37 c =
    sym (digit_plain _ _ c.digits_length-len.ensures.value (ap is_floating (sym (take_rest c.args.rest.now _)) ∙ sym c.if-is_floating.ensures) (omega (arith, c.capped_value.ensures, c.if-capped_value-eq-TOO_WIDE.false)) (λ is. c.if-byte_at-eq37.false (c.byte_at.ensures ∙ is)))

use Rattle.std.proofs.Common.{◌∙◌, arith}
use Rattle.line_editor.specs.declared.numbers.TheConstants.{TOO_GREAT}
use Rattle.line_editor.proofs.DigitLemmas.{limited_step}
use Rattle.line_editor.proofs.numbers.value_of.Goals as goal

pub loop-digit-preserved : goal.loop-digit-preserved
loop-digit-preserved c =
    c.min-value.ensures ∙ limited_step c.args.digits.now c.loop-digit.digit-index c.loop-digit.value c.from.result TOO_GREAT c.requires (omega arith) c.loop-digit.invariant c.from.ensures

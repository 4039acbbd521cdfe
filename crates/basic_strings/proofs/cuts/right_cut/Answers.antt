use Rattle.std.proofs.Common.{ℕ, drop, arith, ap, ◌∙◌, length-drop, take_all}
use Rattle.basic_strings.proofs.cuts.right_cut.Goals as goal

pub returns : goal.returns
returns c text le =
    take_all 32767 (drop c.bytes_before.result text) (omega (arith, le, length-drop c.bytes_before.result text))
    ∙ ap (λ (n : ℕ). drop n text) c.bytes_before.ensures.value

use Rattle.std.proofs.Common.{◌≡◌, ℕ, true, take, subst, sym}
use Rattle.std.specs.Char.{is_ascii_digit}
use Rattle.std.specs.List.{list_all}
use Rattle.line_editor.proofs.DigitLemmas.{front_passes}
use Rattle.line_editor.proofs.numbers.line_number.Goals as goal

pub value_of-requires : goal.value_of-requires
value_of-requires c =
    subst (λ (k : ℕ). list_all is_ascii_digit (take k c.args.line.now) ≡ true) (sym c.digits_in_front-count.ensures.count) (front_passes is_ascii_digit c.args.line.now)

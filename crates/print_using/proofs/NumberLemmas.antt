-- What is written of a number in its field.
use Rattle.std.proofs.Common.{◌≡◌, ℕ, ◌+◌, ◌*◌, Bool, true, false, List, [], ◌++◌, sym, ap, ◌∙◌, append_assoc, append-nil, arith}
use Rattle.std.specs.Prelude.{ℤ}
use mir.Val.{bool_byte}
use Rattle.print_using.specs.Fields.{field_places, filler_of, placed_right, digits_written, minus_written, number_written}

pub places_are : (starred : Bool) (byte signs : ℕ) → byte ≡ bool_byte starred → byte * 2 + signs ≡ field_places starred signs
places_are true byte signs is = omega arith
places_are false byte signs is = omega arith

pub number_then : (old new more : List ℕ) (starred trailing : Bool) (places filler signs : ℕ) (n : ℤ) → places ≡ field_places starred signs → filler ≡ filler_of starred
    → new ≡ old ++ placed_right places filler (digits_written trailing n) → more ≡ minus_written trailing n → new ++ more ≡ old ++ number_written starred signs trailing n
number_then old new more starred trailing places filler signs n wide filled grew minus =
    ap (λ t. t ++ more) grew
    ∙ append_assoc old (placed_right places filler (digits_written trailing n)) more
    ∙ (λ i. old ++ (placed_right (wide i) (filled i) (digits_written trailing n) ++ minus i))

-- with nothing after the digits
pub number_alone : (old new : List ℕ) (starred trailing : Bool) (places filler signs : ℕ) (n : ℤ) → places ≡ field_places starred signs → filler ≡ filler_of starred
    → new ≡ old ++ placed_right places filler (digits_written trailing n) → trailing ≡ false → new ≡ old ++ number_written starred signs trailing n
number_alone old new starred trailing places filler signs n wide filled grew alone =
    sym (append-nil new) ∙ number_then old new [] starred trailing places filler signs n wide filled grew (ap (λ t. minus_written t n) (sym alone))

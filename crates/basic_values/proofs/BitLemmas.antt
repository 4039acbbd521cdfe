-- The operators on bits, place by place.
use Rattle.std.proofs.Common.{◌≡◌, ℕ, ◌-◌, ◌<◌, max, ℤ, ap, ◌∙◌, arith}
use Rattle.std.specs.Prelude.{bit_and, bit_or, bit_xor}
use Rattle.std.specs.Int.{w16, bit_at}
use Rattle.std.proofs.lemmas.Nat.{and_le_l, or_lt, xor_lt}
use Rattle.std.proofs.lemmas.Nat.Bits.{bit_at_and, bit_at_or, bit_at_xor, bit_at_not}
use Rattle.basic_values.specs.Bits.{turned}
use Rattle.basic_values.specs.Laws.{GoesByPlace, bit_of}
use Rattle.basic_values.specs.Numbers.{low_bits, signed}
use Rattle.basic_values.proofs.WrapLemmas.{low_bits-signed, low_bits-lt}

bit_at-turned : (n i : ℕ) → n < 65536 → i < 16 → bit_at (turned n) i ≡ 1 - bit_at n i
bit_at-turned n i below place = bit_at_not w16 n i below place

bit_of-signed : (n i : ℕ) → n < 65536 → bit_of (signed n) i ≡ bit_at n i
bit_of-signed n i below = ap (λ m. bit_at m i) (low_bits-signed n below)

pub by_place : (a b : ℤ) (i : ℕ) → i < 16 → GoesByPlace a b i
by_place a b i place =
    let m = low_bits a in
    let n = low_bits b in
    let fits_m : m < 65536 = low_bits-lt a in
    let fits_n : n < 65536 = low_bits-lt b in
    let fits_and : bit_and m n < 65536 = omega (arith, and_le_l m n) in
    let fits_or : bit_or m n < 65536 = or_lt 16 m n fits_m fits_n in
    let fits_xor : bit_xor m n < 65536 = xor_lt 16 m n fits_m fits_n in
    let fits_turned : turned m < 65536 = omega arith in
    let fits_imp : bit_or (turned m) n < 65536 = or_lt 16 (turned m) n fits_turned fits_n in
    record {
      and = bit_of-signed (bit_and m n) i fits_and ∙ bit_at_and m n i;
      or = bit_of-signed (bit_or m n) i fits_or ∙ bit_at_or m n i;
      xor = bit_of-signed (bit_xor m n) i fits_xor ∙ bit_at_xor m n i;
      eqv = bit_of-signed (turned (bit_xor m n)) i (omega arith) ∙ bit_at-turned (bit_xor m n) i fits_xor place ∙ ap (λ x. 1 - x) (bit_at_xor m n i);
      imp = bit_of-signed (bit_or (turned m) n) i fits_imp ∙ bit_at_or (turned m) n i ∙ ap (λ x. max x (bit_at n i)) (bit_at-turned m i fits_m place);
      not = bit_of-signed (turned m) i fits_turned ∙ bit_at-turned m i fits_m place;
    }

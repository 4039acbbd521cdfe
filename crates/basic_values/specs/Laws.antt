-- The laws of values, about definitions alone.
use Rattle.std.specs.Prelude.{◌≡◌, ◌≢◌, ◌↔◌, ◌⊎◌, ◌<◌, ◌+◌, ◌-◌, ◌%◌, ℕ, min, max, List, length, ℤ, pos, negsuc, ◌+ℤ◌, ◌*ℤ◌, ◌≤ℤ◌, unsigned_abs, int_lt}
use Rattle.std.specs.Int.{bit_at}
use Rattle.std.specs.Cmp.{IsTotalOrder}
use Rattle.std.specs.declared.cmp.Ordering.TheVariants.{Equal}
use Rattle.basic_values.specs.Arithmetic.{truncated}
use Rattle.basic_values.specs.Bits.{both, either, differing, alike, implied, negated}
use Rattle.basic_values.specs.Numbers.{low_bits, wrap}
use Rattle.basic_values.specs.Texts.{padded, order_of}

-- a number of 16 bits
abbrev pub IsInRange : ℤ → Type 0
IsInRange z = (negsuc 32767 ≤ℤ z) × (z ≤ℤ pos 32767)

-- two numbers differ by a multiple of 65536
abbrev pub DifferByMultiple : ℤ → ℤ → Type 0
DifferByMultiple a b = (times : ℤ) × (a ≡ b +ℤ times *ℤ pos 65536)

-- a wrapped number is in range and differs by a multiple of 65536, and it is the only such number
abbrev pub WrapIsTheOne : Type 0
WrapIsTheOne = (z : ℤ) →
    IsInRange (wrap z) × DifferByMultiple z (wrap z)
    × ((other : ℤ) → IsInRange other → DifferByMultiple z other → other ≡ wrap z)

-- a wrapped sum does not depend on whether its parts are wrapped before
abbrev pub WrapPassesSums : Type 0
WrapPassesSums = (a b : ℤ) → wrap (wrap a +ℤ wrap b) ≡ wrap (a +ℤ b)

-- a wrapped product does not depend on whether its factors are wrapped before
abbrev pub WrapPassesProducts : Type 0
WrapPassesProducts = (a b : ℤ) → wrap (wrap a *ℤ wrap b) ≡ wrap (a *ℤ b)

-- the number is a multiple of the divisor and a remainder, which is smaller than the divisor and
-- has the number's sign
abbrev pub DividesTowardsZero : ℤ → ℤ → Type 0
DividesTowardsZero a b =
    (rest : ℤ) × (a ≡ truncated a b *ℤ b +ℤ rest) × (unsigned_abs rest < unsigned_abs b)
    × ((rest ≡ pos 0) ⊎ (int_lt rest (pos 0) ≡ int_lt a (pos 0)))

-- a quotient drops its fraction
abbrev pub DivisionTruncates : Type 0
DivisionTruncates = (a b : ℤ) → b ≢ pos 0 → DividesTowardsZero a b

-- the bit at this place, 0 or 1
abbrev pub bit_of : ℤ → ℕ → ℕ
bit_of z place = bit_at (low_bits z) place

-- each operator on bits treats each bit by itself
pub record GoesByPlace (a b : ℤ) (place : ℕ) : Type 0 where
  pub and : bit_of (both a b) place ≡ min (bit_of a place) (bit_of b place)
  pub or : bit_of (either a b) place ≡ max (bit_of a place) (bit_of b place)
  pub xor : bit_of (differing a b) place ≡ (bit_of a place + bit_of b place) % 2
  pub eqv : bit_of (alike a b) place ≡ 1 - (bit_of a place + bit_of b place) % 2
  pub imp : bit_of (implied a b) place ≡ max (1 - bit_of a place) (bit_of b place)
  pub not : bit_of (negated a) place ≡ 1 - bit_of a place

abbrev pub BitsGoByPlace : Type 0
BitsGoByPlace = (a b : ℤ) (place : ℕ) → place < 16 → GoesByPlace a b place

-- strings are in a total order, in which two are equal exactly if they are the same after padding
pub record OrdersTexts : Type 0 where
  pub total : IsTotalOrder order_of
  pub ties : (a b : List ℕ) → (order_of a b ≡ Equal) ↔ (padded (length b) a ≡ padded (length a) b)

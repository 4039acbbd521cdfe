-- A number without its sign, and its sign.
use Rattle.std.specs.Prelude.{◌==◌, if◌then◌else◌, ℤ, pos, negsuc, unsigned_abs}
use Rattle.basic_values.specs.Numbers.{wrap}

-- the absolute value, wrapped
abbrev pub absolute : ℤ → ℤ
absolute n = wrap (pos (unsigned_abs n))

-- -1, 0 or 1
abbrev pub signum : ℤ → ℤ
signum (pos n) = if n == 0 then pos 0 else pos 1
signum (negsuc n) = negsuc 0

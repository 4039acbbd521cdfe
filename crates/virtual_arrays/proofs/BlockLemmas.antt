-- An element does not cross the end of its block.
use Rattle.std.proofs.Common.{◌≡◌, ℕ, ◌+◌, ◌*◌, ◌/◌, ◌%◌, ◌<◌, ◌≤◌, Bool, true, false, Option, Some, None, Ok, refl, sym, ap, ◌∙◌, subst, arith}
use Rattle.std.specs.Prelude.{nat_lt, if◌then◌else◌, Err}
use Rattle.std.proofs.Math.Nat.{div-add-mod, mod-lt, mod-eq_of_lt, mul-add-mod_self_left, mul-le-mul_left}
use Rattle.std.proofs.lemmas.Bool.{ltb-true}
use Rattle.basic_values.specs.declared.errors.TheConstants.{SUBSCRIPT_OUT_OF_RANGE}
use Rattle.basic_values.specs.declared.limits.TheConstants.{BLOCK_BYTES, MOST_BLOCKS}
use Rattle.record_fields.specs.Bounds.{place_under}
use Rattle.virtual_arrays.specs.declared.places.Place.{Place}
use Rattle.virtual_arrays.specs.Laws.{ElementsLieInBlocks, IsPlace}
use Rattle.virtual_arrays.specs.Places.{place_from, place_of_index}

-- a multiple of the size ends in the block in which it begins
apart_by : (size k q r : ℕ) → size * (k * q + r) ≡ (size * k) * q + size * r
apart_by size k q r = grind arith

one_more : (size r : ℕ) → size * (r + 1) ≡ size * r + size
one_more size r = grind arith

together : (size q index : ℕ) → size * q + index * size ≡ size * (q + index)
together size q index = grind arith

some_in_block : (size k : ℕ) → size * k ≡ BLOCK_BYTES → 0 < k
some_in_block size k fills = grind arith

multiple_ends : (size k n : ℕ) → size * k ≡ BLOCK_BYTES → (size * n) % BLOCK_BYTES + size ≤ BLOCK_BYTES
multiple_ends size k n fills =
    let some : 0 < k = some_in_block size k fills in
    let r : ℕ = n % k in
    let under : r < k = mod-lt n some in
    let room : size * (r + 1) ≤ size * k = mul-le-mul_left size (omega arith) in
    let fits : size * r + size ≤ BLOCK_BYTES = omega (arith, room, one_more size r, fills) in
    let whole : size * n ≡ BLOCK_BYTES * (n / k) + size * r = ap (λ (x : ℕ). size * x) (sym (div-add-mod n k)) ∙ apart_by size k (n / k) r ∙ ap (λ (x : ℕ). x * (n / k) + size * r) fills in
    let short : size * r < BLOCK_BYTES = omega (arith, fits, size_some size k fills) in
    let rest : (size * n) % BLOCK_BYTES ≡ size * r = ap (λ (x : ℕ). x % BLOCK_BYTES) whole ∙ mul-add-mod_self_left BLOCK_BYTES (n / k) (size * r) ∙ mod-eq_of_lt short in
    omega (arith, rest, fits)
  where
    size_some : (size k : ℕ) → size * k ≡ BLOCK_BYTES → 0 < size
    size_some size k fills = grind arith

ends_in_block : (size k q start index : ℕ) → size * k ≡ BLOCK_BYTES → start ≡ size * q → (start + index * size) % BLOCK_BYTES + size ≤ BLOCK_BYTES
ends_in_block size k q start index fills begins =
    let same : start + index * size ≡ size * (q + index) = ap (λ (x : ℕ). x + index * size) begins ∙ together size q index in
    subst (λ (x : ℕ). x % BLOCK_BYTES + size ≤ BLOCK_BYTES) (sym same) (multiple_ends size k (q + index) fills)

abbrev part_at : ℕ → ℕ → Place
part_at size byte = record { block = byte / BLOCK_BYTES + 1; part = record { offset = byte % BLOCK_BYTES; length = size } }

from_is_by : (size byte : ℕ) (place : Place) (b : Bool) → nat_lt (byte / BLOCK_BYTES) MOST_BLOCKS ≡ b → place_from size byte ≡ Ok place → byte % BLOCK_BYTES + size ≤ BLOCK_BYTES → IsPlace place
from_is_by size byte place true is found inside =
    let here : (if nat_lt (byte / BLOCK_BYTES) MOST_BLOCKS then Ok (part_at size byte) else Err SUBSCRIPT_OUT_OF_RANGE) ≡ Ok place = found in
    let some : Ok (part_at size byte) ≡ Ok place = rw is at here in
    let same : part_at size byte ≡ place = cc in
    let before : byte / BLOCK_BYTES < MOST_BLOCKS = ltb-true (byte / BLOCK_BYTES) MOST_BLOCKS is in
    subst IsPlace same (record { first = omega arith; last = omega (arith, before); inside = inside })
from_is_by size byte place false is found inside =
    let here : (if nat_lt (byte / BLOCK_BYTES) MOST_BLOCKS then Ok (part_at size byte) else Err SUBSCRIPT_OUT_OF_RANGE) ≡ Ok place = found in
    let none : Err SUBSCRIPT_OUT_OF_RANGE ≡ Ok place = rw is at here in
    absurd (cc)

pub lies : ElementsLieInBlocks
lies shape i j place declared found = at (place_under shape.first shape.second i j) found
  where
    at : (index : Option ℕ) → place_of_index shape.start shape.size index ≡ Ok place → IsPlace place
    at None found = absurd (cc)
    at (Some index) found =
        from_is_by shape.size (shape.start + index * shape.size) place _ refl found (ends_in_block shape.size declared.in_block declared.in_front shape.start index declared.fills declared.begins)

-- The places of a row's numbers.
use Rattle.std.proofs.Common.{◌≡◌, ℕ, ◌+◌, ◌<◌, ◌≤◌, List, length, take, drop, get_or, Option, Some, None, Result, Ok, Err, refl, sym, ap, ◌∙◌, arith}
use Rattle.std.specs.Prelude.{map, unwrap_or, IsSome, IfOk, ℤ, pos}
use Rattle.std.specs.List.{range_with_len}
use Rattle.std.proofs.Math.Nat.{mul-le-mul_right}
use Rattle.std.proofs.lemmas.List.{ext_get_or, get_or-take, get_or-drop}
use Rattle.std.proofs.lemmas.List.FromFn.{length-map-range_with_len, get_or-map-range_with_len}
use Rattle.record_fields.specs.Bounds.{count}
use Rattle.job_memory.specs.Matrices.{count_in, number_in_list}
use Rattle.basic_matrix.specs.MatrixValues.{entry_place}

pub count_in_shape : (bounds : Option (ℕ × Option ℕ)) → IsSome bounds → count_in bounds ≡ count (unwrap_or bounds (0, None)).0 (unwrap_or bounds (0, None)).1
count_in_shape (Some shape) is = refl
count_in_shape None is = absurd (cc)

-- an array that does not exist has no elements
pub count_in-le : (bounds : Option (ℕ × Option ℕ)) → count_in bounds ≤ count (unwrap_or bounds (0, None)).0 (unwrap_or bounds (0, None)).1
count_in-le (Some shape) = omega arith
count_in-le None = omega arith

-- a row that exists ends within the array
pub row_within : (first : ℕ) (second : Option ℕ) (row : ℕ) → row ≤ first → entry_place second row 1 + unwrap_or second 1 ≤ count first second
row_within first None row within = omega arith
row_within first (Some second) row within = omega (arith, mul-le-mul_right (second + 1) within)

pub with_both : {T E : Type 0} (P Q R : T → Type 0) (result : Result T E) → ((t : T) → P t → Q t → R t) → IfOk result P → IfOk result Q → IfOk result R
with_both P Q R (Ok t) each p q = each t p q
with_both P Q R (Err e) each p q = tt

place_from_1 : (second : Option ℕ) (row k : ℕ) → k < unwrap_or second 1 → entry_place second row 1 + k ≡ entry_place second row (1 + k)
place_from_1 None row k below = omega arith
place_from_1 (Some second) row k below = omega arith

pub row_is : (list part : List ℤ) (second : Option ℕ) (row : ℕ) → part ≡ take (unwrap_or second 1) (drop (entry_place second row 1) list) → length part ≡ unwrap_or second 1
    → part ≡ map (λ column. number_in_list list (entry_place second row column)) (range_with_len 1 (unwrap_or second 1))
row_is list part second row is long =
    let at : ℕ → ℤ = λ (column : ℕ). number_in_list list (entry_place second row column) in
    ext_get_or (pos 0) part (map at (range_with_len 1 (unwrap_or second 1))) (long ∙ sym (length-map-range_with_len at 1 (unwrap_or second 1))) (λ k below.
    let within : k < unwrap_or second 1 = omega (arith, long) in
    ap (λ (l : List ℤ). get_or l k (pos 0)) is ∙ get_or-take (unwrap_or second 1) (drop (entry_place second row 1) list) k (pos 0) within ∙ get_or-drop (entry_place second row 1) list k (pos 0)
    ∙ ap (λ (p : ℕ). get_or list p (pos 0)) (place_from_1 second row k within)
    ∙ sym (get_or-map-range_with_len at 1 (unwrap_or second 1) k (1 + k) (pos 0) within refl))

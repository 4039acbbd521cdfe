-- Cells after a renumbering, and which places have a subscript 0.
use Rattle.std.proofs.Common.{◌≡◌, ℕ, ◌+◌, ◌<◌, ◌≤◌, Bool, true, false, List, length, Option, Some, None, refl, sym, ap, ◌∙◌, arith}
use Rattle.std.specs.Prelude.{if◌then◌else◌, nat_le, unwrap_or, slice_index_or, IfSome, ℤ, pos, negsuc}
use Rattle.std.proofs.Math.Bool.{and-false}
use Rattle.std.proofs.lemmas.Bool.{leb-true, leb-false}
use Rattle.std.proofs.lemmas.List.{get_or_past}
use Rattle.std.proofs.lemmas.List.FromFn.{length-map-range_with_len, get_or-map-range_with_len}
use Rattle.std.proofs.lemmas.Nat.{div-mul-add, mod-mul-add}
use Rattle.record_fields.specs.Bounds.{count, in_rows, place_under, within}
use Rattle.record_fields.proofs.PlaceLemmas.{in_table}
use Rattle.job_memory.specs.declared.contents.Content.{Content}
use Rattle.job_memory.specs.declared.contents.Content.TheVariants.{Number}
use Rattle.job_memory.specs.Matrices.{is_inner, subscripts_at, renumbered_cell, renumbered_cells}
use Rattle.basic_matrix.specs.MatrixValues.{entry_place}

-- CELLS

pub cell_inner : (f : ℕ → ℤ) (second : Option ℕ) (cells : List Content) (place : ℕ) → place < length cells → is_inner (subscripts_at second place) ≡ true
    → slice_index_or (renumbered_cells f second cells) place (Number (pos 0)) ≡ Number (f place)
cell_inner f second cells place below inner =
    get_or-map-range_with_len (renumbered_cell f second cells) 0 (length cells) place place (Number (pos 0)) below (omega arith) ∙ rw inner refl

cell_outer_by : (f : ℕ → ℤ) (second : Option ℕ) (cells : List Content) (place : ℕ) (past : Bool) → nat_le (length cells) place ≡ past → is_inner (subscripts_at second place) ≡ false
    → slice_index_or (renumbered_cells f second cells) place (Number (pos 0)) ≡ slice_index_or cells place (Number (pos 0))
cell_outer_by f second cells place true is outer =
    let past : length cells ≤ place = leb-true (length cells) place is in
    let long : length (renumbered_cells f second cells) ≤ place = omega (arith, length-map-range_with_len (renumbered_cell f second cells) 0 (length cells)) in
    get_or_past (renumbered_cells f second cells) place (Number (pos 0)) long ∙ sym (get_or_past cells place (Number (pos 0)) past)
cell_outer_by f second cells place false is outer =
    let below : place < length cells = leb-false (length cells) place is in
    get_or-map-range_with_len (renumbered_cell f second cells) 0 (length cells) place place (Number (pos 0)) below (omega arith) ∙ rw outer refl

pub cell_outer : (f : ℕ → ℤ) (second : Option ℕ) (cells : List Content) (place : ℕ) → is_inner (subscripts_at second place) ≡ false
    → slice_index_or (renumbered_cells f second cells) place (Number (pos 0)) ≡ slice_index_or cells place (Number (pos 0))
cell_outer f second cells place = cell_outer_by f second cells place (nat_le (length cells) place) refl

-- PLACES

outer_row : (second : ℕ) (b : Bool) (column : Option ℕ) → IfSome column (λ k. k ≤ second) → IfSome (in_rows second (if b then Some 0 else None) column) (λ p. is_inner (subscripts_at (Some second) p) ≡ false)
outer_row second true (Some k) within = rw (div-mul-add 0 (second + 1) k (omega arith)) refl
outer_row second true None within = tt
outer_row second false column within = tt

outer_column : (second : ℕ) (row : Option ℕ) (b : Bool) → IfSome (in_rows second row (if b then Some 0 else None)) (λ p. is_inner (subscripts_at (Some second) p) ≡ false)
outer_column second (Some r) true = rw (mod-mul-add r (second + 1) 0 (omega arith)) (and-false _)
outer_column second (Some r) false = tt
outer_column second None b = tt

within-le_by : (bound n : ℕ) (b : Bool) → nat_le n bound ≡ b → IfSome (if b then Some n else None) (λ k. k ≤ bound)
within-le_by bound n true is = leb-true n bound is
within-le_by bound n false is = tt

within-le : (bound : ℕ) (subscript : ℤ) → IfSome (within bound subscript) (λ k. k ≤ bound)
within-le bound (pos n) = within-le_by bound n (nat_le n bound) refl
within-le bound (negsuc n) = tt

pub outer_row_0 : (first : ℕ) (second : Option ℕ) (column : ℤ) → IfSome (place_under first second (pos 0) (Some column)) (λ p. is_inner (subscripts_at second p) ≡ false)
outer_row_0 first None column = tt
outer_row_0 first (Some second) column = outer_row second (nat_le 0 first) (within second column) (within-le second column)

pub outer_column_0 : (first : ℕ) (second : Option ℕ) (row : ℤ) → IfSome (place_under first second row (Some (pos 0))) (λ p. is_inner (subscripts_at second p) ≡ false)
outer_column_0 first None row = tt
outer_column_0 first (Some second) row = outer_column second (within first row) (nat_le 0 second)

outer_first_by : (b : Bool) → IfSome (if b then Some 0 else None) (λ p. is_inner (subscripts_at None p) ≡ false)
outer_first_by true = refl
outer_first_by false = tt

pub outer_element_0 : (first : ℕ) (second : Option ℕ) → IfSome (place_under first second (pos 0) None) (λ p. is_inner (subscripts_at second p) ≡ false)
outer_element_0 first None = outer_first_by (nat_le 0 first)
outer_element_0 first (Some second) = tt

pub subscripts-entry_place : (second : Option ℕ) (row column : ℕ) → 1 ≤ column → column ≤ unwrap_or second 1 → subscripts_at second (entry_place second row column) ≡ (row, column)
subscripts-entry_place None row column least most =
    let one : 1 ≡ column = omega arith in
    ap (λ (k : ℕ). (row, k)) one
subscripts-entry_place (Some second) row column least most =
    λ i. (div-mul-add row (second + 1) column (omega arith) i, mod-mul-add row (second + 1) column (omega arith) i)

pub place_within : (first : ℕ) (second : Option ℕ) (row column : ℕ) → row ≤ first → column ≤ unwrap_or second 1 → entry_place second row column < count first second
place_within first None row column low high = omega arith
place_within first (Some second) row column low high = in_table first second row column low high

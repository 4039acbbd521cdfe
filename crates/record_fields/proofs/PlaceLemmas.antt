-- Places of elements.
use Rattle.std.proofs.Common.{◌≡◌, ℕ, ◌+◌, ◌*◌, ◌/◌, ◌<◌, ◌≤◌, Bool, true, false, Option, Some, None, refl, sym, ap, ◌∙◌, subst, arith}
use Rattle.std.specs.Prelude.{nat_le, if◌then◌else◌, ℤ, pos, negsuc}
use Rattle.std.proofs.lemmas.Bool.{leb-true}
use Rattle.std.proofs.lemmas.Nat.{mul-add-lt, div-mul-add}
use Rattle.std.proofs.Math.Nat.{mul_comm}
use Rattle.record_fields.specs.Bounds.{within, up_to, in_rows}
use Rattle.record_fields.specs.Laws.{ElementsAreApart}

-- a row and a column are in the table
pub in_table : (a b i j : ℕ) → i ≤ a → j ≤ b → i * (b + 1) + j < (a + 1) * (b + 1)
in_table a b i j low high =
    let P : ℕ → Type 0 = λ n. i * (b + 1) + j < n in
    subst P (mul_comm (b + 1) (a + 1)) (mul-add-lt i (b + 1) j (a + 1) (omega arith) (omega arith))

-- THE SUBSCRIPTS OF A PLACE

up_to_is_by : (bound m n : ℕ) (b : Bool) → nat_le m bound ≡ b → up_to bound (Some m) ≡ Some n → (m ≡ n) × (n ≤ bound)
up_to_is_by bound m n true is found =
    let here : (if nat_le m bound then Some m else None) ≡ Some n = found in
    let same : Some m ≡ Some n = rw is at here in
    let equal : m ≡ n = cc in
    (equal, subst (λ (x : ℕ). x ≤ bound) equal (leb-true m bound is))
up_to_is_by bound m n false is found =
    let here : (if nat_le m bound then Some m else None) ≡ Some n = found in
    let none : None ≡ Some n = rw is at here in
    absurd (cc)

within_is : (bound : ℕ) (i : ℤ) (n : ℕ) → within bound i ≡ Some n → (i ≡ pos n) × (n ≤ bound)
within_is bound (pos m) n found =
    let parts = up_to_is_by bound m n (nat_le m bound) refl found in
    (ap pos parts.0, parts.1)
within_is bound (negsuc m) n found = absurd (cc)

record InRows (width place : ℕ) (row column : Option ℕ) : Type 0 where
  r : ℕ
  c : ℕ
  row_is : row ≡ Some r
  column_is : column ≡ Some c
  place_is : place ≡ r * (width + 1) + c

in_rows_is : (width place : ℕ) (row column : Option ℕ) → in_rows width row column ≡ Some place → InRows width place row column
in_rows_is width place (Some r) (Some c) found = record { r = r; c = c; row_is = refl; column_is = refl; place_is = cc }
in_rows_is width place (Some r) None found = absurd (cc)
in_rows_is width place None column found = absurd (cc)

apart_in_rows : (first width place : ℕ) (i k j l : ℤ) → InRows width place (within first i) (within width j) → InRows width place (within first k) (within width l) → (i ≡ k) × (j ≡ l)
apart_in_rows first width place i k j l a b =
    let row_a = within_is first i a.r a.row_is in
    let row_b = within_is first k b.r b.row_is in
    let column_a = within_is width j a.c a.column_is in
    let column_b = within_is width l b.c b.column_is in
    let rows : a.r ≡ b.r = sym (div-mul-add a.r (width + 1) a.c (omega arith)) ∙ ap (λ (n : ℕ). n / (width + 1)) (sym a.place_is ∙ b.place_is) ∙ div-mul-add b.r (width + 1) b.c (omega arith) in
    let tied : b.r * (width + 1) + a.c ≡ b.r * (width + 1) + b.c = ap (λ (n : ℕ). n * (width + 1) + a.c) (sym rows) ∙ sym a.place_is ∙ b.place_is in
    let columns : a.c ≡ b.c = omega arith in
    (row_a.0 ∙ ap pos rows ∙ sym row_b.0, column_a.0 ∙ ap pos columns ∙ sym column_b.0)

pub apart : ElementsAreApart
apart first None i k None None place a b = ((within_is first i place a).0 ∙ sym (within_is first k place b).0, refl)
apart first None i k (Some j) l place a b = absurd (cc a)
apart first None i k None (Some l) place a b = absurd (cc b)
apart first (Some width) i k None l place a b = absurd (cc a)
apart first (Some width) i k (Some j) None place a b = absurd (cc b)
apart first (Some width) i k (Some j) (Some l) place a b =
    let parts = apart_in_rows first width place i k j l (in_rows_is width place (within first i) (within width j) a) (in_rows_is width place (within first k) (within width l) b) in
    (parts.0, ap (λ (n : ℤ). Some n) parts.1)

-- Arrays that are renumbered: no cell gets larger.
use Rattle.std.proofs.Common.{◌≡◌, ℕ, suc, ◌+◌, ◌-◌, ◌<◌, ◌≤◌, Bool, true, false, List, [], ◌∷◌, length, get_or, take, drop, Option, sym, ap, ◌∙◌, arith}
use Rattle.std.proofs.lemmas.List.{take-map, drop-map, with_items_is}
use Rattle.std.proofs.lemmas.List.FromFn.{length-map-range_with_len}
use Rattle.std.proofs.lemmas.List.Sums.{sum_by-cons}
use Rattle.std.specs.List.{range_with_len, sum_by}
use Rattle.std.specs.Prelude.{map, if◌then◌else◌, slice_range, ℤ, pos}
use Rattle.std.specs.Vec.{with_items}
use Rattle.job_memory.specs.declared.contents.Content.{Content}
use Rattle.job_memory.specs.declared.contents.Content.TheVariants.{Number, Own, Fielded}
use Rattle.job_memory.specs.declared.tables.Table.TheInside.{Inside}
use Rattle.job_memory.specs.Contents.{size, number_of}
use Rattle.job_memory.specs.Matrices.{is_inner, subscripts_at, renumbered_cell, renumbered_cells}
use Rattle.job_memory.specs.SeenTables.{table_seen}
use Rattle.job_memory.specs.Tables.{table_size}

size-least : (content : Content) → 2 ≤ size content
size-least (Number n) = omega arith
size-least (Own text) = omega arith
size-least (Fielded channel part) = omega arith

size-chosen : (inner : Bool) (n : ℤ) (content : Content) → size (if inner then Number n else content) ≤ size content
size-chosen true n content = size-least content
size-chosen false n content = omega arith

-- if no place gets larger, the sum does not
sizes-le : (f : ℕ → Content) (xs : List Content) (a : ℕ)
    → ((k j : ℕ) → a + k ≡ j → k < length xs → size (f j) ≤ size (get_or xs k (Number (pos 0))))
    → sum_by size (map f (range_with_len a (length xs))) ≤ sum_by size xs
sizes-le f [] a each = omega arith
sizes-le f (x ∷ xs) a each =
    let rest = sizes-le f xs (a + 1) (λ k j is below. each (suc k) j (omega arith) (omega arith)) in
    omega (
      arith,
      each 0 a (omega arith) (omega arith),
      rest,
      sum_by-cons size x xs,
      sum_by-cons size (f a) (map f (range_with_len (a + 1) (length xs))),
    )

cells_size-renumbered : (number : ℕ → ℤ) (second : Option ℕ) (cells : List Content) → sum_by size (renumbered_cells number second cells) ≤ sum_by size cells
cells_size-renumbered number second cells =
    sizes-le (renumbered_cell number second cells) cells 0 (λ k j is below.
    let at : size (renumbered_cell number second cells k) ≤ size (get_or cells k (Number (pos 0))) =
    size-chosen (is_inner (subscripts_at second k)) (number k) (get_or cells k (Number (pos 0))) in
    let same : j ≡ k = omega arith in
    rw same at)

-- the table after its cells were renumbered in place
pub table_size-renumbered : (number : ℕ → ℤ) (table : Inside) (old new : List Content) → old ≡ table.cells.items → length old ≡ table.cells.len → new ≡ renumbered_cells number table.second old
    → table_size (table_seen (record table { cells = with_items table.cells new })) ≤ table_size (table_seen table)
table_size-renumbered number table old new is long set =
    let same : length new ≡ table.cells.len = ap length set ∙ length-map-range_with_len (renumbered_cell number table.second old) 0 (length old) ∙ long in
    omega (arith, ap (sum_by size) (with_items_is table.cells new same), ap (sum_by size) set, cells_size-renumbered number table.second old, ap (sum_by size) is)

-- the numbers of some adjacent elements
pub part_numbers : (cells : List Content) (place count : ℕ) → map number_of (slice_range cells place (place + count)) ≡ take count (drop place (map number_of cells))
part_numbers cells place count =
    let many : place + count - place ≡ count = omega arith in
    ap (λ (n : ℕ). map number_of (take n (drop place cells))) many ∙ sym (ap (take count) (drop-map number_of place cells) ∙ take-map number_of count (drop place cells))

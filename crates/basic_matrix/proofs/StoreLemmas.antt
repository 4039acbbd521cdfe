-- Two ways to renumber an array that agree on all places without a subscript 0.
use Rattle.std.proofs.Common.{◌≡◌, ℕ, ◌<◌, Bool, true, false, List, length, Option, Some, None, refl, ap, ◌∙◌, arith}
use Rattle.std.specs.Prelude.{map, if◌then◌else◌, slice_index_or, ℤ, pos}
use Rattle.std.specs.Map.{set_value}
use Rattle.std.proofs.lemmas.List.{length-map}
use Rattle.std.proofs.lemmas.List.FromFn.{fill_by_all, length-map-range_with_len, get_or-map-range_with_len}
use Rattle.basic_tree.specs.declared.names.Name.{Name}
use Rattle.job_memory.specs.declared.contents.Content.{Content}
use Rattle.job_memory.specs.declared.contents.Content.TheVariants.{Number}
use Rattle.job_memory.specs.Contents.{number_of}
use Rattle.job_memory.specs.Matrices.{is_inner, subscripts_at, bounds_of, cells_in, renumbered_cell, renumbered_cells, renumbered_in}
use Rattle.job_memory.specs.Names.{at_name}
use Rattle.job_memory.specs.Tables.{Table}
use Rattle.std.specs.Option.{option_map, unwrap_or}

cell-same : (inner : Bool) (x y : ℤ) (old : Content) → (inner ≡ true → x ≡ y) → (if inner then Number x else old) ≡ (if inner then Number y else old)
cell-same true x y old same = ap Number (same refl)
cell-same false x y old same = refl

cells-same : (f g : ℕ → ℤ) (second : Option ℕ) (cells : List Content) → ((k : ℕ) → k < length cells → is_inner (subscripts_at second k) ≡ true → f k ≡ g k)
    → renumbered_cells f second cells ≡ renumbered_cells g second cells
cells-same f g second cells same =
    fill_by_all (renumbered_cell g second cells) (renumbered_cells f second cells) (length cells) (Number (pos 0)) (length-map-range_with_len (renumbered_cell f second cells) 0 (length cells)) (λ k below.
    get_or-map-range_with_len (renumbered_cell f second cells) 0 (length cells) k k (Number (pos 0)) below (omega arith)
    ∙ cell-same (is_inner (subscripts_at second k)) (f k) (g k) (slice_index_or cells k (Number (pos 0))) (same k below))

pub renumbered-same : (name : Name) (f g : ℕ → ℤ) (arrays : List (Name × Table)) (found : Option Table)
    → ((k : ℕ) → k < length (map number_of (cells_in found)) → is_inner (subscripts_at (unwrap_or (option_map bounds_of found) (0, None)).1 k) ≡ true → f k ≡ g k)
    → renumbered_in name f arrays found ≡ renumbered_in name g arrays found
renumbered-same name f g arrays None same = refl
renumbered-same name f g arrays (Some table) same =
    let cells = cells-same f g table.second table.cells (λ k below inner. same k (omega (arith, length-map table.cells number_of)) inner) in
    ap (λ (l : List Content). set_value (at_name name) arrays (record table { cells = l })) cells

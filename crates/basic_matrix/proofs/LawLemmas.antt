-- What an assignment leaves.
use Rattle.std.proofs.Common.{◌≡◌, ℕ, ◌<◌, ◌≤◌, Bool, true, false, length, Option, Some, None, Ok, Err, refl, sym, ap, ◌∙◌, subst, arith}
use Rattle.std.specs.Prelude.{map, if◌then◌else◌, unwrap_or, slice_index_or, IfSome, ℤ, pos}
use Rattle.std.specs.Map.{set_value}
use Rattle.std.specs.Option.{option_map}
use Rattle.std.proofs.Math.ListN.{get_or-map}
use Rattle.std.proofs.lemmas.Bool.{le-leb}
use Rattle.std.proofs.lemmas.List.{length-map}
use Rattle.basic_values.specs.declared.errors.TheConstants.{SUBSCRIPT_OUT_OF_RANGE}
use Rattle.basic_tree.specs.declared.names.Name.{Name}
use Rattle.record_fields.specs.Bounds.{count, place_under}
use Rattle.job_memory.specs.declared.contents.Content.{Content}
use Rattle.job_memory.specs.declared.contents.Content.TheVariants.{Number}
use Rattle.job_memory.specs.Contents.{number_of}
use Rattle.job_memory.specs.Matrices.{bounds_of, cells_in, count_in, is_inner, subscripts_at, renumbered_in, renumbered_table}
use Rattle.job_memory.specs.Memory.{Memory, array, element}
use Rattle.job_memory.specs.Names.{at_name}
use Rattle.job_memory.specs.Tables.{Table, cell, cell_at, implied}
use Rattle.basic_matrix.specs.declared.values.MatValue.{MatValue}
use Rattle.basic_matrix.specs.Laws.{ChangesTheTarget, AssignmentChangesTheTarget, IsWhole}
use Rattle.basic_matrix.specs.MatrixActs.{at_subscripts, with_value}
use Rattle.basic_matrix.specs.MatrixShapes.{MatrixShape, fits, shape_of}
use Rattle.basic_matrix.specs.MatrixValues.{entry, entry_place, value_at}
use Rattle.basic_matrix.proofs.CellLemmas.{cell_inner, cell_outer, outer_row_0, outer_column_0, outer_element_0, subscripts-entry_place, place_within}
use Rattle.basic_matrix.proofs.LookupLemmas.{lookup-set_value-same, lookup-set_value-other}

-- AN ELEMENT WITH A SUBSCRIPT 0

cell_at_outer : (f : ℕ → ℤ) (table : Table) (place : Option ℕ) → IfSome place (λ p. is_inner (subscripts_at table.second p) ≡ false) → cell_at (renumbered_table f table) place ≡ cell_at table place
cell_at_outer f table (Some p) outer = ap (λ (c : Content). Ok c) (cell_outer f table.second table.cells p outer)
cell_at_outer f table None outer = refl

element_of : (m : Memory) (name : Name) (table : Table) (i : ℤ) (j : Option ℤ) → array name m.arrays ≡ Some table → element name i j m ≡ cell i j table
element_of m name table i j found = ap (λ (o : Option Table). cell i j (unwrap_or o (implied name.text j))) found

element_stays : (old new : Memory) (name : Name) (f : ℕ → ℤ) (table : Table) (i : ℤ) (j : Option ℤ) → array name old.arrays ≡ Some table → array name new.arrays ≡ Some (renumbered_table f table)
    → IfSome (place_under table.first table.second i j) (λ p. is_inner (subscripts_at table.second p) ≡ false) → element name i j new ≡ element name i j old
element_stays old new name f table i j found there outer =
    element_of new name (renumbered_table f table) i j there ∙ cell_at_outer f table (place_under table.first table.second i j) outer ∙ sym (element_of old name table i j found)

-- AN ELEMENT OF THE MATRIX

entry_of : (m : Memory) (name : Name) (table : Table) (row column : ℕ) → array name m.arrays ≡ Some table
    → entry m name row column ≡ number_of (slice_index_or table.cells (entry_place table.second row column) (Number (pos 0)))
entry_of m name table row column found =
    ap (λ (o : Option Table). slice_index_or (map number_of (cells_in o)) (entry_place (unwrap_or (option_map bounds_of o) (0, None)).1 row column) (pos 0)) found ∙ get_or-map number_of table.cells (entry_place table.second row column) (Number (pos 0))

inner_from_1 : (row column : ℕ) → 1 ≤ row → 1 ≤ column → is_inner (row, column) ≡ true
inner_from_1 row column low high = rw (le-leb 1 row low, le-leb 1 column high) refl

value_stored : (new : Memory) (name : Name) (number : ℕ → ℕ → ℤ) (table : Table) (row column : ℕ)
    → array name new.arrays ≡ Some (renumbered_table (λ place. at_subscripts number (subscripts_at table.second place)) table)
    → entry_place table.second row column < length table.cells → 1 ≤ row → 1 ≤ column → column ≤ unwrap_or table.second 1
    → entry new name row column ≡ number row column
value_stored new name number table row column there below low least most =
    let f : ℕ → ℤ = λ (place : ℕ). at_subscripts number (subscripts_at table.second place) in
    let place : ℕ = entry_place table.second row column in
    let at : subscripts_at table.second place ≡ (row, column) = subscripts-entry_place table.second row column least most in
    let inner : is_inner (subscripts_at table.second place) ≡ true = ap is_inner at ∙ inner_from_1 row column low least in
    entry_of new name (renumbered_table f table) row column there ∙ ap number_of (cell_inner f table.second table.cells place below inner) ∙ ap (at_subscripts number) at

-- THE LAW

abbrev by_places : (old : Memory) (value : MatValue) → Option ℕ → ℕ → ℤ
by_places old value second place = at_subscripts (value_at old value) (subscripts_at second place)

abbrev changed : Name → MatValue → Memory → Table → Memory
changed target value old table =
    record old { arrays = set_value (at_name target) old.arrays (renumbered_table (by_places old value table.second) table) }

shape_is : (m : Memory) (name : Name) (table : Table) → array name m.arrays ≡ Some table → shape_of m name ≡ (table.first, table.second)
shape_is m name table found = ap (λ (o : Option Table). unwrap_or (option_map bounds_of o) (0, None)) found

cells_long : (m : Memory) (name : Name) (table : Table) → array name m.arrays ≡ Some table → IsWhole name m → length table.cells ≡ count table.first table.second
cells_long m name table found whole =
    sym (length-map table.cells number_of) ∙ sym (ap (λ (o : Option Table). length (map number_of (cells_in o))) found) ∙ whole
    ∙ ap (λ (o : Option Table). count_in (option_map bounds_of o)) found

target_changes : (target : Name) (value : MatValue) (old : Memory) (table : Table) → array target old.arrays ≡ Some table → IsWhole target old
    → ChangesTheTarget target value old (changed target value old table)
target_changes target value old table found whole =
    let new : Memory = changed target value old table in
    let f : ℕ → ℤ = by_places old value table.second in
    let there : array target new.arrays ≡ Some (renumbered_table f table) = lookup-set_value-same (at_name target) (renumbered_table f table) table old.arrays found in
    let shape : shape_of old target ≡ (table.first, table.second) = shape_is old target table found in
    record {
      value_is = λ row column low high least most.
          let within : row ≤ table.first = subst (λ (s : MatrixShape). row ≤ s.0) shape high in
          let narrow : column ≤ unwrap_or table.second 1 = subst (λ (s : MatrixShape). column ≤ unwrap_or s.1 1) shape most in
          let below : entry_place table.second row column < length table.cells = omega (arith, place_within table.first table.second row column within narrow, cells_long old target table found whole) in
          value_stored new target (value_at old value) table row column there below low least narrow;
      row_0 = λ column. element_stays old new target f table (pos 0) (Some column) found there (outer_row_0 table.first table.second column);
      column_0 = λ row. element_stays old new target f table row (Some (pos 0)) found there (outer_column_0 table.first table.second row);
      element_0 = element_stays old new target f table (pos 0) None found there (outer_element_0 table.first table.second);
      bounds_stay = ap (option_map bounds_of) there ∙ sym (ap (option_map bounds_of) found);
      arrays_stay = λ other apart. lookup-set_value-other target other apart (renumbered_table f table) old.arrays;
      variables_stay = refl;
      aside_stays = refl;
    }

nothing_changes : (target : Name) (value : MatValue) (old : Memory) → array target old.arrays ≡ None → ChangesTheTarget target value old old
nothing_changes target value old absent =
    let shape : shape_of old target ≡ (0, None) = ap (λ (o : Option Table). unwrap_or (option_map bounds_of o) (0, None)) absent in
    record {
      value_is = λ row column low high least most.
          let none : row ≤ 0 = subst (λ (s : MatrixShape). row ≤ s.0) shape high in
          absurd (omega arith);
      row_0 = λ column. refl;
      column_0 = λ row. refl;
      element_0 = refl;
      bounds_stay = refl;
      arrays_stay = λ other apart. refl;
      variables_stay = refl;
      aside_stays = refl;
    }

wanted_changes : (target : Name) (value : MatValue) (old : Memory) (found : Option Table) → array target old.arrays ≡ found → IsWhole target old
    → ChangesTheTarget target value old (with_value target value old)
wanted_changes target value old (Some table) found whole =
    let same : with_value target value old ≡ changed target value old table =
    λ i. record old { arrays = renumbered_in target (by_places old value ((shape_is old target table found i).1)) old.arrays (found i) } in
    subst (λ (m : Memory). ChangesTheTarget target value old m) (sym same) (target_changes target value old table found whole)
wanted_changes target value old None absent whole =
    let same : with_value target value old ≡ old = λ i. record old { arrays = renumbered_in target (by_places old value (shape_of old target).1) old.arrays (absent i) } in
    subst (λ (m : Memory). ChangesTheTarget target value old m) (sym same) (nothing_changes target value old absent)

done_is : (fit : Bool) (m new : Memory) (fault : ℕ) → (if fit then Ok m else Err fault) ≡ Ok new → m ≡ new
done_is true m new fault is = cc
done_is false m new fault is = absurd (cc)

pub assignment_changes : AssignmentChangesTheTarget
assignment_changes target value old new whole is =
    let same : with_value target value old ≡ new = done_is (fits (shape_of old) target value) (with_value target value old) new SUBSCRIPT_OUT_OF_RANGE is in
    subst (λ (m : Memory). ChangesTheTarget target value old m) same (wanted_changes target value old (array target old.arrays) refl whole)

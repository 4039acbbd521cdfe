-- Arrays as matrices: their bounds, the places of rows and columns, their numbers in order, and
-- stores to all elements without a subscript 0.
use Rattle.std.specs.Prelude.{ℕ, ◌+◌, ◌/◌, ◌%◌, nat_le, Bool, ◌&&◌, if◌then◌else◌, List, [], map, length, slice_index_or, Option, Some, None, ℤ, pos}
use Rattle.std.specs.List.{range_with_len}
use Rattle.std.specs.Map.{set_value}
use Rattle.std.specs.Option.{option_map}
use Rattle.basic_tree.specs.declared.names.Name.{Name}
use Rattle.record_fields.specs.Bounds.{count}
use Rattle.job_memory.specs.declared.contents.Content.{Content}
use Rattle.job_memory.specs.declared.contents.Content.TheVariants.{Number}
use Rattle.job_memory.specs.Contents.{number_of}
use Rattle.job_memory.specs.Memory.{Memory, array}
use Rattle.job_memory.specs.Names.{at_name}
use Rattle.job_memory.specs.Tables.{Table}

-- BOUNDS

-- the largest subscripts of an array
abbrev pub bounds_of : Table → ℕ × Option ℕ
bounds_of table = (table.first, table.second)

-- those of the array of this name, if one was made
abbrev pub bounds : Name → Memory → Option (ℕ × Option ℕ)
bounds name m = option_map bounds_of (array name m.arrays)

-- how many elements an array with these bounds has; 0 if there is no array
abbrev pub count_in : Option (ℕ × Option ℕ) → ℕ
count_in (Some bounds) = count bounds.0 bounds.1
count_in None = 0

-- ROWS AND COLUMNS

-- the row and the column of the element at a place; an array of one subscript has one column,
-- number 1
abbrev pub subscripts_at : Option ℕ → ℕ → ℕ × ℕ
subscripts_at None place = (place, 1)
subscripts_at (Some second) place = (place / (second + 1), place % (second + 1))

-- neither subscript is 0
abbrev pub is_inner : ℕ × ℕ → Bool
is_inner subscripts = nat_le 1 subscripts.0 && nat_le 1 subscripts.1

-- NUMBERS

abbrev pub cells_in : Option Table → List Content
cells_in (Some table) = table.cells
cells_in None = []

-- the numbers of an array in the order of its elements; none if it was not made
abbrev pub numbers : Name → Memory → List ℤ
numbers name m = map number_of (cells_in (array name m.arrays))

-- the element at a place: one without a subscript 0 takes the number of its place, each other one
-- stays
abbrev pub renumbered_cell : (ℕ → ℤ) → Option ℕ → List Content → ℕ → Content
renumbered_cell number second cells place =
    if is_inner (subscripts_at second place)
    then Number (number place)
    else slice_index_or cells place (Number (pos 0))

abbrev pub renumbered_cells : (ℕ → ℤ) → Option ℕ → List Content → List Content
renumbered_cells number second cells =
    map (renumbered_cell number second cells) (range_with_len 0 (length cells))

abbrev pub renumbered_table : (ℕ → ℤ) → Table → Table
renumbered_table number table =
    record table { cells = renumbered_cells number table.second table.cells }

-- the arrays with this one renumbered, if it is among them
abbrev pub renumbered_in : Name → (ℕ → ℤ) → List (Name × Table) → Option Table → List (Name × Table)
renumbered_in name number arrays (Some table) =
    set_value (at_name name) arrays (renumbered_table number table)
renumbered_in name number arrays None = arrays

abbrev pub renumbered : Name → (ℕ → ℤ) → Memory → Memory
renumbered name number m =
    record m { arrays = renumbered_in name number m.arrays (array name m.arrays) }

-- the number at a place of a list
abbrev pub number_in_list : List ℤ → ℕ → ℤ
number_in_list list place = slice_index_or list place (pos 0)

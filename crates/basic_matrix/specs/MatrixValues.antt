-- The elements of a matrix, which are those of its array whose subscripts are all 1 or more, and of
-- what MAT stores.
use Rattle.std.specs.Prelude.{ℕ, ◌+◌, ◌*◌, ◌==◌, if◌then◌else◌, map, fold, Option, Some, None, ℤ, pos, ◌+ℤ◌, ◌-ℤ◌, ◌*ℤ◌}
use Rattle.std.specs.List.{range_with_len}
use Rattle.basic_values.specs.Numbers.{wrap}
use Rattle.basic_tree.specs.declared.names.Name.{Name}
use Rattle.job_memory.specs.Matrices.{numbers, number_in_list}
use Rattle.job_memory.specs.Memory.{Memory}
use Rattle.basic_matrix.specs.declared.values.MatValue.{MatValue}
use Rattle.basic_matrix.specs.declared.values.MatValue.TheVariants.{Zero, One, Identity, Copy, Sum, Difference, Product, Scaled, Transposed}
use Rattle.basic_matrix.specs.MatrixShapes.{shape_of, matrix_columns}

-- the place of the element in a row and a column; in an array with one subscript each row has one
-- element
abbrev pub entry_place : Option ℕ → ℕ → ℕ → ℕ
entry_place None row column = row
entry_place (Some second) row column = row * (second + 1) + column

-- the number of an element
abbrev pub entry : Memory → Name → ℕ → ℕ → ℤ
entry m name row column =
    number_in_list (numbers name m) (entry_place (shape_of m name).1 row column)

-- the sum over the middle subscript, from 1 on
abbrev pub middle_sum : (ℕ → ℕ → ℤ) → (ℕ → ℕ → ℤ) → ℕ → ℕ → ℕ → ℤ
middle_sum left right most row column =
    fold ◌+ℤ◌ (pos 0) (map (λ middle. left row middle *ℤ right middle column) (range_with_len 1 most))

-- the number of an element of the value; sums, differences and products are computed without a
-- bound and then wrapped
abbrev pub value_at : Memory → MatValue → ℕ → ℕ → ℤ
value_at m Zero row column = pos 0
value_at m One row column = pos 1
value_at m Identity row column = if row == column then pos 1 else pos 0
value_at m (Copy b) row column = entry m b row column
value_at m (Sum b c) row column = wrap (entry m b row column +ℤ entry m c row column)
value_at m (Difference b c) row column = wrap (entry m b row column -ℤ entry m c row column)
value_at m (Product b c) row column =
    wrap (middle_sum (entry m b) (entry m c) (matrix_columns (shape_of m b)) row column)
value_at m (Scaled n b) row column = wrap (n *ℤ entry m b row column)
value_at m (Transposed b) row column = entry m b column row

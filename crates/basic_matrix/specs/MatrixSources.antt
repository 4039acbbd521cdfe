-- A value whose arrays were copied out of the memory. You need not read this to understand the
-- contracts.
use Rattle.std.specs.Prelude.{◌≡◌, ℕ, ◌<◌, ◌==◌, true, if◌then◌else◌, length, List, ℤ, pos, ◌+ℤ◌, ◌-ℤ◌, ◌*ℤ◌}
use Rattle.basic_values.specs.Numbers.{wrap}
use Rattle.basic_tree.specs.declared.names.Name.{Name}
use Rattle.job_memory.specs.Matrices.{numbers, number_in_list, is_inner, subscripts_at}
use Rattle.job_memory.specs.Memory.{Memory}
use Rattle.basic_matrix.specs.declared.grids.Grid.{Grid}
use Rattle.basic_matrix.specs.declared.sources.Source.{Source}
use Rattle.basic_matrix.specs.declared.sources.Source.TheVariants.{Constant, Diagonal, Copied, Sum, Difference, Product, Scaled, Turned}
use Rattle.basic_matrix.specs.declared.values.MatValue.{MatValue}
use Rattle.basic_matrix.specs.MatrixActs.{at_subscripts}
use Rattle.basic_matrix.specs.MatrixShapes.{MatrixShape, shape_of, matrix_columns}
use Rattle.basic_matrix.specs.MatrixValues.{entry_place, middle_sum, value_at}

abbrev pub grid_at : Grid → ℕ → ℕ → ℤ
grid_at grid row column = number_in_list grid.numbers.items (entry_place grid.shape.1 row column)

-- the grid has the numbers and the bounds of the array
pub record IsGridOf (m : Memory) (name : Name) (grid : Grid) : Type 0 where
  pub numbers_are : grid.numbers.items ≡ numbers name m
  pub shape_is : grid.shape ≡ shape_of m name

abbrev pub source_at : Source → ℕ → ℕ → ℤ
source_at (Constant n) row column = n
source_at Diagonal row column = if row == column then pos 1 else pos 0
source_at (Copied b) row column = grid_at b row column
source_at (Sum b c) row column = wrap (grid_at b row column +ℤ grid_at c row column)
source_at (Difference b c) row column = wrap (grid_at b row column -ℤ grid_at c row column)
source_at (Product b c) row column =
    wrap (middle_sum (grid_at b) (grid_at c) (matrix_columns b.shape) row column)
source_at (Scaled n b) row column = wrap (n *ℤ grid_at b row column)
source_at (Turned b) row column = grid_at b column row

-- the source represents the value: it has its numbers
abbrev pub StandsFor : Memory → MatValue → Source → Type 0
StandsFor m value source = (row column : ℕ) → source_at source row column ≡ value_at m value row column

-- each place without a subscript 0 has the number of its row and column
abbrev pub HasNumbers : (ℕ → ℕ → ℤ) → MatrixShape → List ℤ → Type 0
HasNumbers number shape list =
    (place : ℕ) → place < length list → is_inner (subscripts_at shape.1 place) ≡ true
    → number_in_list list place ≡ at_subscripts number (subscripts_at shape.1 place)

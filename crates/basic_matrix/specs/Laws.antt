-- The laws of MAT, about definitions alone.
use Rattle.std.specs.Prelude.{◌≡◌, ℕ, ◌≤◌, false, length, Some, None, Ok, ℤ, pos}
use Rattle.basic_tree.specs.declared.names.Name.{Name}
use Rattle.job_memory.specs.Matrices.{bounds, count_in, numbers}
use Rattle.job_memory.specs.Memory.{Memory, array, element, number_at}
use Rattle.job_memory.specs.Names.{at_name}
use Rattle.basic_matrix.specs.declared.values.MatValue.{MatValue}
use Rattle.basic_matrix.specs.MatrixActs.{assigned}
use Rattle.basic_matrix.specs.MatrixShapes.{shape_of, matrix_rows, matrix_columns}
use Rattle.basic_matrix.specs.MatrixValues.{entry, value_at}

-- an array has as many elements as its bounds say, as in every memory that calls make
abbrev pub IsWhole : Name → Memory → Type 0
IsWhole name m = length (numbers name m) ≡ count_in (bounds name m)

-- the elements of a matrix are those that a program reads by their subscripts
pub record HasElement (m : Memory) (name : Name) (row column : ℕ) : Type 0 where
  pub two : (second : ℕ) → (shape_of m name).1 ≡ Some second → column ≤ second →
      number_at name (pos row) (Some (pos column)) m ≡ Ok (entry m name row column)
  pub one : (shape_of m name).1 ≡ None → number_at name (pos row) None m ≡ Ok (entry m name row 1)

abbrev pub EntriesAreElements : Type 0
EntriesAreElements =
    (m : Memory) (name : Name) (row column : ℕ) → row ≤ matrix_rows (shape_of m name) → HasElement m name row column

-- after an assignment the target is the value over the old memory, and everything else is as before
pub record ChangesTheTarget (target : Name) (value : MatValue) (old new : Memory) : Type 0 where
  pub value_is : (row column : ℕ) → 1 ≤ row → row ≤ matrix_rows (shape_of old target) → 1 ≤ column →
      column ≤ matrix_columns (shape_of old target) → entry new target row column ≡ value_at old value row column
  pub row_0 : (column : ℤ) → element target (pos 0) (Some column) new ≡ element target (pos 0) (Some column) old
  pub column_0 : (row : ℤ) → element target row (Some (pos 0)) new ≡ element target row (Some (pos 0)) old
  pub element_0 : element target (pos 0) None new ≡ element target (pos 0) None old
  pub bounds_stay : bounds target new ≡ bounds target old
  pub arrays_stay : (other : Name) → at_name other target ≡ false →
      array other new.arrays ≡ array other old.arrays
  pub variables_stay : new.variables ≡ old.variables
  pub aside_stays : new.aside ≡ old.aside

abbrev pub AssignmentChangesTheTarget : Type 0
AssignmentChangesTheTarget =
    (target : Name) (value : MatValue) (old new : Memory) → IsWhole target old →
    assigned target value old ≡ Ok new → ChangesTheTarget target value old new

-- What the statements of MAT do to a memory.
use Rattle.std.specs.Prelude.{◌≡◌, ℕ, ◌≤◌, if◌then◌else◌, map, List, Option, Some, None, Result, Ok, Err, IsSome, ℤ}
use Rattle.std.specs.List.{range_with_len}
use Rattle.basic_values.specs.declared.errors.TheConstants.{SUBSCRIPT_OUT_OF_RANGE}
use Rattle.basic_values.specs.declared.failures.Halt.{Halt}
use Rattle.basic_values.specs.declared.failures.Trouble.{Trouble}
use Rattle.basic_values.specs.declared.failures.Stop.{Stop}
use Rattle.basic_values.specs.declared.failures.Stop.TheVariants as stop
use Rattle.basic_tree.specs.declared.names.Name.{Name}
use Rattle.basic_tree.specs.declared.parts.Shape.{Shape}
use Rattle.job_memory.specs.declared.tables.TheConstants.{IMPLIED_BOUND}
use Rattle.job_memory.specs.Answers.{Changes}
use Rattle.job_memory.specs.Matrices.{bounds, renumbered, subscripts_at}
use Rattle.job_memory.specs.Memory.{Memory, made}
use Rattle.basic_matrix.specs.declared.values.MatValue.{MatValue}
use Rattle.basic_matrix.specs.MatrixShapes.{shape_of, matrix_rows, matrix_columns, fits}
use Rattle.basic_matrix.specs.MatrixValues.{entry, value_at}

-- AN ARRAY THAT A STATEMENT NAMES

-- the array that is made if there is none: with two subscripts up to 10
abbrev pub implied_matrix : Name → Shape
implied_matrix name = record { name = name; first = IMPLIED_BOUND; second = Some IMPLIED_BOUND }

abbrev pub TouchesBy
    : Option (ℕ × Option ℕ) → Name → Memory → Memory → Result Unit (Trouble Halt) → Type 0
TouchesBy (Some shape) name old new result = (new ≡ old) × (result ≡ Ok tt)
TouchesBy None name old new result = Changes old new (made (implied_matrix name) old) result

-- An array that exists stays. Any other is made, exactly if the total size is allowed.
abbrev pub Touches : Name → Memory → Memory → Result Unit (Trouble Halt) → Type 0
Touches name old new result = TouchesBy (bounds name old) name old new result

-- AN ASSIGNMENT

-- at the place of an element, by its row and column
abbrev pub at_subscripts : (ℕ → ℕ → ℤ) → ℕ × ℕ → ℤ
at_subscripts number subscripts = number subscripts.0 subscripts.1

-- the elements of the target whose subscripts are all 1 or more become those of the value, which is
-- computed from this memory
abbrev pub with_value : Name → MatValue → Memory → Memory
with_value target value m =
    renumbered target
    (λ place. at_subscripts (value_at m value) (subscripts_at (shape_of m target).1 place)) m

-- that; or the error
abbrev pub assigned : Name → MatValue → Memory → Result Memory ℕ
assigned target value m =
    if fits (shape_of m) target value
    then Ok (with_value target value m)
    else Err SUBSCRIPT_OUT_OF_RANGE

-- the result: the memory with the value; or the error, or memory ran out, and nothing changed
abbrev pub StoresValue : Memory → Memory → Result Memory ℕ → Result Unit Stop → Type 0
StoresValue old new (Err fault) result = (new ≡ old) × (result ≡ Err (stop.Fault fault))
StoresValue old new (Ok wanted) (Ok done) = new ≡ wanted
StoresValue old new (Ok wanted) (Err stop.NoMemory) = new ≡ old
StoresValue old new (Ok wanted) (Err other) = ⊥

-- A ROW, as MAT PRINT writes it

-- the row exists
pub record HasRow (m : Memory) (name : Name) (row : ℕ) : Type 0 where
  pub made : IsSome (bounds name m)
  pub within : row ≤ matrix_rows (shape_of m name)

-- its numbers, from column 1 on
abbrev pub row_numbers : Memory → Name → ℕ → List ℤ
row_numbers m name row = map (entry m name row) (range_with_len 1 (matrix_columns (shape_of m name)))

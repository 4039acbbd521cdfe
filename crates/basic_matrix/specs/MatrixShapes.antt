-- The bounds of matrices, and when MAT has error 55 because of them.
use Rattle.std.specs.Prelude.{ℕ, ◌==◌, Bool, true, false, ◌&&◌, Option, Some, None, is_some, unwrap_or}
use Rattle.basic_tree.specs.declared.names.Name.{Name}
use Rattle.job_memory.specs.Matrices.{bounds}
use Rattle.job_memory.specs.Memory.{Memory}
use Rattle.basic_matrix.specs.declared.values.MatValue.{MatValue}
use Rattle.basic_matrix.specs.declared.values.MatValue.TheVariants.{Zero, One, Identity, Copy, Sum, Difference, Product, Scaled, Transposed}

-- the first bound, and the second one of an array that has two
abbrev pub MatrixShape : Type 0
MatrixShape = ℕ × Option ℕ

-- that of an array; an array that does not exist has no rows
abbrev pub shape_of : Memory → Name → MatrixShape
shape_of m name = unwrap_or (bounds name m) (0, None)

abbrev pub has_two : MatrixShape → Bool
has_two shape = is_some shape.1

abbrev pub matrix_rows : MatrixShape → ℕ
matrix_rows shape = shape.0

-- an array of one subscript has one element in each row
abbrev pub matrix_columns : MatrixShape → ℕ
matrix_columns shape = unwrap_or shape.1 1

-- the same number of subscripts, with the same bounds
abbrev pub same_second : Option ℕ → Option ℕ → Bool
same_second None None = true
same_second (Some a) (Some b) = a == b
same_second None (Some b) = false
same_second (Some a) None = false

abbrev pub same_shape : MatrixShape → MatrixShape → Bool
same_shape a b = (matrix_rows a == matrix_rows b) && same_second a.1 b.1

-- IDN
abbrev pub is_square : MatrixShape → Bool
is_square shape = has_two shape && (matrix_rows shape == matrix_columns shape)

-- the product of two arrays
abbrev pub is_product : MatrixShape → MatrixShape → MatrixShape → Bool
is_product left right shape =
    has_two left && has_two right && has_two shape
    && (matrix_columns left == matrix_rows right) && (matrix_rows shape == matrix_rows left)
    && (matrix_columns shape == matrix_columns right)

-- TRN of an array
abbrev pub is_turned : MatrixShape → MatrixShape → Bool
is_turned of shape =
    has_two of && has_two shape
    && (matrix_rows shape == matrix_columns of) && (matrix_columns shape == matrix_rows of)

-- Whether the arrays of the value fit each other, and the target fits the value. If not, the error
-- is 55.
abbrev pub fits : (Name → MatrixShape) → Name → MatValue → Bool
fits shape target Zero = true
fits shape target One = true
fits shape target Identity = is_square (shape target)
fits shape target (Copy b) = same_shape (shape target) (shape b)
fits shape target (Sum b c) = same_shape (shape b) (shape c) && same_shape (shape target) (shape b)
fits shape target (Difference b c) =
    same_shape (shape b) (shape c) && same_shape (shape target) (shape b)
fits shape target (Product b c) = is_product (shape b) (shape c) (shape target)
fits shape target (Scaled n b) = same_shape (shape target) (shape b)
fits shape target (Transposed b) = is_turned (shape b) (shape target)

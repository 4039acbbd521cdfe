-- MAT: what its statements do with whole arrays, whose elements with a subscript 0 do not count.
use Rattle.std.specs.Prelude.{ℕ, List, [], ◌∷◌, slice_get, Option, Some, None, ℤ, pos, false}
use Rattle.std.specs.List.{range_with_len}
use Rattle.basic_values.specs.Numbers.{printed, wrap}
use Rattle.basic_tree.specs.declared.names.Name.{Name}
use Rattle.basic_tree.specs.declared.parts.Separator.{Separator}
use Rattle.basic_tree.specs.Trees.{MatrixTree, StatementTree, MatRead, MatPrint, MatLet}
use Rattle.basic_tree.specs.Trees as tree
use Rattle.basic_matrix.specs.declared.values.MatValue.{MatValue}
use Rattle.basic_matrix.specs.declared.values.MatValue.TheVariants as value
use Rattle.basic_matrix.specs.MatrixActs.{implied_matrix, assigned, row_numbers}
use Rattle.basic_matrix.specs.MatrixShapes.{MatrixShape, shape_of, matrix_rows}
use Rattle.job_memory.specs.Matrices.{bounds}
use Rattle.job_memory.specs.Memory.{Memory}
use Rattle.job_model.specs.Act.{Gives, ◌then◌}
use Rattle.job_model.specs.Texts.{line_end}
use Rattle.program_model.specs.declared.matrix_acts.MatrixAct.{MatrixAct}
use Rattle.program_model.specs.declared.matrix_acts.MatrixAct.TheVariants.{Read, Print, Assign}
use Rattle.program_model.specs.declared.matrix_acts.MatrixForm.{MatrixForm}
use Rattle.program_model.specs.declared.matrix_acts.MatrixForm.TheVariants as form
use Rattle.program_model.specs.Job.{Value, Number, Job, Deed, or_fault}
use Rattle.program_model.specs.DataItems.{item_taken}
use Rattle.program_model.specs.Expressions.{Around, values_of}
use Rattle.program_model.specs.FileStatements.{in_order}
use Rattle.program_model.specs.Functions.{number_at}
use Rattle.program_model.specs.Items.{item_value}
use Rattle.program_model.specs.Printing.{written, separated}
use Rattle.program_model.specs.Variables.{dimensioned, stored_at}

-- one after another
abbrev pub one_by_one : {R A : Type 0} → (A → Job R → Deed R (Unit {0})) → List A → Job R → Deed R (Unit {0})
one_by_one act [] j = Gives tt j
one_by_one act (a ∷ others) j = act a j then λ _ j. one_by_one act others j

-- THE ARRAYS OF A STATEMENT, in the order of the source

abbrev pub matrices_in : MatrixForm → List Name
matrices_in form.Zero = []
matrices_in form.One = []
matrices_in form.Identity = []
matrices_in (form.Copy b) = b ∷ []
matrices_in (form.Sum b c) = b ∷ c ∷ []
matrices_in (form.Difference b c) = b ∷ c ∷ []
matrices_in (form.Product b c) = b ∷ c ∷ []
matrices_in (form.Scaled b) = b ∷ []
matrices_in (form.Transposed b) = b ∷ []

abbrev pub matrices_of : MatrixAct → List Name
matrices_of (Read names) = names
matrices_of (Print matrix separator) = matrix ∷ []
matrices_of (Assign target value) = target ∷ matrices_in value

-- one that was not made becomes an array of two subscripts to 10
abbrev pub touched_by : {R : Type 0} → Option (ℕ × Option ℕ) → Name → Job R → Deed R (Unit {0})
touched_by (Some shape) matrix j = Gives tt j
touched_by None matrix j = dimensioned (implied_matrix matrix) j

abbrev pub touched : {R : Type 0} → Name → Job R → Deed R (Unit {0})
touched matrix j = touched_by (bounds matrix j.memory) matrix j

abbrev pub touch_all : {R : Type 0} → List Name → Job R → Deed R (Unit {0})
touch_all matrices j = one_by_one touched matrices j

-- MAT READ: each element takes an item as READ does, row by row

abbrev pub read_element : {R : Type 0} → List (List ℕ) → Name → List Value → Job R → Deed R (Unit {0})
read_element items matrix subscripts j =
    item_taken (slice_get items j.item) j
    then λ item j. or_fault (item_value false item) j
    then λ v j. stored_at matrix subscripts v j

-- subscripts have 16 bits, as all numbers
abbrev pub at_row : ℕ → List Value
at_row row = Number (wrap (pos row)) ∷ []

abbrev pub at_column : ℕ → ℕ → List Value
at_column row column = Number (wrap (pos row)) ∷ Number (wrap (pos column)) ∷ []

-- a row, which has one element in an array of one subscript
abbrev pub read_row : {R : Type 0} → List (List ℕ) → Name → Option ℕ → ℕ → Job R → Deed R (Unit {0})
read_row items matrix None row j = read_element items matrix (at_row row) j
read_row items matrix (Some last) row j = one_by_one (λ column. read_element items matrix (at_column row column)) (range_with_len 1 last) j

abbrev pub read_matrix : {R : Type 0} → List (List ℕ) → Name → MatrixShape → Job R → Deed R (Unit {0})
read_matrix items matrix shape j = one_by_one (read_row items matrix shape.1) (range_with_len 1 (matrix_rows shape)) j

abbrev pub read_matrices : {R : Type 0} → List (List ℕ) → List Name → Job R → Deed R (Unit {0})
read_matrices items matrices j = one_by_one (λ matrix j. read_matrix items matrix (shape_of j.memory matrix) j) matrices j

-- MAT PRINT: numbers as PRINT writes them

-- what comes after a number that others of its row follow; without a separator each number is a
-- line
abbrev pub behind_number : {R : Type 0} → Option Separator → List ℤ → Job R → Job R
behind_number None others j = written line_end j
behind_number (Some separator) [] j = j
behind_number (Some separator) (n ∷ others) j = separated separator j

abbrev pub numbers_written : {R : Type 0} → Option Separator → List ℤ → Job R → Job R
numbers_written separator [] j = j
numbers_written separator (n ∷ others) j =
    numbers_written separator others (behind_number separator others (written (printed n) j))

-- a row is a line if a separator follows the name, also a row without elements
abbrev pub row_ended : {R : Type 0} → Option Separator → Job R → Job R
row_ended None j = j
row_ended (Some separator) j = written line_end j

abbrev pub row_written : {R : Type 0} → Option Separator → List ℤ → Job R → Job R
row_written separator numbers j = row_ended separator (numbers_written separator numbers j)

abbrev pub rows_written : {R : Type 0} → Option Separator → Name → List ℕ → Job R → Job R
rows_written separator matrix [] j = j
rows_written separator matrix (row ∷ rows) j =
    rows_written separator matrix rows (row_written separator (row_numbers j.memory matrix row) j)

abbrev pub matrix_written : {R : Type 0} → Option Separator → Name → Job R → Job R
matrix_written separator matrix j =
    rows_written separator matrix (range_with_len 1 (matrix_rows (shape_of j.memory matrix))) j

-- MAT .. = ..: the value is formed before anything is stored, or error 55 and nothing is stored

abbrev pub value_by : ℤ → MatrixForm → MatValue
value_by factor form.Zero = value.Zero
value_by factor form.One = value.One
value_by factor form.Identity = value.Identity
value_by factor (form.Copy b) = value.Copy b
value_by factor (form.Sum b c) = value.Sum b c
value_by factor (form.Difference b c) = value.Difference b c
value_by factor (form.Product b c) = value.Product b c
value_by factor (form.Scaled b) = value.Scaled factor b
value_by factor (form.Transposed b) = value.Transposed b

abbrev pub with_memory : {R : Type 0} → Memory → Job R → Deed R (Unit {0})
with_memory m j = Gives tt (record j { memory = m })

abbrev pub assigns_value : {R : Type 0} → Name → MatValue → Job R → Deed R (Unit {0})
assigns_value target v j = or_fault (assigned target v j.memory) j then with_memory

-- THE STATEMENTS: all arrays are made before anything is read, written or stored

abbrev pub acts_on_matrices : {R : Type 0} → List (List ℕ) → MatrixAct → ℤ → Job R → Deed R (Unit {0})
acts_on_matrices items (Read names) factor j = read_matrices items names j
acts_on_matrices items (Print matrix separator) factor j = Gives tt (matrix_written separator matrix j)
acts_on_matrices items (Assign target value) factor j = assigns_value target (value_by factor value) j

abbrev pub matrix_act : {R : Type 0} → List (List ℕ) → MatrixAct → List Value → Job R → Deed R (Unit {0})
matrix_act items act operands j =
    touch_all (matrices_of act) j then λ _ j. acts_on_matrices items act (number_at 0 operands) j

-- the operands are evaluated first
abbrev pub matrix_acts_by : {R : Type 0} → Around R → List (List ℕ) → MatrixAct → List tree.Tree → Job R → Deed R (Unit {0})
matrix_acts_by around items act operands j =
    values_of around (in_order operands) j then λ values j. matrix_act items act values j

-- THEIR FORMS

abbrev pub form_of : MatrixTree → MatrixForm
form_of tree.Zero = form.Zero
form_of tree.One = form.One
form_of tree.Identity = form.Identity
form_of (tree.Copy b) = form.Copy b
form_of (tree.Sum b c) = form.Sum b c
form_of (tree.Difference b c) = form.Difference b c
form_of (tree.Product b c) = form.Product b c
form_of (tree.Scaled factor b) = form.Scaled b
form_of (tree.Transposed b) = form.Transposed b

-- the arrays that a statement of MAT names
abbrev pub matrices_by : StatementTree → List Name
matrices_by (MatRead matrices) = matrices
matrices_by (MatPrint matrix separator) = matrix ∷ []
matrices_by (MatLet target value) = target ∷ matrices_in (form_of value)
matrices_by s = []

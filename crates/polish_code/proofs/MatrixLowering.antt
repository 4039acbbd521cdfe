-- What a statement of MAT does is the same in code.
use Rattle.std.proofs.Common.{◌≡◌, ℕ, List, [], ◌∷◌, Option, Some, None, refl, ap, ◌∙◌}
use Rattle.std.specs.Prelude.{ℤ, false, slice_get}
use Rattle.std.specs.List.{range_with_len}
use Rattle.basic_values.specs.Numbers.{printed}
use Rattle.basic_tree.specs.declared.names.Name.{Name}
use Rattle.basic_tree.specs.declared.parts.Separator.{Separator}
use Rattle.basic_tree.specs.declared.parts.Separator.TheVariants.{Comma, Semicolon}
use Rattle.basic_matrix.specs.declared.values.MatValue.{MatValue}
use Rattle.basic_matrix.specs.MatrixActs.{implied_matrix, assigned, row_numbers}
use Rattle.basic_matrix.specs.MatrixShapes.{MatrixShape, shape_of, matrix_rows}
use Rattle.job_memory.specs.Matrices.{bounds}
use Rattle.job_memory.specs.Memory.{made}
use Rattle.job_model.specs.Act.{Gives}
use Rattle.program_model.specs.declared.matrix_acts.MatrixAct.{MatrixAct}
use Rattle.program_model.specs.declared.matrix_acts.MatrixAct.TheVariants.{Read, Print, Assign}
use Rattle.program_model.specs.Functions.{number_at}
use Rattle.program_model.specs.Items.{item_value}
use Rattle.program_model.specs.Printing.{written}
use Rattle.program_model.specs.DataItems.{item_taken}
use Rattle.program_model.specs.declared.values.Value.{Value}
use Rattle.program_model.specs.Job.{Job, Deed, or_fault}
use Rattle.program_model.specs.MatrixStatements.{matrices_of, one_by_one, touched_by, touched, touch_all, read_element, at_row, at_column, read_row, read_matrix, behind_number, numbers_written, row_ended, row_written, rows_written, value_by, assigns_value, acts_on_matrices, matrix_act}
use Rattle.program_model.specs.Program.{Program, Position}
use Rattle.polish_code.specs.Walk.{Spot, Walked}
use Rattle.polish_code.proofs.Lowering.{low, Same, follow, fault_same, remembered_same, stored_at_same, taken_same}

module _ (program : Program) where
  touched_by_same : (shape : Option (ℕ × Option ℕ)) (x : Name) (j : Job Position) → Same program (touched_by shape x (low program j)) (touched_by shape x j)
  touched_by_same (Some shape) x j = refl
  touched_by_same None x j = remembered_same program (made (implied_matrix x) j.memory) j

  each_same : {A : Type 0} (act' : A → Job Spot → Walked (Unit {0})) (act : A → Job Position → Deed Position (Unit {0})) → ((a : A) (j : Job Position) → Same program (act' a (low program j)) (act a j)) → (all : List A) (j : Job Position) → Same program (one_by_one act' all (low program j)) (one_by_one act all j)
  each_same act' act one [] j = refl
  each_same act' act one (a ∷ others) j = follow program _ (act a j) _ _ _ (one a j) (λ _ j. each_same act' act one others j)

  -- READ

  element_same : (items : List (List ℕ)) (x : Name) (vs : List Value) (j : Job Position) → Same program (read_element items x vs (low program j)) (read_element items x vs j)
  element_same items x vs j =
      follow program _ (item_taken (slice_get items j.item) j) _ _ _ (taken_same program (slice_get items j.item) j) (λ one j.
      follow program _ (or_fault (item_value false one) j) _ _ _ (fault_same program (item_value false one) j) (λ v j. stored_at_same program x vs v j))

  row_same : (items : List (List ℕ)) (x : Name) (last : Option ℕ) (row : ℕ) (j : Job Position) → Same program (read_row items x last row (low program j)) (read_row items x last row j)
  row_same items x None row j = element_same items x (at_row row) j
  row_same items x (Some last) row j = each_same (λ (column : ℕ). read_element items x (at_column row column)) (λ (column : ℕ). read_element items x (at_column row column)) (λ column j. element_same items x (at_column row column) j) (range_with_len 1 last) j

  read_same : (items : List (List ℕ)) (x : Name) (shape : MatrixShape) (j : Job Position) → Same program (read_matrix items x shape (low program j)) (read_matrix items x shape j)
  read_same items x shape j = each_same (read_row items x shape.1) (read_row items x shape.1) (row_same items x shape.1) (range_with_len 1 (matrix_rows shape)) j

  -- PRINT

  behind_low : (s : Option Separator) (others : List ℤ) (j : Job Position) → behind_number s others (low program j) ≡ low program (behind_number s others j)
  behind_low None others j = refl
  behind_low (Some s) [] j = refl
  behind_low (Some Comma) (n ∷ others) j = refl
  behind_low (Some Semicolon) (n ∷ others) j = refl

  numbers_low : (s : Option Separator) (ns : List ℤ) (j : Job Position) → numbers_written s ns (low program j) ≡ low program (numbers_written s ns j)
  numbers_low s [] j = refl
  numbers_low s (n ∷ others) j =
      ap (numbers_written s others) (behind_low s others (written (printed n) j))
      ∙ numbers_low s others (behind_number s others (written (printed n) j))

  ended_low : (s : Option Separator) (j : Job Position) → row_ended s (low program j) ≡ low program (row_ended s j)
  ended_low None j = refl
  ended_low (Some s) j = refl

  rows_low : (s : Option Separator) (x : Name) (rows : List ℕ) (j : Job Position) → rows_written s x rows (low program j) ≡ low program (rows_written s x rows j)
  rows_low s x [] j = refl
  rows_low s x (row ∷ rows) j =
      let ns : List ℤ = row_numbers j.memory x row in
      ap (rows_written s x rows) (ap (row_ended s) (numbers_low s ns j) ∙ ended_low s (numbers_written s ns j))
      ∙ rows_low s x rows (row_written s ns j)

  -- THE VALUE

  assigns_same : (x : Name) (v : MatValue) (j : Job Position) → Same program (assigns_value x v (low program j)) (assigns_value x v j)
  assigns_same x v j = follow program _ (or_fault (assigned x v j.memory) j) _ _ _ (fault_same program (assigned x v j.memory) j) (λ m j. refl)

  acts_same : (items : List (List ℕ)) (act : MatrixAct) (n : ℤ) (j : Job Position) → Same program (acts_on_matrices items act n (low program j)) (acts_on_matrices items act n j)
  acts_same items (Read names) n j = each_same (λ (x : Name) (k : Job Spot). read_matrix items x (shape_of k.memory x) k) (λ (x : Name) (k : Job Position). read_matrix items x (shape_of k.memory x) k) (λ x j. read_same items x (shape_of j.memory x) j) names j
  acts_same items (Print x s) n j = ap (Gives tt) (rows_low s x (range_with_len 1 (matrix_rows (shape_of j.memory x))) j)
  acts_same items (Assign x form) n j = assigns_same x (value_by n form) j

  pub matrix_same : (items : List (List ℕ)) (act : MatrixAct) (vs : List Value) (j : Job Position) → Same program (matrix_act items act vs (low program j)) (matrix_act items act vs j)
  matrix_same items act vs j = follow program _ (touch_all (matrices_of act) j) _ _ _ (each_same touched touched (λ x j. touched_by_same (bounds x j.memory) x j) (matrices_of act) j) (λ _ j. acts_same items act (number_at 0 vs) j)

-- What is true of a job whose memory, screen and DATA item change is true at each end of a
-- statement of MAT.
use Rattle.std.proofs.Common.{ℕ, suc, List, [], ◌∷◌, Option, Some, None, Ok, Err}
use Rattle.std.specs.Prelude.{Bool, true, false, if◌then◌else◌, Result, ℤ, slice_get, nat_le, ◌++◌}
use Rattle.std.specs.List.{range_with_len}
use Rattle.basic_values.specs.Numbers.{printed}
use Rattle.basic_values.specs.declared.failures.Halt.TheVariants.{RoomFull}
use Rattle.basic_tree.specs.declared.names.Name.{Name}
use Rattle.basic_tree.specs.declared.parts.Separator.{Separator}
use Rattle.basic_tree.specs.declared.parts.Separator.TheVariants.{Comma, Semicolon}
use Rattle.basic_matrix.specs.MatrixActs.{implied_matrix, assigned, row_numbers}
use Rattle.basic_matrix.specs.MatrixShapes.{MatrixShape, shape_of, matrix_rows}
use Rattle.job_memory.specs.declared.contents.TheConstants.{MOST_ROOM}
use Rattle.job_memory.specs.Matrices.{bounds}
use Rattle.job_memory.specs.Memory.{Memory, made, room_of, store_at}
use Rattle.job_model.specs.Act.{Gives, Breaks, Halted}
use Rattle.job_model.specs.Ends.{EndsWhere}
use Rattle.job_model.specs.Texts.{line_end}
use Rattle.job_model.proofs.Ending.{ends_then}
use Rattle.program_model.specs.declared.matrix_acts.MatrixAct.{MatrixAct}
use Rattle.program_model.specs.declared.matrix_acts.MatrixAct.TheVariants.{Read, Print, Assign}
use Rattle.program_model.specs.DataItems.{item_taken}
use Rattle.program_model.specs.Functions.{number_at}
use Rattle.program_model.specs.Items.{item_value}
use Rattle.program_model.specs.Job.{Value, Job, Deed, or_fault}
use Rattle.program_model.specs.MatrixStatements.{matrices_of, one_by_one, touched_by, touched, touch_all, read_element, at_row, at_column, read_row, read_matrix, behind_number, numbers_written, row_ended, row_written, rows_written, value_by, with_memory, acts_on_matrices, matrix_act}
use Rattle.program_model.specs.Printing.{written}
use Rattle.program_model.specs.Variables.{content_of, remembered, second, stored_at}

module _ {R : Type 0} (Fact : Job R → Type 0)
    (in_memory : (m : Memory) (j : Job R) → Fact j → Fact (record j { memory = m }))
    (at_item : (item : ℕ) (j : Job R) → Fact j → Fact (record j { item = item }))
    (on_screen : (screen : List ℕ) (j : Job R) → Fact j → Fact (record j { screen = screen })) where
  abbrev Ends : {A : Type 0} → Deed R A → Type 0
  Ends m = EndsWhere Fact m

  either : {A : Type 0} (b : Bool) (m m' : Deed R A) → Ends m → Ends m' → Ends (if b then m else m')
  either true m m' h g = h
  either false m m' h g = g

  fault_ends : {A : Type 0} (r : Result A ℕ) (j : Job R) → Fact j → Ends (or_fault r j)
  fault_ends (Ok a) j h = h
  fault_ends (Err e) j h = h

  remembered_ends : (m : Memory) (j : Job R) → Fact j → Ends (remembered m j)
  remembered_ends m j h =
      either {A = Unit {0}} (nat_le (room_of m) MOST_ROOM) (Gives tt (record j { memory = m })) (Breaks (Halted RoomFull) j) (in_memory m j h) h

  touched_ends : (shape : Option (ℕ × Option ℕ)) (x : Name) (j : Job R) → Fact j → Ends (touched_by shape x j)
  touched_ends (Some shape) x j h = h
  touched_ends None x j h = remembered_ends (made (implied_matrix x) j.memory) j h

  each_ends : {A : Type 0} (act : A → Job R → Deed R (Unit {0})) → ((a : A) (j : Job R) → Fact j → Ends (act a j)) → (all : List A) (j : Job R) → Fact j → Ends (one_by_one act all j)
  each_ends act one [] j h = h
  each_ends act one (a ∷ others) j h = ends_then Fact (act a j) _ (one a j h) (λ _ k g. each_ends act one others k g)

  -- READ

  taken_ends : (one : Option (List ℕ)) (j : Job R) → Fact j → Ends (item_taken one j)
  taken_ends None j h = h
  taken_ends (Some one) j h = at_item (suc j.item) j h

  stored_ends : (x : Name) (vs : List Value) (v : Value) (j : Job R) → Fact j → Ends (stored_at x vs v j)
  stored_ends x vs v j h =
      let wanted = store_at x (number_at 0 vs) (second vs) (content_of v) j.memory in
      ends_then Fact (or_fault wanted j) remembered (fault_ends wanted j h) (λ m k g. remembered_ends m k g)

  element_ends : (items : List (List ℕ)) (x : Name) (vs : List Value) (j : Job R) → Fact j → Ends (read_element items x vs j)
  element_ends items x vs j h =
      ends_then Fact (item_taken (slice_get items j.item) j) _ (taken_ends (slice_get items j.item) j h) (λ one k g.
      ends_then Fact (or_fault (item_value false one) k) _ (fault_ends (item_value false one) k g) (λ v l f. stored_ends x vs v l f))

  row_ends : (items : List (List ℕ)) (x : Name) (last : Option ℕ) (row : ℕ) (j : Job R) → Fact j → Ends (read_row items x last row j)
  row_ends items x None row j h = element_ends items x (at_row row) j h
  row_ends items x (Some last) row j h = each_ends (λ (column : ℕ). read_element items x (at_column row column)) (λ column k g. element_ends items x (at_column row column) k g) (range_with_len 1 last) j h

  matrix_read_ends : (items : List (List ℕ)) (x : Name) (shape : MatrixShape) (j : Job R) → Fact j → Ends (read_matrix items x shape j)
  matrix_read_ends items x shape j h = each_ends (read_row items x shape.1) (row_ends items x shape.1) (range_with_len 1 (matrix_rows shape)) j h

  -- PRINT

  wrote : (bytes : List ℕ) (j : Job R) → Fact j → Fact (written bytes j)
  wrote bytes j h = on_screen (j.screen ++ bytes) j h

  wrote_behind : (s : Option Separator) (others : List ℤ) (j : Job R) → Fact j → Fact (behind_number s others j)
  wrote_behind None others j h = wrote line_end j h
  wrote_behind (Some s) [] j h = h
  wrote_behind (Some Comma) (n ∷ others) j h = wrote _ j h
  wrote_behind (Some Semicolon) (n ∷ others) j h = h

  wrote_numbers : (s : Option Separator) (ns : List ℤ) (j : Job R) → Fact j → Fact (numbers_written s ns j)
  wrote_numbers s [] j h = h
  wrote_numbers s (n ∷ others) j h = wrote_numbers s others _ (wrote_behind s others (written (printed n) j) (wrote (printed n) j h))

  wrote_end : (s : Option Separator) (j : Job R) → Fact j → Fact (row_ended s j)
  wrote_end None j h = h
  wrote_end (Some s) j h = wrote line_end j h

  wrote_rows : (s : Option Separator) (x : Name) (rows : List ℕ) (j : Job R) → Fact j → Fact (rows_written s x rows j)
  wrote_rows s x [] j h = h
  wrote_rows s x (row ∷ rows) j h =
      let ns : List ℤ = row_numbers j.memory x row in
      wrote_rows s x rows (row_written s ns j) (wrote_end s (numbers_written s ns j) (wrote_numbers s ns j h))

  acts_end : (items : List (List ℕ)) (act : MatrixAct) (n : ℤ) (j : Job R) → Fact j → Ends (acts_on_matrices items act n j)
  acts_end items (Read names) n j h = each_ends (λ (x : Name) (k : Job R). read_matrix items x (shape_of k.memory x) k) (λ x k g. matrix_read_ends items x (shape_of k.memory x) k g) names j h
  acts_end items (Print x s) n j h = wrote_rows s x (range_with_len 1 (matrix_rows (shape_of j.memory x))) j h
  acts_end items (Assign x form) n j h =
      let wanted = assigned x (value_by n form) j.memory in
      ends_then Fact (or_fault wanted j) with_memory (fault_ends wanted j h) (λ m k g. in_memory m k g)

  pub matrix_ends : (items : List (List ℕ)) (act : MatrixAct) (vs : List Value) (j : Job R) → Fact j → Ends (matrix_act items act vs j)
  matrix_ends items act vs j h = ends_then Fact (touch_all (matrices_of act) j) _ (each_ends touched (λ x k g. touched_ends (bounds x k.memory) x k g) (matrices_of act) j h) (λ _ k g. acts_end items act (number_at 0 vs) k g)

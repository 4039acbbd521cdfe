-- Statements of MAT, computed.
use Rattle.std.proofs.Common.{◌≡◌, ℕ, List, [], ◌∷◌, false, Option, Some, None, Result, Ok, Err, refl}
use Rattle.std.specs.Prelude.{map, ℤ, pos, negsuc}
use Rattle.basic_tree.specs.declared.names.Name.{Name}
use Rattle.job_memory.specs.declared.contents.Content.TheVariants.{Number}
use Rattle.job_memory.specs.Memory.{Memory, number_at}
use Rattle.job_memory.specs.Tables.{Table}
use Rattle.basic_matrix.specs.declared.values.MatValue.TheVariants.{Zero, One, Identity, Copy, Sum, Difference, Product, Scaled, Transposed}
use Rattle.basic_matrix.specs.MatrixActs.{assigned, row_numbers}

abbrev named : ℕ → Name
named letter = record { letter = letter; digit = None; text = false }

-- row 0 and column 0 contain 9
abbrev table_of : ℕ → Option ℕ → List ℕ → Table
table_of first second cells = record { first = first; second = second; cells = map (λ n. Number (pos n)) cells }

-- A% is 1 2 / 3 4, and B% is of the same bounds. C% has two rows of three, and D% two elements of
-- one subscript. E% has two rows without columns, and F% two columns without rows.
abbrev some : Memory
some = record {
  variables = [];
  arrays =
      (named 65, table_of 2 (Some 2) (9 ∷ 9 ∷ 9 ∷ 9 ∷ 1 ∷ 2 ∷ 9 ∷ 3 ∷ 4 ∷ []))
      ∷ (named 66, table_of 2 (Some 2) (9 ∷ 9 ∷ 9 ∷ 9 ∷ 0 ∷ 0 ∷ 9 ∷ 0 ∷ 0 ∷ []))
      ∷ (named 67, table_of 2 (Some 3) (9 ∷ 9 ∷ 9 ∷ 9 ∷ 9 ∷ 1 ∷ 2 ∷ 3 ∷ 9 ∷ 4 ∷ 5 ∷ 6 ∷ []))
      ∷ (named 68, table_of 2 None (9 ∷ 5 ∷ 6 ∷ []))
      ∷ (named 69, table_of 2 (Some 0) (9 ∷ 9 ∷ 9 ∷ []))
      ∷ (named 70, table_of 0 (Some 2) (9 ∷ 9 ∷ 9 ∷ []))
      ∷ [];
  aside = [];
}

-- two matrix_rows of an array after an assignment, or nothing in place of an error
abbrev rows_behind : ℕ → Result Memory ℕ → List (List ℤ)
rows_behind letter (Ok m) = row_numbers m (named letter) 1 ∷ row_numbers m (named letter) 2 ∷ []
rows_behind letter (Err fault) = []

abbrev fault_of : Result Memory ℕ → ℕ
fault_of (Ok m) = 0
fault_of (Err fault) = fault

abbrev squared : List (List ℤ)
squared = (pos 7 ∷ pos 10 ∷ []) ∷ (pos 15 ∷ pos 22 ∷ []) ∷ []

product : rows_behind 66 (assigned (named 66) (Product (named 65) (named 65)) some) ≡ squared
product = refl

-- also if the target is among the arrays
product_onto_itself : rows_behind 65 (assigned (named 65) (Product (named 65) (named 65)) some) ≡ squared
product_onto_itself = refl

-- two matrix_rows of three columns are those of 2 by 2 and 2 by 3
oblong_product : rows_behind 67 (assigned (named 67) (Product (named 65) (named 67)) some) ≡ (pos 9 ∷ pos 12 ∷ pos 15 ∷ []) ∷ (pos 19 ∷ pos 26 ∷ pos 33 ∷ []) ∷ []
oblong_product = refl

-- a sum over no middle subscript is 0
no_middle : rows_behind 65 (assigned (named 65) (Product (named 69) (named 70)) some) ≡ (pos 0 ∷ pos 0 ∷ []) ∷ (pos 0 ∷ pos 0 ∷ []) ∷ []
no_middle = refl

inner_bounds_differ : fault_of (assigned (named 67) (Product (named 67) (named 65)) some) ≡ 55
inner_bounds_differ = refl

turned : rows_behind 65 (assigned (named 65) (Transposed (named 65)) some) ≡ (pos 1 ∷ pos 3 ∷ []) ∷ (pos 2 ∷ pos 4 ∷ []) ∷ []
turned = refl

-- with A%(2%,3%) and B%(2%,2%), TRN of the one does not fit the other
turned_into_wrong_bounds : fault_of (assigned (named 66) (Transposed (named 67)) some) ≡ 55
turned_into_wrong_bounds = refl

sum : rows_behind 66 (assigned (named 66) (Sum (named 65) (named 65)) some) ≡ (pos 2 ∷ pos 4 ∷ []) ∷ (pos 6 ∷ pos 8 ∷ []) ∷ []
sum = refl

difference : rows_behind 65 (assigned (named 65) (Difference (named 66) (named 65)) some) ≡ (negsuc 0 ∷ negsuc 1 ∷ []) ∷ (negsuc 2 ∷ negsuc 3 ∷ []) ∷ []
difference = refl

-- numbers of 16 bits wrap
scaled : rows_behind 65 (assigned (named 65) (Scaled (pos 20000) (named 65)) some) ≡ (pos 20000 ∷ negsuc 25535 ∷ []) ∷ (negsuc 5535 ∷ pos 14464 ∷ []) ∷ []
scaled = refl

identity : rows_behind 65 (assigned (named 65) Identity some) ≡ (pos 1 ∷ pos 0 ∷ []) ∷ (pos 0 ∷ pos 1 ∷ []) ∷ []
identity = refl

identity_of_unequal_bounds : fault_of (assigned (named 67) Identity some) ≡ 55
identity_of_unequal_bounds = refl

identity_of_one_subscript : fault_of (assigned (named 68) Identity some) ≡ 55
identity_of_one_subscript = refl

-- an array of one subscript has one element in each row
ones : rows_behind 68 (assigned (named 68) One some) ≡ (pos 1 ∷ []) ∷ (pos 1 ∷ []) ∷ []
ones = refl

sum_of_one_subscript : rows_behind 68 (assigned (named 68) (Sum (named 68) (named 68)) some) ≡ (pos 10 ∷ []) ∷ (pos 12 ∷ []) ∷ []
sum_of_one_subscript = refl

one_and_two_subscripts : fault_of (assigned (named 65) (Sum (named 65) (named 68)) some) ≡ 55
one_and_two_subscripts = refl

-- an element with a subscript 0 stays
abbrev element_behind : ℤ → ℤ → Result Memory ℕ → Result ℤ ℕ
element_behind i j (Ok m) = number_at (named 65) i (Some j) m
element_behind i j (Err fault) = Err fault

corner_stays : element_behind (pos 0) (pos 2) (assigned (named 65) Zero some) ≡ Ok (pos 9)
corner_stays = refl

column_0_stays : element_behind (pos 2) (pos 0) (assigned (named 65) Zero some) ≡ Ok (pos 9)
column_0_stays = refl

within_is_stored : element_behind (pos 2) (pos 1) (assigned (named 65) Zero some) ≡ Ok (pos 0)
within_is_stored = refl

copy_of_other_bounds : fault_of (assigned (named 65) (Copy (named 67)) some) ≡ 55
copy_of_other_bounds = refl

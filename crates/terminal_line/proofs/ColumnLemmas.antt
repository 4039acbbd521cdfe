-- Columns after bytes that change them.
use Rattle.std.proofs.Common.{◌≡◌, ℕ, zero, suc, ◌+◌, ◌-◌, ◌%◌, ◌<◌, ◌≤◌, List, [], ◌∷◌, ◌++◌, replicate, ap, ◌∙◌, arith}
use Rattle.std.specs.Prelude.{max, pos}
use Rattle.std.specs.List.{fold}
use Rattle.std.proofs.lemmas.Bool.Decides.{nat_tests}
use Rattle.std.proofs.lemmas.List.Sums.{fold-append}
use Rattle.basic_values.specs.Texts.{space}
use Rattle.terminal_line.specs.declared.columns.TheConstants.{MOST_COLUMN, ZONE_WIDTH, LAST_ZONE}
use Rattle.terminal_line.specs.Columns.{column_behind, column_of, zone_text, tab_text}

pub step-le : (column byte : ℕ) → column ≤ MOST_COLUMN → column_behind column byte ≤ MOST_COLUMN
step-le column byte h = grind (arith, nat_tests)

pub column_from-le : (column : ℕ) (bytes : List ℕ) → column ≤ MOST_COLUMN → fold column_behind column bytes ≤ MOST_COLUMN
column_from-le column [] h = h
column_from-le column (byte ∷ bytes) h = column_from-le (column_behind column byte) bytes (step-le column byte h)

pub column_of-le : (bytes : List ℕ) → column_of bytes ≤ MOST_COLUMN
column_of-le bytes = column_from-le 0 bytes (omega arith)

pub ruleset most = (column_of-le)

space_step : (column : ℕ) → column < MOST_COLUMN → column_behind column space ≡ column + 1
space_step column h = grind (arith, nat_tests)

-- after this many spaces
pub spaced : (column count : ℕ) → column + count ≤ MOST_COLUMN → fold column_behind column (replicate count space) ≡ column + count
spaced column zero h = omega arith
spaced column (suc count) h = ap (λ (k : ℕ). fold column_behind k (replicate count space)) (space_step column (omega arith)) ∙ spaced (column + 1) count (omega arith) ∙ omega arith

pub spaces_behind : (bytes : List ℕ) (count : ℕ) → column_of bytes + count ≤ MOST_COLUMN → column_of (bytes ++ replicate count space) ≡ column_of bytes + count
spaces_behind bytes count h = fold-append column_behind 0 bytes (replicate count space) ∙ spaced (column_of bytes) count h

tab_from : (bytes : List ℕ) (wanted : ℕ) → wanted ≤ MOST_COLUMN → column_of (bytes ++ tab_text (pos wanted) (column_of bytes)) ≡ column_of bytes + (wanted - column_of bytes)
tab_from bytes wanted h = let most = column_of-le bytes in spaces_behind bytes (wanted - column_of bytes) (omega arith)

pub tabs_reach : (bytes : List ℕ) (wanted : ℕ) → wanted ≤ MOST_COLUMN → column_of (bytes ++ tab_text (pos wanted) (column_of bytes)) ≡ max wanted (column_of bytes)
tabs_reach bytes wanted h = tab_from bytes wanted h ∙ omega arith

-- the spaces to the next zone
pub zone_spaces : (column : ℕ) → column < LAST_ZONE → zone_text column ≡ replicate (ZONE_WIDTH - column % ZONE_WIDTH) space
zone_spaces column h = grind (arith, nat_tests)

next_zone : (column : ℕ) → (column + (ZONE_WIDTH - column % ZONE_WIDTH)) % ZONE_WIDTH ≡ 0
next_zone column = omega arith

pub zones_reach : (bytes : List ℕ) → column_of bytes < LAST_ZONE
    → let column = column_of (bytes ++ zone_text (column_of bytes)) in
    (column_of bytes < column) × (column ≤ column_of bytes + ZONE_WIDTH) × (column % ZONE_WIDTH ≡ 0)
zones_reach bytes h =
    let count : ℕ = ZONE_WIDTH - column_of bytes % ZONE_WIDTH in
    let is : column_of (bytes ++ zone_text (column_of bytes)) ≡ column_of bytes + count = ap (λ (text : List ℕ). column_of (bytes ++ text)) (zone_spaces (column_of bytes) h) ∙ spaces_behind bytes count (omega arith) in
    (omega arith, omega arith, ap (λ (k : ℕ). k % ZONE_WIDTH) is ∙ next_zone (column_of bytes))

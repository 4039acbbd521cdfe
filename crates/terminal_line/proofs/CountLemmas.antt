-- The column counts the printed bytes after the last CR.
use Rattle.std.proofs.Common.{◌≡◌, ℕ, suc, ◌+◌, ◌-◌, ◌<◌, ◌≤◌, ◌⊎◌, inl, inr, Bool, true, false, cond, List, [], ◌∷◌, length, drop, refl, sym, ap, ◌∙◌, arith}
use Rattle.std.specs.Prelude.{filter, min, not, nat_lt, ◌==◌, reverse}
use Rattle.std.specs.List.{fold, suffix_len, after_last, prefix_len}
use Rattle.std.proofs.lemmas.Bool.{cases_lt, eq-eqb}
use Rattle.std.proofs.lemmas.Bool.Decides.{nat_tests}
use Rattle.std.proofs.lemmas.List.{reverse-append, length-reverse}
use Rattle.std.proofs.lemmas.List.Folds.{prefix_len-append}
use Rattle.std.proofs.lemmas.List.Sums.{suffix_len-le-length}
use Rattle.terminal_line.specs.declared.columns.TheConstants.{MOST_COLUMN}
use Rattle.terminal_line.proofs.ColumnLemmas.{step-le}
use Rattle.terminal_line.specs.Columns.{is_return, is_printed, column_behind, column_of}

abbrev stays : ℕ → Bool
stays byte = not (is_return byte)

-- how many bytes follow the last CR
abbrev tail : List ℕ → ℕ
tail bytes = suffix_len stays bytes

tail_append : (byte : ℕ) (bytes : List ℕ) → tail (byte ∷ bytes) ≡ cond (tail bytes == length (reverse bytes)) (length (reverse bytes) + prefix_len stays (byte ∷ [])) (tail bytes)
tail_append byte bytes = ap (prefix_len stays) (reverse-append (byte ∷ []) bytes) ∙ prefix_len-append stays (reverse bytes) (byte ∷ [])

tail_cons : (byte : ℕ) (bytes : List ℕ) → tail (byte ∷ bytes) ≡ cond (tail bytes == length bytes) (length bytes + prefix_len stays (byte ∷ [])) (tail bytes)
tail_cons byte bytes = tail_append byte bytes ∙ ap (λ (n : ℕ). cond (tail bytes == n) (n + prefix_len stays (byte ∷ [])) (tail bytes)) (length-reverse bytes)

tail_whole : (byte : ℕ) (bytes : List ℕ) → is_return byte ≡ false → tail bytes ≡ length bytes → tail (byte ∷ bytes) ≡ length bytes + 1
tail_whole byte bytes no_cr all = tail_cons byte bytes ∙ rw (eq-eqb (tail bytes) (length bytes) all, no_cr) refl

tail_return : (byte : ℕ) (bytes : List ℕ) → is_return byte ≡ true → tail bytes ≡ length bytes → tail (byte ∷ bytes) ≡ length bytes
tail_return byte bytes cr all = tail_cons byte bytes ∙ rw (eq-eqb (tail bytes) (length bytes) all, cr) (omega arith)

tail_part : (byte : ℕ) (bytes : List ℕ) → tail bytes < length bytes → tail (byte ∷ bytes) ≡ tail bytes
tail_part byte bytes some = let apart : (tail bytes == length bytes) ≡ false = grind (arith, nat_tests) in tail_cons byte bytes ∙ rw apart refl

abbrev Shape : List ℕ → Type 0
Shape bytes = (tail bytes ≡ length bytes) ⊎ (tail bytes < length bytes)

shape : (bytes : List ℕ) → Shape bytes
shape bytes = by (cases_lt (tail bytes) (length bytes))
  where
    by : (tail bytes < length bytes) ⊎ (length bytes ≤ tail bytes) → Shape bytes
    by (inl some) = inr some
    by (inr all) = inl (omega (arith, suffix_len-le-length stays bytes))

-- a byte that is not CR, and then the count of the others
step_by : (column byte : ℕ) (bytes : List ℕ) (p b : Bool) → is_printed byte ≡ p → nat_lt column MOST_COLUMN ≡ b → column ≤ MOST_COLUMN → is_return byte ≡ false
    → min (column_behind column byte + length (filter is_printed bytes)) MOST_COLUMN ≡ min (column + length (filter is_printed (byte ∷ bytes))) MOST_COLUMN
step_by column byte bytes false b printed less le no_cr = rw (no_cr, printed) refl
step_by column byte bytes true true printed less le no_cr = rw (no_cr, printed, less) (omega arith)
step_by column byte bytes true false printed less le no_cr = let most : MOST_COLUMN ≤ column = grind (arith, nat_tests) in rw (no_cr, printed, less) (omega arith)

step_count : (column byte : ℕ) (bytes : List ℕ) → column ≤ MOST_COLUMN → is_return byte ≡ false
    → min (column_behind column byte + length (filter is_printed bytes)) MOST_COLUMN ≡ min (column + length (filter is_printed (byte ∷ bytes))) MOST_COLUMN
step_count column byte bytes le no_cr = step_by column byte bytes (is_printed byte) (nat_lt column MOST_COLUMN) refl refl le no_cr

-- if there is no CR
abbrev Counts : List ℕ → Type 0
Counts bytes = (column : ℕ) → column ≤ MOST_COLUMN → tail bytes ≡ length bytes → fold column_behind column bytes ≡ min (column + length (filter is_printed bytes)) MOST_COLUMN

whole_by : (byte : ℕ) (bytes : List ℕ) (b : Bool) → is_return byte ≡ b → Shape bytes → Counts bytes → Counts (byte ∷ bytes)
whole_by byte bytes false is (inl all) more column le whole = more (column_behind column byte) (step-le column byte le) all ∙ step_count column byte bytes le is
whole_by byte bytes true is (inl all) more column le whole = absurd (omega (arith, tail_return byte bytes is all, whole))
whole_by byte bytes b is (inr some) more column le whole = absurd (omega (arith, tail_part byte bytes some, whole))

whole : (bytes : List ℕ) → Counts bytes
whole [] column le all = omega arith
whole (byte ∷ bytes) column le all = whole_by byte bytes (is_return byte) refl (shape bytes) (whole bytes) column le all

whole_first : (bytes : List ℕ) → tail bytes ≡ length bytes → column_of bytes ≡ min (length (filter is_printed bytes)) MOST_COLUMN
whole_first bytes all = whole bytes 0 (omega arith) all ∙ omega arith

-- if there is one
abbrev CountsBehind : List ℕ → Type 0
CountsBehind bytes = (column : ℕ) → column ≤ MOST_COLUMN → tail bytes < length bytes → fold column_behind column bytes ≡ min (length (filter is_printed (after_last is_return bytes))) MOST_COLUMN

behind_return : (byte : ℕ) (bytes : List ℕ) → tail (byte ∷ bytes) ≡ length bytes → after_last is_return (byte ∷ bytes) ≡ bytes
behind_return byte bytes is = let one : suc (length bytes) - tail (byte ∷ bytes) ≡ 1 = omega (arith, is) in ap (λ (n : ℕ). drop n (byte ∷ bytes)) one

behind_others : (byte : ℕ) (bytes : List ℕ) → tail bytes < length bytes → tail (byte ∷ bytes) ≡ tail bytes → after_last is_return (byte ∷ bytes) ≡ after_last is_return bytes
behind_others byte bytes some is =
    let more : suc (length bytes) - tail (byte ∷ bytes) ≡ suc (length bytes - tail bytes) = omega (arith, is) in
    ap (λ (n : ℕ). drop n (byte ∷ bytes)) more

return_step : (column byte : ℕ) → is_return byte ≡ true → column_behind column byte ≡ 0
return_step column byte is = rw is refl

part_by : (byte : ℕ) (bytes : List ℕ) (b : Bool) → is_return byte ≡ b → Shape bytes → CountsBehind bytes → CountsBehind (byte ∷ bytes)
part_by byte bytes false is (inl all) more column le some = absurd (omega (arith, tail_whole byte bytes is all, some))
part_by byte bytes true is (inl all) more column le some =
    ap (λ (c : ℕ). fold column_behind c bytes) (return_step column byte is) ∙ whole_first bytes all
    ∙ ap (λ (l : List ℕ). min (length (filter is_printed l)) MOST_COLUMN) (sym (behind_return byte bytes (tail_return byte bytes is all)))
part_by byte bytes b is (inr few) more column le some =
    more (column_behind column byte) (step-le column byte le) few
    ∙ ap (λ (l : List ℕ). min (length (filter is_printed l)) MOST_COLUMN) (sym (behind_others byte bytes few (tail_part byte bytes few)))

part : (bytes : List ℕ) → CountsBehind bytes
part [] column le some = absurd (omega arith)
part (byte ∷ bytes) column le some = part_by byte bytes (is_return byte) refl (shape bytes) (part bytes) column le some

counts_by : (bytes : List ℕ) → Shape bytes → column_of bytes ≡ min (length (filter is_printed (after_last is_return bytes))) MOST_COLUMN
counts_by bytes (inl all) =
    let from_front : length bytes - tail bytes ≡ 0 = omega (arith, all) in
    whole_first bytes all ∙ ap (λ (n : ℕ). min (length (filter is_printed (drop n bytes))) MOST_COLUMN) (sym from_front)
counts_by bytes (inr some) = part bytes 0 (omega arith) some

pub column_counts : (bytes : List ℕ) → column_of bytes ≡ min (length (filter is_printed (after_last is_return bytes))) MOST_COLUMN
column_counts bytes = counts_by bytes (shape bytes)

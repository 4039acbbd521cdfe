-- The first line of some bytes, and the rest.
use Rattle.std.proofs.Common.{◌≡◌, ℕ, ◌<◌, ◌≤◌, Bool, eqb, ltb, List, [], ◌∷◌, length, Some, None, refl, ap, ◌∙◌, arith}
use Rattle.std.specs.List.{position_or_len, before_first, after_first, slice_split}
use Rattle.std.specs.Str.Lines.{strip_carriage_return}
use Rattle.std.proofs.lemmas.Bool.{ltb-true, ltb-false}
use Rattle.std.proofs.lemmas.List.Splits.{slice_split_first, slice_split_none, length-slice_split}
use Rattle.std.proofs.lemmas.List.Sums.{fails_before_first}
use Rattle.deck_model.specs.Lines.{lines_in, last_in, whole_lines, cut_line}
use Rattle.basic_values.specs.Cuts.{cut}
use Rattle.basic_values.proofs.CutLaws.{guard_some}
use Rattle.basic_values.proofs.PlaceLemmas.{missed}

abbrev is_lf : ℕ → Bool
is_lf b = eqb b 10

-- a part that is not the last is a line
parts_cons : (x : List ℕ) (parts : List (List ℕ)) → 0 < length parts → (lines_in (x ∷ parts) ≡ strip_carriage_return x ∷ lines_in parts) × (last_in (x ∷ parts) ≡ last_in parts)
parts_cons x [] l = absurd (omega arith)
parts_cons x (y ∷ more) l = (refl, refl)

pub line_found : (bytes : List ℕ) (x : List ℕ × List ℕ) → cut 10 bytes ≡ Some x → (whole_lines bytes ≡ strip_carriage_return x.0 ∷ whole_lines x.1) × (cut_line bytes ≡ cut_line x.1)
unfolding whole_lines cut_line
line_found bytes x e =
    let g = guard_some (ltb (position_or_len is_lf bytes) (length bytes)) (before_first is_lf bytes, after_first is_lf bytes) x e in
    let split : slice_split is_lf bytes ≡ before_first is_lf bytes ∷ slice_split is_lf (after_first is_lf bytes) = slice_split_first is_lf bytes 0 (ltb-true _ _ g.0) in
    let some : 0 < length (slice_split is_lf (after_first is_lf bytes)) = omega (arith, length-slice_split is_lf (after_first is_lf bytes)) in
    let parts = parts_cons (before_first is_lf bytes) (slice_split is_lf (after_first is_lf bytes)) some in (
      ap lines_in split ∙ parts.0 ∙ ap (λ (y : List ℕ × List ℕ). strip_carriage_return y.0 ∷ lines_in (slice_split is_lf y.1)) g.1,
      ap last_in split ∙ parts.1 ∙ ap (λ (y : List ℕ × List ℕ). last_in (slice_split is_lf y.1)) g.1,
    )

pub line_missed : (bytes : List ℕ) → cut 10 bytes ≡ None → (whole_lines bytes ≡ []) × (cut_line bytes ≡ bytes)
unfolding whole_lines cut_line
line_missed bytes e =
    let parts : List ℕ × List ℕ = (before_first is_lf bytes, after_first is_lf bytes) in
    let far : length bytes ≤ position_or_len is_lf bytes = ltb-false _ _ (missed (ltb (position_or_len is_lf bytes) (length bytes)) parts parts e).0 in
    let one : slice_split is_lf bytes ≡ bytes ∷ [] = slice_split_none is_lf bytes (λ k d within. fails_before_first is_lf bytes k d (omega arith)) in
    (ap lines_in one, ap last_in one)

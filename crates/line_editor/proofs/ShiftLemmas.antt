-- Marks that move one after another, from a place on.
use Rattle.std.proofs.Common.{◌≡◌, ℕ, ◌+◌, ◌-◌, ◌<◌, ◌≤◌, List, ◌++◌, length, take, drop, get_or, set, map, refl, sym, ap, ◌∙◌, arith, append-nil, length-append, length-drop}
use Rattle.std.proofs.lemmas.List.{take-append-drop, length-take-le, length-map, take_all, drop_all, get_or-append_right, get_or-drop, set-append_right}
use Rattle.std.proofs.lemmas.List.Edits.{map_over_more}
use Rattle.line_editor.specs.declared.buffer.Mark.{Mark}
use Rattle.line_editor.specs.Marks.{moved}

-- those before the place have moved, the others have not yet
abbrev pub part_moved : ℕ → ℕ → ℕ → List Mark → List Mark
part_moved removed added k tail = map (moved removed added) (take k tail) ++ drop k tail

pub record MovedSoFar (removed added from place : ℕ) (old now : List Mark) : Type 0 where
  pub are : now ≡ take from old ++ part_moved removed added (place - from) (drop from old)

module _ (removed added from : ℕ) (old : List Mark) (in' : from ≤ length old) where
  pub moved_first : MovedSoFar removed added from from old old
  moved_first =
      let none : from - from ≡ 0 = omega arith in
      record { are = sym (take-append-drop from old) ∙ ap (λ (k : ℕ). take from old ++ part_moved removed added k (drop from old)) (sym none) }

  front : length (take from old) ≡ from
  front = length-take-le from old in'

  -- the one at the place is still as before
  pub not_yet : (place : ℕ) (now : List Mark) (d : Mark) → from ≤ place → place < length old → MovedSoFar removed added from place old now → get_or now place d ≡ get_or old place d
  not_yet place now d le lt so_far =
      let tail = drop from old in
      let k = place - from in
      let counted : length (map (moved removed added) (take k tail)) ≡ k = length-map (take k tail) (moved removed added) ∙ length-take-le k tail (omega (arith, length-drop from old)) in
      let here : from + (k + (k - k)) ≡ place = omega arith in
      ap (λ (ms : List Mark). get_or ms place d) so_far.are
      ∙ get_or-append_right (take from old) (part_moved removed added k tail) from place d front le
      ∙ get_or-append_right (map (moved removed added) (take k tail)) (drop k tail) k k d counted (omega arith)
      ∙ get_or-drop k tail (k - k) d ∙ get_or-drop from old (k + (k - k)) d
      ∙ ap (λ (i : ℕ). get_or old i d) here

  pub moved_more : (place : ℕ) (now : List Mark) (mark : Mark) → from ≤ place → place < length old → mark ≡ get_or now place mark → MovedSoFar removed added from place old now → MovedSoFar removed added from (place + 1) old (set now place (moved removed added mark))
  moved_more place now mark le lt read so_far =
      let tail = drop from old in
      let k = place - from in
      let short : k < length tail = omega (arith, length-drop from old) in
      let there : mark ≡ get_or (part_moved removed added k tail) k mark =
      read ∙ ap (λ (ms : List Mark). get_or ms place mark) so_far.are ∙ get_or-append_right (take from old) (part_moved removed added k tail) from place mark front le in
      let next : k + 1 ≡ (place + 1) - from = omega arith in
      record {
        are = ap (λ (ms : List Mark). set ms place (moved removed added mark)) so_far.are
            ∙ set-append_right (take from old) (part_moved removed added k tail) from place (moved removed added mark) front le
            ∙ ap (λ (ms : List Mark). take from old ++ ms) (map_over_more (moved removed added) tail (part_moved removed added k tail) k mark short refl there)
            ∙ ap (λ (i : ℕ). take from old ++ part_moved removed added i tail) next;
      }

  pub as_long : (place : ℕ) (now : List Mark) → MovedSoFar removed added from place old now → length now ≡ length old
  as_long place now so_far =
      let tail = drop from old in
      let k = place - from in
      let parts : length (part_moved removed added k tail) ≡ length (take k tail) + length (drop k tail) =
      length-append (map (moved removed added) (take k tail)) (drop k tail) ∙ ap (λ (n : ℕ). n + length (drop k tail)) (length-map (take k tail) (moved removed added)) in
      let whole : length (take k tail) + length (drop k tail) ≡ length tail = sym (length-append (take k tail) (drop k tail)) ∙ ap length (take-append-drop k tail) in
      ap length so_far.are ∙ length-append (take from old) (part_moved removed added k tail) ∙ omega (arith, front, parts, whole, length-drop from old)

  pub moved_last : (place : ℕ) (now : List Mark) → length old ≤ place → MovedSoFar removed added from place old now → now ≡ take from old ++ map (moved removed added) (drop from old)
  moved_last place now le so_far =
      let tail = drop from old in
      let k = place - from in
      let long : length tail ≤ k = omega (arith, length-drop from old) in
      so_far.are
      ∙ ap (λ (ms : List Mark). take from old ++ (map (moved removed added) ms ++ drop k tail)) (take_all k tail long)
      ∙ ap (λ (ms : List Mark). take from old ++ (map (moved removed added) tail ++ ms)) (drop_all k tail long)
      ∙ ap (λ (ms : List Mark). take from old ++ ms) (append-nil (map (moved removed added) tail))

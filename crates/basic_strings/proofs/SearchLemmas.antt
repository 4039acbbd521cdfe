-- What a search of the standard library finds from a start on, as a place of INSTR.
use Rattle.std.proofs.Common.{◌≡◌, ◌≤◌, ◌<◌, ◌+◌, ◌-◌, ℕ, zero, suc, true, false, List, length, take, drop, ℤ, pos, sym, ap, subst, ◌∙◌, inl, inr, [], ◌∷◌, arith}
use Rattle.std.proofs.lemmas.Bool.{cases_Bool}
use Rattle.std.proofs.lemmas.List.{drop-drop, length-take, length-drop}
use Rattle.std.proofs.lemmas.Slice.Eq.{bytes_eq-Decides}
use Rattle.std.specs.Prelude.{min}
use Rattle.memchr.specs.Find.{OccursAt, Nowhere}
use Rattle.memchr.proofs.lemmas.MatchLemmas.{OccursAt-part, OccursAt-from_part}
use Rattle.basic_strings.specs.Places.{stands_at, place_of}
use Rattle.basic_strings.proofs.PlaceLemmas.{NothingBefore, place_here, place_after, no_place, find-behind}

-- the bytes of the string at a place, from the start on
bytes_at : (text sought : List ℕ) (start before : ℕ) → take (length sought) (drop (start + before + 1 - 1) text) ≡ take (length sought) (drop before (drop start text))
bytes_at text sought start before =
    let same : start + before + 1 - 1 ≡ start + before = omega arith in
    ap (λ n. take (length sought) (drop n text)) same ∙ ap (take (length sought)) (sym (drop-drop before start text))

stands_there : (text sought : List ℕ) (start before : ℕ) → OccursAt (drop start text) sought before → stands_at text sought (start + before + 1) ≡ true
stands_there text sought start before occurs =
    (bytes_eq-Decides sought (take (length sought) (drop (start + before + 1 - 1) text))).1 (sym (bytes_at text sought start before ∙ OccursAt-part (drop start text) sought before occurs))

occurs_there : (text sought : List ℕ) (start before : ℕ) → before ≤ length (drop start text) → stands_at text sought (start + before + 1) ≡ true → OccursAt (drop start text) sought before
occurs_there text sought start before within stands =
    let hay = drop start text in
    let same = (bytes_eq-Decides sought (take (length sought) (drop (start + before + 1 - 1) text))).0 stands in
    let part : take (length sought) (drop before hay) ≡ sought = sym (same ∙ bytes_at text sought start before) in
    let counted : length sought ≡ min (length sought) (length hay - before) =
    ap length (sym part) ∙ length-take (length sought) (drop before hay) ∙ ap (min (length sought)) (length-drop before hay) in
    OccursAt-from_part hay sought before (omega (arith, within, counted)) part

stands_not : (text sought : List ℕ) (start before : ℕ) → before ≤ length (drop start text) → ¬ OccursAt (drop start text) sought before → stands_at text sought (start + before + 1) ≡ false
stands_not text sought start before within nowhere =
    elim (cases_Bool (stands_at text sought (start + before + 1))) [
      | inl stands ↦ absurd (nowhere (occurs_there text sought start before within stands))
      | inr not ↦ not
    ]

-- the string is at none of these places, so all of them have been tried
pub all_tried : (from : ℤ) (text sought : List ℕ) (start : ℕ) → start ≤ length text → NothingBefore from text sought start → (count : ℕ) → count ≤ length (drop start text) + 1 → Nowhere (OccursAt (drop start text) sought) 0 count → NothingBefore from text sought (start + count)
all_tried from text sought start within tried zero few nowhere =
    let same : start ≡ start + 0 = omega arith in
    subst (NothingBefore from text sought) same tried
all_tried from text sought start within tried (suc count) few nowhere =
    let before = all_tried from text sought start within tried count (omega (arith, few)) (λ k low high. nowhere k low (omega (arith, high))) in
    let here : start + count ≤ length text = omega (arith, few, within, length-drop start text) in
    let not = stands_not text sought start count (omega (arith, few)) (nowhere count (omega arith) (omega arith)) in
    let same : start + count + 1 ≡ start + suc count = omega arith in
    subst (NothingBefore from text sought) same (place_after from text sought (start + count) before here not)

pub place_found : (from : ℤ) (text sought : List ℕ) (start before : ℕ) → start ≤ length text → NothingBefore from text sought start → before < length (drop start text) + 1 → Nowhere (OccursAt (drop start text) sought) 0 before → OccursAt (drop start text) sought before → place_of from text sought ≡ pos (start + before + 1)
place_found from text sought start before within tried high nowhere occurs =
    place_here from text sought (start + before) (all_tried from text sought start within tried before (omega (arith, high)) nowhere) (omega (arith, high, within, length-drop start text)) (stands_there text sought start before occurs)

pub no_place_found : (from : ℤ) (text sought : List ℕ) (start : ℕ) → start ≤ length text → NothingBefore from text sought start → Nowhere (OccursAt (drop start text) sought) 0 (length (drop start text) + 1) → place_of from text sought ≡ pos 0
no_place_found from text sought start within tried nowhere =
    let past = start + (length (drop start text) + 1) in
    no_place from text sought past (all_tried from text sought start within tried (length (drop start text) + 1) (omega arith) nowhere)
    (find-behind (stands_at text sought) (past + 1) text (omega (arith, within, length-drop start text)))

-- an empty string is found at once; any other before the string's last byte is passed
pub found_early : (text sought : List ℕ) (start before : ℕ) → start ≤ 32766 → length text ≤ 32767 → start ≤ length text → Nowhere (OccursAt (drop start text) sought) 0 before → OccursAt (drop start text) sought before → start + before ≤ 32766
found_early text [] start zero small short within nowhere occurs = omega (arith, small)
found_early text [] start (suc before) small short within nowhere occurs =
    absurd (nowhere 0 (omega arith) (omega arith) (record { fits = omega arith; reads = λ j below. absurd (omega (arith, below)) }))
found_early text (x ∷ xs) start before small short within nowhere occurs = omega (arith, short, within, occurs.fits, length-drop start text)

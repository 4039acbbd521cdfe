-- One buffer, split at the lines of a range: what is borrowed of it, and what is left when lines
-- are removed or replaced.
use Rattle.std.proofs.Common.{◌≡◌, ℕ, suc, ◌+◌, ◌-◌, ◌^◌, ◌<◌, ◌≤◌, List, [], ◌∷◌, ◌++◌, length, take, drop, get_or, map, true, false, ltb, ltb-true, inl, inr, Some, None, refl, sym, ap, subst, ◌∙◌, arith, append_assoc, length-append}
use Rattle.std.specs.Prelude.{slice_range}
use Rattle.std.specs.Fmt.{decimal}
use Rattle.std.specs.List.{AllWithin, between, splice, remove_range}
use Rattle.std.specs.List.Sorted.{IsNonDecreasingBy}
use Rattle.std.specs.Map.{keys_of}
use Rattle.std.proofs.lemmas.Bool.{ltb-false}
use Rattle.std.proofs.lemmas.List.{take-append-drop, take_at, drop_at, get_or-map, get_or-append_right, length-take-le, nil_from_length}
use Rattle.std.proofs.lemmas.List.Edits.{length-between, get_or-between}
use Rattle.std.proofs.lemmas.List.Elements.{All-from_recursion}
use Rattle.std.proofs.lemmas.Map.Keys.{non_decreasing_from_sorted}
use Rattle.basic_tree.specs.ProgramLines.{Lines, line, stored, within, without, listed, listing}
use Rattle.line_editor.specs.declared.buffer.Mark.{Mark}
use Rattle.line_editor.specs.declared.buffer.Places.{Places}
use Rattle.line_editor.specs.Marks.{mark_at, marks_of, moved, CanMove, IsPlaced}
use Rattle.line_editor.specs.Marked.{line_marked, IsListing}
use Rattle.line_editor.proofs.MarkLemmas.{front_of, back_of, middle_of, listing_append, listing_parts, length_listed, text_mark, marks_append, marks_parts, length_marks, numbers_of, marks_moved, StandsIn, marks_stand, mark_end, lines_are, as_many_marks}
use Rattle.line_editor.proofs.PlaceLemmas.{InParts, in_parts, within_parts, without_parts, stored_parts, orderly_without, orderly_stored, IsOne, one_among, line_none, line_some}

-- a mark of no line
abbrev no_mark : Mark
no_mark = record { number = 0; begins = 0; count = 0 }

-- SEARCHING

-- the numbers of the marks increase
pub numbers_rise : (bytes : List ℕ) (marks : List Mark) (lines : Lines) → IsListing bytes marks lines → IsNonDecreasingBy (λ (m : Mark). m.number) marks
numbers_rise bytes marks lines is i j d le lt =
    let keys : map (λ (m : Mark). m.number) marks ≡ keys_of lines = ap (map (λ (m : Mark). m.number)) is.beside ∙ numbers_of 0 lines in
    let rise = non_decreasing_from_sorted (keys_of lines) is.orderly i j 0 le (omega (arith, ap length keys, length_map marks)) in
    omega (arith, rise, at i (omega arith) keys, at j lt keys)
  where
    length_map : (ms : List Mark) → length (map (λ (m : Mark). m.number) ms) ≡ length ms
    length_map [] = refl
    length_map (m ∷ ms) = ap suc (length_map ms)

    at : (k : ℕ) → k < length marks → map (λ (m : Mark). m.number) marks ≡ keys_of lines → get_or (keys_of lines) k 0 ≡ (get_or marks k d).number
    at k lt' keys = ap (λ (ks : List ℕ). get_or ks k 0) (sym keys) ∙ get_or-map (λ (m : Mark). m.number) marks k d 0 lt'

-- what is below a bound, by the marks and by the lines
pub lines_below : (bytes : List ℕ) (marks : List Mark) (i bound : ℕ) → i ≤ length marks → AllWithin (λ (m : Mark). ltb m.number bound ≡ true) marks 0 i → AllWithin (λ line. line.0 < bound) (map (line_marked bytes) marks) 0 i
lines_below bytes marks i bound in' all k d low lt =
    let same = ap (λ (l : ℕ × List ℕ). l.0) (get_or-map (line_marked bytes) marks k no_mark d (omega arith)) in
    subst (λ (n : ℕ). n < bound) (sym same) (ltb-true _ _ (all k no_mark low lt))

pub lines_above : (bytes : List ℕ) (marks : List Mark) (i n bound : ℕ) → n ≡ length marks → AllWithin (λ (m : Mark). ltb m.number bound ≡ false) marks i (length marks) → AllWithin (λ line. bound ≤ line.0) (map (line_marked bytes) marks) i n
lines_above bytes marks i n bound is all k d low lt =
    let same = ap (λ (l : ℕ × List ℕ). l.0) (get_or-map (line_marked bytes) marks k no_mark d (omega arith)) in
    subst (λ (number : ℕ). bound ≤ number) (sym same) (ltb-false _ _ (all k no_mark low (omega arith)))

-- WHERE A LINE BEGINS

pub line_start : (bytes : List ℕ) (marks : List Mark) (lines : Lines) (place : ℕ) (mark : Mark) → IsListing bytes marks lines → 0 < place → place ≤ length lines → mark ≡ get_or marks (place - 1) mark → mark.begins + mark.count + 2 ≡ length (listing (take place lines))
line_start bytes marks lines place mark is some le read =
    let same : mark ≡ get_or (marks_of 0 lines) (place - 1) mark = read ∙ ap (λ (ms : List Mark). get_or ms (place - 1) mark) is.beside in
    let next : suc (place - 1) ≡ place = omega arith in
    ap (λ (m : Mark). m.begins + m.count + 2) same ∙ mark_end 0 lines (place - 1) mark (omega arith)
    ∙ ap (λ (k : ℕ). 0 + length (listing (take k lines))) next ∙ omega arith

pub within_bytes : (bytes : List ℕ) (marks : List Mark) (lines : Lines) (place : ℕ) → IsListing bytes marks lines → length (listing (take place lines)) ≤ length bytes
within_bytes bytes marks lines place is =
    omega (arith, ap length is.whole, shorter lines place)
  where
    shorter : (ls : Lines) (k : ℕ) → length (listing (take k ls)) ≤ length (listing ls)
    shorter ls k = omega (arith, ap (λ (l : Lines). length (listing l)) (take-append-drop k ls), ap length (listing_append (take k ls) (drop k ls)), length-append (listing (take k ls)) (listing (drop k ls)))

-- A RANGE

-- a buffer, the places of the lines of a range, and the bytes at which they begin and end
pub record Ranged (from to : ℕ) (bytes : List ℕ) (marks : List Mark) (lines : Lines) (places : Places) (s e : ℕ) : Type 0 where
  pub lists : IsListing bytes marks lines
  pub placed : IsPlaced from to lines places
  pub starts : s ≡ length (listing (take places.first lines))
  pub ends : e ≡ length (listing (take places.behind lines))

module _ (from to : ℕ) (bytes : List ℕ) (marks : List Mark) (lines : Lines) (places : Places) (s e : ℕ) (r : Ranged from to bytes marks lines places s e) where
  abbrev below : Lines
  below = take places.first lines

  abbrev among : Lines
  among = between places.first places.behind lines

  abbrev above : Lines
  above = drop places.behind lines

  parts : InParts from to lines below among above
  parts = in_parts from to lines places r.placed

  length_below : length below ≡ places.first
  length_below = let rises = r.placed.rises in let inside = r.placed.inside in length-take-le places.first lines (omega arith)

  length_among : length among ≡ places.behind - places.first
  length_among = length-between lines places.first places.behind r.placed.inside

  starts : s ≡ length (listing below)
  starts = r.starts

  ends : e ≡ length (listing below) + length (listing among)
  ends =
      let rises = r.placed.rises in
      let seam : lines ≡ (below ++ among) ++ above = parts.whole ∙ sym (append_assoc below among above) in
      let count : length (below ++ among) ≡ places.behind = length-append below among ∙ omega (arith, length_below, length_among) in
      r.ends
      ∙ ap (λ (ls : Lines). length (listing (take places.behind ls))) seam
      ∙ ap (λ (ls : Lines). length (listing ls)) (take_at (below ++ among) above places.behind count)
      ∙ ap length (listing_append below among) ∙ length-append (listing below) (listing among)

  bytes_are : bytes ≡ listing below ++ (listing among ++ listing above)
  bytes_are = r.lists.whole ∙ ap listing parts.whole ∙ listing_parts below among above

  marks_are : marks ≡ marks_of 0 below ++ (marks_of s among ++ marks_of e above)
  marks_are =
      let first : 0 + length (listing below) ≡ s = omega (arith, starts) in
      let last : s + length (listing among) ≡ e = omega (arith, starts, ends) in
      r.lists.beside ∙ ap (marks_of 0) parts.whole ∙ marks_parts 0 below among above
      ∙ ap (λ (k : ℕ). marks_of 0 below ++ (marks_of k among ++ marks_of (k + length (listing among)) above)) first
      ∙ ap (λ (k : ℕ). marks_of 0 below ++ (marks_of s among ++ marks_of k above)) last

  front_marks : places.first ≡ length (marks_of 0 below)
  front_marks = sym (length_marks 0 below ∙ length_below)

  back_marks : places.behind ≡ length (marks_of 0 below) + length (marks_of s among)
  back_marks = let rises = r.placed.rises in omega (arith, front_marks, length_marks s among, length_among)

  pub range_rises : s ≤ e
  range_rises = omega (arith, starts, ends)

  pub length_bytes : length bytes ≡ e + length (listing above)
  length_bytes =
      ap length bytes_are ∙ length-append (listing below) (listing among ++ listing above) ∙ omega (arith, starts, ends, length-append (listing among) (listing above))

  pub range_within : e ≤ length bytes
  range_within = omega (arith, length_bytes)

  pub list_is : slice_range bytes s e ≡ listing (within from to lines)
  list_is =
      ap (λ (l : List ℕ). slice_range l s e) bytes_are ∙ middle_of (listing below) (listing among) (listing above) s e starts ends
      ∙ ap listing (sym (within_parts from to lines below among above parts))

  -- the bytes and the marks before the range, others, and those after it
  spliced_bytes : (line : List ℕ) → take s bytes ++ (line ++ drop e bytes) ≡ listing below ++ (line ++ listing above)
  spliced_bytes line =
      ap (λ (l : List ℕ). take s l ++ (line ++ drop e l)) bytes_are
      ∙ ap (λ (l : List ℕ). l ++ (line ++ drop e (listing below ++ (listing among ++ listing above)))) (front_of (listing below) (listing among) (listing above) s starts)
      ∙ ap (λ (l : List ℕ). listing below ++ (line ++ l)) (back_of (listing below) (listing among) (listing above) e ends)

  spliced_marks : (put : List Mark) → take places.first marks ++ (put ++ drop places.behind marks) ≡ marks_of 0 below ++ (put ++ marks_of e above)
  spliced_marks put =
      ap (λ (l : List Mark). take places.first l ++ (put ++ drop places.behind l)) marks_are
      ∙ ap (λ (l : List Mark). l ++ (put ++ drop places.behind (marks_of 0 below ++ (marks_of s among ++ marks_of e above)))) (front_of (marks_of 0 below) (marks_of s among) (marks_of e above) places.first front_marks)
      ∙ ap (λ (l : List Mark). marks_of 0 below ++ (put ++ l)) (back_of (marks_of 0 below) (marks_of s among) (marks_of e above) places.behind back_marks)

  -- the marks after it, moved to follow that many other bytes
  shifted_marks : (added place : ℕ) (front ms shifted : List Mark) → ms ≡ front ++ marks_of e above → place ≡ length front
      → shifted ≡ take place ms ++ map (moved (e - s) added) (drop place ms) → shifted ≡ front ++ marks_of (s + added) above
  shifted_marks added place front ms shifted made place-is is-shifted =
      let le : e - s ≤ e = omega arith in
      let there : (e - (e - s)) + added ≡ s + added = omega (arith, range_rises) in
      is-shifted
      ∙ ap (λ (l : List Mark). take place l ++ map (moved (e - s) added) (drop place l)) made
      ∙ ap (λ (l : List Mark). l ++ map (moved (e - s) added) (drop place (front ++ marks_of e above))) (take_at front (marks_of e above) place (sym place-is))
      ∙ ap (λ (l : List Mark). front ++ map (moved (e - s) added) l) (drop_at front (marks_of e above) place (sym place-is))
      ∙ ap (λ (l : List Mark). front ++ l) (marks_moved (e - s) added e above le ∙ ap (λ (k : ℕ). marks_of k above) there)

  can_move : (added place : ℕ) (front ms : List Mark) → ms ≡ front ++ marks_of e above → place ≡ length front
      → (length bytes - (e - s)) + added < 2 ^ 63 → AllWithin (CanMove (e - s) added) ms place (length ms)
  can_move added place front ms made place-is small k d low lt =
      let all = All-from_recursion (StandsIn e (length bytes)) (marks_of e above) (marks_stand e (length bytes) above (omega (arith, length_bytes))) in
      let there : get_or ms k d ≡ get_or (marks_of e above) (k - place) d = ap (λ (l : List Mark). get_or l k d) made ∙ get_or-append_right front (marks_of e above) place k d (sym place-is) low in
      let stands = all (k - place) d (omega (arith, ap length made, length-append front (marks_of e above))) in
      let first = stands.0 in
      let last = stands.1 in
      let low' : e - s ≤ (get_or (marks_of e above) (k - place) d).begins = omega arith in
      let high' : ((get_or (marks_of e above) (k - place) d).begins - (e - s)) + added < 2 ^ 64 = omega arith in
      subst (λ (m : Mark). CanMove (e - s) added m) (sym there) (low', high')

-- WITHOUT THE RANGE

module _ (from to : ℕ) (bytes : List ℕ) (marks : List Mark) (lines : Lines) (places : Places) (s e : ℕ) (r : Ranged from to bytes marks lines places s e) (less : List Mark) (is-less : less ≡ remove_range marks places.first places.behind) where
  less_as : less ≡ marks_of 0 (take places.first lines) ++ marks_of e (drop places.behind lines)
  less_as = is-less ∙ spliced_marks from to bytes marks lines places s e r []

  pub less_long : places.first ≤ length less
  less_long = omega (arith, ap length less_as, length-append (marks_of 0 (take places.first lines)) (marks_of e (drop places.behind lines)), front_marks from to bytes marks lines places s e r)

  pub less_move : length bytes < 2 ^ 63 → AllWithin (CanMove (e - s) 0) less places.first (length less)
  less_move small =
      can_move from to bytes marks lines places s e r 0 places.first (marks_of 0 (take places.first lines)) less less_as (front_marks from to bytes marks lines places s e r) (omega arith)

  pub lists_without : (bytes' : List ℕ) (shifted : List Mark) → bytes' ≡ remove_range bytes s e
      → shifted ≡ take places.first less ++ map (moved (e - s) 0) (drop places.first less) → IsListing bytes' shifted (without from to lines)
  lists_without bytes' shifted is-bytes is-shifted =
      let a = take places.first lines in
      let b = drop places.behind lines in
      let same : without from to lines ≡ a ++ b = without_parts from to lines a (between places.first places.behind lines) b (in_parts from to lines places r.placed) in
      let at : s + 0 ≡ 0 + length (listing a) = omega (arith, r.starts) in
      record {
        orderly = orderly_without from to lines r.lists.orderly;
        whole = is-bytes ∙ spliced_bytes from to bytes marks lines places s e r [] ∙ sym (listing_append a b) ∙ ap listing (sym same);
        beside = shifted_marks from to bytes marks lines places s e r 0 places.first (marks_of 0 a) less shifted less_as (front_marks from to bytes marks lines places s e r) is-shifted
            ∙ ap (λ (k : ℕ). marks_of 0 a ++ marks_of k b) at ∙ sym (marks_append 0 a b) ∙ ap (marks_of 0) (sym same);
      }

-- WITH ONE LINE

module _ (number : ℕ) (rest : List ℕ) (bytes : List ℕ) (marks : List Mark) (lines : Lines) (places : Places) (s e : ℕ) (r : Ranged number number bytes marks lines places s e) where
  abbrev a : Lines
  a = take places.first lines

  abbrev m : Lines
  m = between places.first places.behind lines

  abbrev b : Lines
  b = drop places.behind lines

  cut : InParts number number lines a m b
  cut = in_parts number number lines places r.placed

  pub one_place : places.behind ≤ places.first + 1
  one_place = by (one_among number lines a m b cut r.lists.orderly)
    where
      by : IsOne number m → places.behind ≤ places.first + 1
      by (inl none) = omega (arith, ap length none, length_among number number bytes marks lines places s e r)
      by (inr one) = omega (arith, ap length one.1, length_among number number bytes marks lines places s e r)

  -- how many bytes there are with the line
  pub size_with : (line new : List ℕ) → new ≡ splice bytes s e line → length new ≡ (length bytes - (e - s)) + length line
  size_with line new new-is =
      let size = length_bytes number number bytes marks lines places s e r in
      let rises = range_rises number number bytes marks lines places s e r in
      let starts' = r.starts in
      omega (arith, ap length (new-is ∙ spliced_bytes number number bytes marks lines places s e r line), length-append (listing a) (line ++ listing b), length-append line (listing b))

  module _ (mark : Mark) (put : List Mark) (is-put : put ≡ splice marks places.first places.behind (mark ∷ [])) where
    put_as : put ≡ (marks_of 0 a ++ mark ∷ []) ++ marks_of e b
    put_as =
        is-put ∙ spliced_marks number number bytes marks lines places s e r (mark ∷ [])
        ∙ sym (append_assoc (marks_of 0 a) (mark ∷ []) (marks_of e b))

    put_front : places.first + 1 ≡ length (marks_of 0 a ++ mark ∷ [])
    put_front = sym (length-append (marks_of 0 a) (mark ∷ []) ∙ omega (arith, front_marks number number bytes marks lines places s e r))

    pub put_long : places.first + 1 ≤ length put
    put_long = omega (arith, put_front, ap length put_as, length-append (marks_of 0 a ++ mark ∷ []) (marks_of e b))

    pub put_move : (added : ℕ) → (length bytes - (e - s)) + added < 2 ^ 63 → AllWithin (CanMove (e - s) added) put (places.first + 1) (length put)
    put_move added small =
        can_move number number bytes marks lines places s e r added (places.first + 1) (marks_of 0 a ++ mark ∷ []) put put_as put_front small

    pub lists_with : (added : ℕ) (line bytes' : List ℕ) (shifted : List Mark) → line ≡ listed (number, rest) → added ≡ length line
        → mark ≡ text_mark (((s + added) - 2) - length rest) (number, rest) → bytes' ≡ splice bytes s e line
        → shifted ≡ take (places.first + 1) put ++ map (moved (e - s) added) (drop (places.first + 1) put) → IsListing bytes' shifted (stored number rest lines)
    lists_with added line bytes' shifted line-is added-is mark-is is-bytes is-shifted =
        let same : stored number rest lines ≡ a ++ (number, rest) ∷ b = stored_parts number lines a m b cut r.lists.orderly rest in
        let size : added ≡ length (listed (number, rest)) = added-is ∙ ap length line-is in
        let begins : ((s + added) - 2) - length rest ≡ (0 + length (listing a)) + length (decimal number) = omega (arith, r.starts, size, length_listed (number, rest)) in
        let mark-as : mark ≡ mark_at (0 + length (listing a)) (number, rest) = mark-is ∙ ap (λ (k : ℕ). text_mark k (number, rest)) begins in
        let later : s + added ≡ (0 + length (listing a)) + length (listed (number, rest)) = omega (arith, r.starts, size) in
        record {
          orderly = orderly_stored number lines a m b cut r.lists.orderly rest;
          whole = is-bytes ∙ spliced_bytes number number bytes marks lines places s e r line
              ∙ ap (λ (l : List ℕ). listing a ++ (l ++ listing b)) line-is ∙ sym (listing_append a ((number, rest) ∷ b)) ∙ ap listing (sym same);
          beside = shifted_marks number number bytes marks lines places s e r added (places.first + 1) (marks_of 0 a ++ mark ∷ []) put shifted put_as put_front is-shifted
              ∙ append_assoc (marks_of 0 a) (mark ∷ []) (marks_of (s + added) b)
              ∙ ap (λ (k : ℕ). marks_of 0 a ++ (mark ∷ marks_of k b)) later
              ∙ ap (λ (x : Mark). marks_of 0 a ++ (x ∷ marks_of ((0 + length (listing a)) + length (listed (number, rest))) b)) mark-as
              ∙ sym (marks_append 0 a ((number, rest) ∷ b)) ∙ ap (marks_of 0) (sym same);
        }

-- THE LINE OF A NUMBER

pub no_line : (number : ℕ) (lines : Lines) (places : Places) → IsPlaced number number lines places → places.first ≡ places.behind → line number lines ≡ None
no_line number lines places placed same =
    let m = between places.first places.behind lines in
    let none : m ≡ [] = nil_from_length m (omega (arith, length-between lines places.first places.behind placed.inside)) in
    line_none number lines (take places.first lines) m (drop places.behind lines) (in_parts number number lines places placed) none

module _ (number : ℕ) (bytes : List ℕ) (marks : List Mark) (lines : Lines) (places : Places) (is : IsListing bytes marks lines) (placed : IsPlaced number number lines places) where
  abbrev middle : Lines
  middle = between places.first places.behind lines

  count : length middle ≡ places.behind - places.first
  count = length-between lines places.first places.behind placed.inside

  one : IsOne number middle
  one = one_among number lines (take places.first lines) middle (drop places.behind lines) (in_parts number number lines places placed) is.orderly

  -- if there is one, its mark is within the bytes, and they are the line's
  pub mark_stands : (mark : Mark) → places.first < places.behind → mark ≡ get_or marks places.first mark → mark.begins + mark.count + 2 ≤ length bytes
  mark_stands mark there read =
      let inside = placed.inside in
      let same : mark ≡ get_or (marks_of 0 lines) places.first mark = read ∙ ap (λ (ms : List Mark). get_or ms places.first mark) is.beside in
      let all = All-from_recursion (StandsIn 0 (length bytes)) (marks_of 0 lines) (marks_stand 0 (length bytes) lines (omega (arith, ap length is.whole))) in
      let stands = all places.first mark (omega (arith, length_marks 0 lines)) in
      (subst (λ (k : Mark). StandsIn 0 (length bytes) k) (sym same) stands).1

  pub marked : (mark : Mark) → places.first < places.behind → mark ≡ get_or marks places.first mark → line number lines ≡ Some (slice_range bytes mark.begins (mark.begins + mark.count))
  marked mark there read = by one
    where
      d : ℕ × List ℕ
      d = (0, [])

      stands : get_or lines places.first d ≡ line_marked bytes mark
      stands =
          let inside = placed.inside in
          ap (λ (ls : Lines). get_or ls places.first d) (sym (lines_are bytes marks lines is))
          ∙ get_or-map (line_marked bytes) marks places.first mark d (omega (arith, as_many_marks bytes marks lines is))
          ∙ ap (line_marked bytes) (sym read)

      by : IsOne number middle → line number lines ≡ Some (slice_range bytes mark.begins (mark.begins + mark.count))
      by (inl none) = absurd (omega (arith, ap length none, count))
      by (inr some) =
          let zero' : places.first + 0 ≡ places.first = omega arith in
          let first : get_or middle 0 d ≡ get_or lines places.first d = get_or-between lines places.first places.behind 0 d (omega arith) ∙ ap (λ (k : ℕ). get_or lines k d) zero' in
          let same : (number, some.0) ≡ line_marked bytes mark = ap (λ (ls : Lines). get_or ls 0 d) (sym some.1) ∙ first ∙ stands in
          line_some number lines (take places.first lines) middle (drop places.behind lines) (in_parts number number lines places placed) is.orderly (number, some.0) [] some.1
          ∙ ap (λ (l : ℕ × List ℕ). Some l.1) same

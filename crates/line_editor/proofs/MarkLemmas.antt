-- A listing, split at a line, and the marks of its lines.
use Rattle.std.proofs.Common.{◌≡◌, ℕ, zero, suc, ◌+◌, ◌-◌, ◌<◌, ◌≤◌, List, [], ◌∷◌, ◌++◌, length, take, drop, get_or, map, refl, sym, ap, subst, ◌∙◌, arith, append_assoc, length-append}
use Rattle.std.specs.Prelude.{slice_range, codes}
use Rattle.std.specs.Fmt.{decimal}
use Rattle.std.specs.List.{AllByRecursion}
use Rattle.std.specs.List.Sorted.{IsStrictlySortedBy}
use Rattle.std.specs.Map.{keys_of}
use Rattle.std.proofs.lemmas.List.{take_at, drop_at}
use Rattle.std.proofs.lemmas.List.Concat.{flat_map-append}
use Rattle.basic_tree.specs.ProgramLines.{Lines, listed, listing}
use Rattle.line_editor.specs.declared.buffer.Mark.{Mark}
use Rattle.line_editor.specs.Marks.{mark_at, marks_of, moved}
use Rattle.line_editor.specs.Marked.{line_marked, IsListing}

-- A LIST OF THREE PARTS

pub front_of : {X : Type 0} (a m b : List X) (i : ℕ) → i ≡ length a → take i (a ++ (m ++ b)) ≡ a
front_of a m b i is = take_at a (m ++ b) i (sym is)

pub back_of : {X : Type 0} (a m b : List X) (j : ℕ) → j ≡ length a + length m → drop j (a ++ (m ++ b)) ≡ b
back_of a m b j is = ap (drop j) (sym (append_assoc a m b)) ∙ drop_at (a ++ m) b j (length-append a m ∙ sym is)

pub middle_of : {X : Type 0} (a m b : List X) (i j : ℕ) → i ≡ length a → j ≡ length a + length m → slice_range (a ++ (m ++ b)) i j ≡ m
middle_of a m b i j is is' =
    ap (take (j - i)) (drop_at a (m ++ b) i (sym is)) ∙ take_at m b (j - i) (omega arith)

-- A LISTING

pub listing_append : (a b : Lines) → listing (a ++ b) ≡ listing a ++ listing b
listing_append a b = flat_map-append listed a b

pub listing_parts : (a m b : Lines) → listing (a ++ (m ++ b)) ≡ listing a ++ (listing m ++ listing b)
listing_parts a m b = listing_append a (m ++ b) ∙ ap (λ (l : List ℕ). listing a ++ l) (listing_append m b)

pub length_listed : (line : ℕ × List ℕ) → length (listed line) ≡ length (decimal line.0) + length line.1 + 2
length_listed line = length-append (decimal line.0) (line.1 ++ codes "\r\n") ∙ omega (arith, length-append line.1 (codes "\r\n"))

-- ITS MARKS

-- the mark of a line whose bytes begin here
abbrev pub text_mark : ℕ → ℕ × List ℕ → Mark
text_mark begins line = record { number = line.0; begins = begins; count = length line.1 }

pub marks_append : (at : ℕ) (a b : Lines) → marks_of at (a ++ b) ≡ marks_of at a ++ marks_of (at + length (listing a)) b
marks_append at [] b = let same : at ≡ at + 0 = omega arith in ap (λ (k : ℕ). marks_of k b) same
marks_append at (l ∷ a) b =
    let same : (at + length (listed l)) + length (listing a) ≡ at + length (listed l ++ listing a) = omega (arith, length-append (listed l) (listing a)) in
    ap (λ (ms : List Mark). mark_at at l ∷ ms) (marks_append (at + length (listed l)) a b ∙ ap (λ (k : ℕ). marks_of (at + length (listed l)) a ++ marks_of k b) same)

pub marks_parts : (at : ℕ) (a m b : Lines) → marks_of at (a ++ (m ++ b)) ≡ marks_of at a ++ (marks_of (at + length (listing a)) m ++ marks_of (at + length (listing a) + length (listing m)) b)
marks_parts at a m b =
    marks_append at a (m ++ b) ∙ ap (λ (ms : List Mark). marks_of at a ++ ms) (marks_append (at + length (listing a)) m b)

pub length_marks : (at : ℕ) (lines : Lines) → length (marks_of at lines) ≡ length lines
length_marks at [] = refl
length_marks at (l ∷ lines) = ap suc (length_marks (at + length (listed l)) lines)

pub numbers_of : (at : ℕ) (lines : Lines) → map (λ (m : Mark). m.number) (marks_of at lines) ≡ keys_of lines
numbers_of at [] = refl
numbers_of at (l ∷ lines) = ap (λ (ks : List ℕ). l.0 ∷ ks) (numbers_of (at + length (listed l)) lines)

pub marks_moved : (removed added at : ℕ) (lines : Lines) → removed ≤ at → map (moved removed added) (marks_of at lines) ≡ marks_of ((at - removed) + added) lines
marks_moved removed added at [] le = refl
marks_moved removed added at (l ∷ lines) le =
    let head : ((at + length (decimal l.0)) - removed) + added ≡ ((at - removed) + added) + length (decimal l.0) = omega arith in
    let tail : ((at + length (listed l)) - removed) + added ≡ ((at - removed) + added) + length (listed l) = omega arith in
    let later : removed ≤ at + length (listed l) = omega arith in
    ap (λ (k : ℕ). text_mark k l ∷ map (moved removed added) (marks_of (at + length (listed l)) lines)) head
    ∙ ap (λ (ms : List Mark). mark_at ((at - removed) + added) l ∷ ms) (marks_moved removed added (at + length (listed l)) lines later ∙ ap (λ (k : ℕ). marks_of k lines) tail)

-- each is within the listing
abbrev pub StandsIn : ℕ → ℕ → Mark → Type 0
StandsIn low high mark = (low ≤ mark.begins) × (mark.begins + mark.count + 2 ≤ high)

stand_later : (low low' high : ℕ) (marks : List Mark) → low ≤ low' → AllByRecursion (StandsIn low' high) marks → AllByRecursion (StandsIn low high) marks
stand_later low low' high [] le all = tt
stand_later low low' high (m ∷ marks) le all =
    let first = all.0.0 in
    let here : low ≤ m.begins = omega arith in
    ((here, all.0.1), stand_later low low' high marks le all.1)

pub marks_stand : (at high : ℕ) (lines : Lines) → at + length (listing lines) ≤ high → AllByRecursion (StandsIn at high) (marks_of at lines)
marks_stand at high [] le = tt
marks_stand at high (l ∷ lines) le =
    let size = length_listed l in
    let all = length-append (listed l) (listing lines) in
    let low : at ≤ at + length (decimal l.0) = omega arith in
    let end : (at + length (decimal l.0)) + length l.1 + 2 ≤ high = omega arith in
    let later : (at + length (listed l)) + length (listing lines) ≤ high = omega arith in
    ((low, end), stand_later at (at + length (listed l)) high (marks_of (at + length (listed l)) lines) (omega arith) (marks_stand (at + length (listed l)) high lines later))

-- where the line after a mark begins
pub mark_end : (at : ℕ) (lines : Lines) (k : ℕ) (d : Mark) → k < length lines → (get_or (marks_of at lines) k d).begins + (get_or (marks_of at lines) k d).count + 2 ≡ at + length (listing (take (suc k) lines))
mark_end at [] k d lt = absurd (omega arith)
mark_end at (l ∷ lines) zero d lt =
    let size = length_listed l in
    let all : length (listed l ++ []) ≡ length (listed l) + 0 = length-append (listed l) [] in
    omega arith
mark_end at (l ∷ lines) (suc k) d lt =
    mark_end (at + length (listed l)) lines k d (omega arith)
    ∙ omega (arith, length-append (listed l) (listing (take (suc k) lines)))

-- THE LINES BY THEIR MARKS

-- what a mark says of a line that begins after these bytes
line_at : (pre : List ℕ) (line : ℕ × List ℕ) (post : List ℕ) → line_marked (pre ++ (listed line ++ post)) (mark_at (length pre) line) ≡ line
line_at pre line post =
    let parts : pre ++ (listed line ++ post) ≡ (pre ++ decimal line.0) ++ (line.1 ++ (codes "\r\n" ++ post)) = simp append_assoc in
    let begins : length pre + length (decimal line.0) ≡ length (pre ++ decimal line.0) = sym (length-append pre (decimal line.0)) in
    let ends : (length pre + length (decimal line.0)) + length line.1 ≡ length (pre ++ decimal line.0) + length line.1 = ap (λ (k : ℕ). k + length line.1) begins in
    ap (λ (bytes : List ℕ). (line.0, bytes))
    (ap (λ (bytes : List ℕ). slice_range bytes (length pre + length (decimal line.0)) ((length pre + length (decimal line.0)) + length line.1)) parts
    ∙ middle_of (pre ++ decimal line.0) line.1 (codes "\r\n" ++ post) (length pre + length (decimal line.0)) ((length pre + length (decimal line.0)) + length line.1) begins ends)

lines_at : (pre : List ℕ) (lines : Lines) → map (line_marked (pre ++ listing lines)) (marks_of (length pre) lines) ≡ lines
lines_at pre [] = refl
lines_at pre (l ∷ lines) =
    let seam : pre ++ (listed l ++ listing lines) ≡ (pre ++ listed l) ++ listing lines = sym (append_assoc pre (listed l) (listing lines)) in
    let next : length pre + length (listed l) ≡ length (pre ++ listed l) = sym (length-append pre (listed l)) in
    ap (λ (line : ℕ × List ℕ). line ∷ map (line_marked (pre ++ (listed l ++ listing lines))) (marks_of (length pre + length (listed l)) lines)) (line_at pre l (listing lines))
    ∙ ap (λ (ls : Lines). l ∷ ls)
    (ap (λ (bytes : List ℕ). map (line_marked bytes) (marks_of (length pre + length (listed l)) lines)) seam
    ∙ ap (λ (k : ℕ). map (line_marked ((pre ++ listed l) ++ listing lines)) (marks_of k lines)) next
    ∙ lines_at (pre ++ listed l) lines)

pub lines_are : (bytes : List ℕ) (marks : List Mark) (lines : Lines) → IsListing bytes marks lines → map (line_marked bytes) marks ≡ lines
lines_are bytes marks lines is =
    ap (λ (b : List ℕ). map (line_marked b) marks) is.whole
    ∙ ap (λ (ms : List Mark). map (line_marked (listing lines)) ms) is.beside
    ∙ lines_at [] lines

-- what a buffer shows is what it lists
pub shown : (bytes : List ℕ) (marks : List Mark) (lines : Lines) → IsListing bytes marks lines → IsListing bytes marks (map (line_marked bytes) marks)
shown bytes marks lines is = subst (λ (l : Lines). IsListing bytes marks l) (sym (lines_are bytes marks lines is)) is

-- what a buffer lists is what it shows
pub seen : (bytes : List ℕ) (marks : List Mark) (lines : Lines) → map (line_marked bytes) marks ≡ lines → IsListing bytes marks (map (line_marked bytes) marks) → IsListing bytes marks lines
seen bytes marks lines view is = subst (λ (l : Lines). IsListing bytes marks l) view is

pub as_many_marks : (bytes : List ℕ) (marks : List Mark) (lines : Lines) → IsListing bytes marks lines → length marks ≡ length lines
as_many_marks bytes marks lines is = ap length is.beside ∙ length_marks 0 lines

-- no line
pub no_lines : (bytes : List ℕ) (marks : List Mark) → bytes ≡ [] → marks ≡ [] → IsListing bytes marks (map (line_marked bytes) marks)
unfolding IsStrictlySortedBy
no_lines bytes marks none none' = shown bytes marks [] (record { orderly = tt; whole = none; beside = none' })

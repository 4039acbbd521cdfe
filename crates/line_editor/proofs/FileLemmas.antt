-- A file is read as it was written.
use Rattle.std.proofs.Common.{◌≡◌, ℕ, zero, suc, ◌^◌, ◌-◌, ◌<◌, ◌≤◌, inr, Bool, true, false, List, [], ◌∷◌, ◌++◌, length, take, drop, replicate, map, refl, sym, ap, subst, ◌∙◌, arith, append_assoc, append-nil, length-append}
use Rattle.std.specs.Prelude.{filter, not, ◌&&◌, ◌==◌, slice_index, if◌then◌else◌}
use Rattle.std.specs.BTreeMap.{insert_entry}
use Rattle.std.specs.Char.{is_ascii_digit}
use Rattle.std.specs.Cmp.{nat_cmp_total}
use Rattle.std.specs.Fmt.{decimal}
use Rattle.std.specs.Int.{IsInRange}
use Rattle.std.specs.List.{AllByRecursion, list_all, prefix_len, slice_split, All}
use Rattle.std.specs.List.Sorted.{IsStrictlySortedBy}
use Rattle.std.specs.Map.{keys_of}
use Rattle.std.specs.Ordering.{nat_cmp, ordering_reverse}
use Rattle.std.specs.Str.Parse.{digits_value, AllDigits}
use Rattle.std.specs.declared.cmp.Ordering.TheVariants.{Less, Greater}
use Rattle.std.proofs.Math.Seq.{take-length, drop-append_seam, append_snoc, get_or-append_seam}
use Rattle.std.proofs.lemmas.Bool.Decides.{nat_tests}
use Rattle.std.proofs.lemmas.List.{take-append-le}
use Rattle.std.proofs.lemmas.Fmt.{decimal_is_IsNumeral}
use Rattle.std.proofs.lemmas.List.Elements.{filter-append}
use Rattle.std.proofs.lemmas.List.Folds.{list_all-append}
use Rattle.std.proofs.lemmas.List.Splits.{slice_split_at}
use Rattle.std.proofs.lemmas.Str.Parse.{digit_at}
use Rattle.basic_values.specs.declared.limits.TheConstants.{MOST_LINES, MOST_NUMBER}
use Rattle.basic_tree.specs.ProgramLines.{Lines, is_within, within, listed, listing, stored}
use Rattle.line_editor.specs.Lines.{IsNumber, IsProgramLine, IsProgram, SpellsLine}
use Rattle.line_editor.specs.Edits.{IsStorable}
use Rattle.basic_tree.specs.FileLines.{is_written, is_line_feed, file_text, file_lines, lines_between, without_return}
use Rattle.line_editor.specs.Files.{IsPaged, is_plain, IsKept, kept, AreKept, IsFileOf, ArePlain}
use Rattle.basic_tree.specs.LineNumbers.{digits_of, number_of, rest_of}
use Rattle.line_editor.proofs.CutLemmas.{line_between, split_some}
use Rattle.line_editor.proofs.SpellLemmas.{no_digit_first}

-- a line of the file
abbrev joined : ℕ × List ℕ → List ℕ
joined line = decimal line.0 ++ line.1

-- DIGITS

digit_passes : (byte : ℕ) → IsInRange 48 57 byte → is_ascii_digit byte ≡ true
digit_passes byte r = grind (arith, nat_tests)

digit_plain : (byte : ℕ) → IsInRange 48 57 byte → (is_written byte && not (is_line_feed byte)) ≡ true
digit_plain byte r = grind (arith, nat_tests)

and_both : (a b : Bool) → a ≡ true → b ≡ true → (a && b) ≡ true
and_both a b x y = rw (x, y) refl

digits_pass : (ds : List ℕ) → AllDigits 10 ds → list_all is_ascii_digit ds ≡ true
digits_pass [] all = refl
digits_pass (byte ∷ ds) all = and_both _ _ (digit_passes byte (digit_at (byte ∷ ds) zero all (omega arith))) (digits_pass ds all.1)

digits_plain : (ds : List ℕ) → AllDigits 10 ds → is_plain ds ≡ true
digits_plain [] all = refl
digits_plain (byte ∷ ds) all = and_both _ _ (digit_plain byte (digit_at (byte ∷ ds) zero all (omega arith))) (digits_plain ds all.1)

small : (n : ℕ) → n ≤ MOST_NUMBER → n < 2 ^ 64
small n h = omega arith

-- the number of leading digits, of digits and something else
front_step : (p : ℕ → Bool) (byte : ℕ) (front back : List ℕ) → p byte ≡ true → prefix_len p (front ++ back) ≡ length front → prefix_len p ((byte ∷ front) ++ back) ≡ length (byte ∷ front)
front_step p byte front back is more = rw is (omega (arith, more))

front_len : (p : ℕ → Bool) (front back : List ℕ) → AllByRecursion (λ byte. p byte ≡ true) front → prefix_len p back ≡ 0 → prefix_len p (front ++ back) ≡ length front
front_len p [] back all none = none
front_len p (byte ∷ front) back all none = front_step p byte front back all.0 (front_len p front back all.1 none)

and_split : (a b : Bool) → (a && b) ≡ true → (a ≡ true) × (b ≡ true)
and_split true true e = (refl, refl)
and_split true false e = absurd (cc)
and_split false b e = absurd (cc)

each_passes : (p : ℕ → Bool) (text : List ℕ) → list_all p text ≡ true → AllByRecursion (λ byte. p byte ≡ true) text
each_passes p [] all = tt
each_passes p (byte ∷ text) all = ((and_split (p byte) (list_all p text) all).0, each_passes p text (and_split (p byte) (list_all p text) all).1)

not_first_by : (byte : ℕ) (bytes : List ℕ) (b : Bool) → is_ascii_digit byte ≡ b → SpellsLine (byte ∷ bytes) → prefix_len is_ascii_digit (byte ∷ bytes) ≡ 0
not_first_by byte bytes true is spelled = absurd (no_digit_first byte bytes spelled.0 is spelled.1)
not_first_by byte bytes false is spelled = rw is refl

not_first : (rest : List ℕ) → SpellsLine rest → prefix_len is_ascii_digit rest ≡ 0
not_first [] spelled = refl
not_first (byte ∷ bytes) spelled = not_first_by byte bytes (is_ascii_digit byte) refl spelled

-- A LINE ALONE

record IsNumbered (line : ℕ × List ℕ) : Type 0 where
  pub some : 0 < digits_of (joined line)
  pub number : number_of (joined line) ≡ line.0
  pub rest : rest_of (joined line) ≡ line.1

take_front : (front back : List ℕ) → take (length front) (front ++ back) ≡ front
take_front front back = take-append-le (length front) front back (omega arith) ∙ take-length front

count_of : (line : ℕ × List ℕ) → IsProgramLine line → digits_of (joined line) ≡ length (decimal line.0)
count_of line is =
    front_len is_ascii_digit (decimal line.0) line.1 (each_passes is_ascii_digit (decimal line.0) (digits_pass (decimal line.0) (decimal_is_IsNumeral line.0 (small line.0 is.number.high)).0.1)) (not_first line.1 is.spelled)

numbered : (line : ℕ × List ℕ) → IsProgramLine line → IsNumbered line
numbered line is =
    let numeral = decimal_is_IsNumeral line.0 (small line.0 is.number.high) in
    let count : digits_of (joined line) ≡ length (decimal line.0) = count_of line is in
    record {
      some = (let h : 0 < digits_of (joined line) = omega (arith, count, numeral.0.0) in h);
      number = ap (λ (k : ℕ). digits_value 10 (take k (joined line))) count ∙ ap (digits_value 10) (take_front (decimal line.0) line.1) ∙ numeral.1;
      rest = ap (λ (k : ℕ). drop k (joined line)) count ∙ drop-append_seam (decimal line.0) line.1;
    }

-- THE BYTES OF A FILE

-- bytes without zeros are all kept
written_by : (byte : ℕ) (bytes : List ℕ) → (is_written byte && not (is_line_feed byte)) ≡ true → filter is_written bytes ≡ bytes → filter is_written (byte ∷ bytes) ≡ byte ∷ bytes
written_by byte bytes plain more = rw (and_split (is_written byte) (not (is_line_feed byte)) plain).0 (ap (λ (l : List ℕ). byte ∷ l) more)

all_written : (bytes : List ℕ) → is_plain bytes ≡ true → filter is_written bytes ≡ bytes
all_written [] plain = refl
all_written (byte ∷ bytes) plain =
    let both = and_split (is_written byte && not (is_line_feed byte)) (is_plain bytes) plain in
    written_by byte bytes both.0 (all_written bytes both.1)

no_zeros : (n : ℕ) → filter is_written (replicate n 0) ≡ []
no_zeros zero = refl
no_zeros (suc n) = no_zeros n

joined_plain : (line : ℕ × List ℕ) → IsProgramLine line → is_plain line.1 ≡ true → is_plain (joined line) ≡ true
joined_plain line is plain =
    list_all-append (λ byte. is_written byte && not (is_line_feed byte)) (decimal line.0) line.1
    ∙ and_both _ _ (digits_plain (decimal line.0) (decimal_is_IsNumeral line.0 (small line.0 is.number.high)).0.1) plain

-- what is before the LF of a line
abbrev before_feed : ℕ × List ℕ → List ℕ
before_feed line = joined line ++ 13 ∷ []

before_plain : (line : ℕ × List ℕ) → is_plain (joined line) ≡ true → is_plain (before_feed line) ≡ true
before_plain line plain =
    list_all-append (λ byte. is_written byte && not (is_line_feed byte)) (joined line) (13 ∷ []) ∙ and_both _ _ plain refl

listed_as : (line : ℕ × List ℕ) (more : List ℕ) → listed line ++ more ≡ before_feed line ++ 10 ∷ more
listed_as line more = simp append_assoc

written_line : (line : ℕ × List ℕ) (more : List ℕ) → is_plain (joined line) ≡ true → filter is_written more ≡ more → filter is_written (listed line ++ more) ≡ listed line ++ more
written_line line more plain rest =
    ap (filter is_written) (listed_as line more) ∙ filter-append is_written (before_feed line) (10 ∷ more)
    ∙ ap (λ (l : List ℕ). l ++ 10 ∷ filter is_written more) (all_written (before_feed line) (before_plain line plain))
    ∙ ap (λ (l : List ℕ). before_feed line ++ 10 ∷ l) rest ∙ sym (listed_as line more)

listing_written : (lines : Lines) → AllByRecursion IsProgramLine lines → ArePlain lines → filter is_written (listing lines) ≡ listing lines
listing_written [] each plain = refl
listing_written (line ∷ lines) each plain = written_line line (listing lines) (joined_plain line each.0 plain.0) (listing_written lines each.1 plain.1)

read_back : (lines : Lines) (pages : List (List ℕ)) → AllByRecursion IsProgramLine lines → ArePlain lines → IsPaged (listing lines) pages → file_text pages ≡ listing lines
read_back lines pages each plain paged =
    ap (filter is_written) paged.holds ∙ filter-append is_written (listing lines) (replicate paged.zeros 0)
    ∙ ap (λ (l : List ℕ). filter is_written (listing lines) ++ l) (no_zeros paged.zeros) ∙ append-nil (filter is_written (listing lines)) ∙ listing_written lines each plain

-- ITS LINES

feed_by : (byte : ℕ) → (is_written byte && not (is_line_feed byte)) ≡ true → is_line_feed byte ≡ false
feed_by byte plain = false_from (is_line_feed byte) (and_split (is_written byte) (not (is_line_feed byte)) plain).1
  where
    false_from : (b : Bool) → not b ≡ true → b ≡ false
    false_from true e = absurd (cc)
    false_from false e = refl

no_feed : (bytes : List ℕ) → is_plain bytes ≡ true → AllByRecursion (λ byte. is_line_feed byte ≡ false) bytes
no_feed [] plain = tt
no_feed (byte ∷ bytes) plain =
    let both = and_split (is_written byte && not (is_line_feed byte)) (is_plain bytes) plain in
    (feed_by byte both.0, no_feed bytes both.1)

returned_at : (text : List ℕ) (n : ℕ) → n ≡ length text → (if slice_index (text ++ 13 ∷ []) n == 13 then take n (text ++ 13 ∷ []) else text ++ 13 ∷ []) ≡ text
returned_at text n is =
    ap (λ (k : ℕ). if slice_index (text ++ 13 ∷ []) k == 13 then take k (text ++ 13 ∷ []) else text ++ 13 ∷ []) is
    ∙ rw (get_or-append_seam text 13 [] 0) (take_front text (13 ∷ []))

returned : (text : List ℕ) → without_return (text ++ 13 ∷ []) ≡ text
returned text = returned_at text (length (text ++ 13 ∷ []) - 1) (omega (arith, length-append text (13 ∷ [])))

all_of : (P : ℕ → Type 0) (bytes : List ℕ) → AllByRecursion P bytes → All P bytes
all_of P [] all k d lt = absurd (omega arith)
all_of P (byte ∷ bytes) all zero d lt = all.0
all_of P (byte ∷ bytes) all (suc k) d lt = all_of P bytes all.1 k d (omega arith)

line_read : (line : ℕ × List ℕ) (more : List ℕ) → is_plain (joined line) ≡ true → file_lines (listed line ++ more) ≡ joined line ∷ file_lines more
line_read line more plain =
    ap file_lines (listed_as line more)
    ∙ ap lines_between (slice_split_at is_line_feed (before_feed line) 10 more (all_of (λ byte. is_line_feed byte ≡ false) (before_feed line) (no_feed (before_feed line) (before_plain line plain))) refl)
    ∙ line_between (before_feed line) (slice_split is_line_feed more) (split_some more)
    ∙ ap (λ (l : List ℕ). l ∷ file_lines more) (returned (joined line))

lines_read : (lines : Lines) → AllByRecursion IsProgramLine lines → ArePlain lines → file_lines (listing lines) ≡ map joined lines
lines_read [] each plain = refl
lines_read (line ∷ lines) each plain =
    line_read line (listing lines) (joined_plain line each.0 plain.0) ∙ ap (λ (l : List (List ℕ)). joined line ∷ l) (lines_read lines each.1 plain.1)

-- WHAT IS STORED

-- the numbers before a line are below its own
below_last : (k : ℕ) (front : Lines) (line : ℕ × List ℕ) (back : Lines) → AllByRecursion (λ y. nat_cmp k y ≡ Less) (keys_of (front ++ line ∷ back)) → nat_cmp k line.0 ≡ Less
below_last k [] line back all = all.0
below_last k (first ∷ front) line back all = below_last k front line back all.1

appended_by : (e : ℕ × List ℕ) (front : Lines) (line : ℕ × List ℕ) → nat_cmp line.0 e.0 ≡ Greater → insert_entry nat_cmp front line.0 line.1 ≡ front ++ line ∷ [] → insert_entry nat_cmp (e ∷ front) line.0 line.1 ≡ (e ∷ front) ++ line ∷ []
appended_by e front line is more = rw is (ap (λ (l : Lines). e ∷ l) more)

appended : (front : Lines) (line : ℕ × List ℕ) (back : Lines) → IsStrictlySortedBy nat_cmp (keys_of (front ++ line ∷ back)) → stored line.0 line.1 front ≡ front ++ line ∷ []
unfolding IsStrictlySortedBy
appended [] line back sorted = refl
appended (e ∷ front) line back sorted =
    let above : nat_cmp line.0 e.0 ≡ Greater = nat_cmp_total.antisymm line.0 e.0 ∙ ap ordering_reverse (below_last e.0 front line back sorted.0) in
    appended_by e front line above (appended front line back sorted.1)

kept_here : (line : ℕ × List ℕ) (front : Lines) → IsProgramLine line → length front < MOST_LINES → IsKept (joined line) front
kept_here line front is few =
    let n = numbered line is in (
      n.some,
      subst (λ (k : ℕ). IsStorable k (rest_of (joined line)) front) (sym n.number)
          (subst (λ (r : List ℕ). IsStorable line.0 r front) (sym n.rest)
          (record { numbered = is.number; fits = is.fits; spelled = is.spelled; room = inr few })),
    )

kept_as : (line : ℕ × List ℕ) (front : Lines) → IsProgramLine line → kept (joined line) front ≡ stored line.0 line.1 front
kept_as line front is =
    let n = numbered line is in
    ap (λ (k : ℕ). stored k (rest_of (joined line)) front) n.number ∙ ap (λ (r : List ℕ). stored line.0 r front) n.rest

all_kept : (front back : Lines) → AllByRecursion IsProgramLine back → IsStrictlySortedBy nat_cmp (keys_of (front ++ back)) → length (front ++ back) ≤ MOST_LINES → AreKept (map joined back) front (front ++ back)
all_kept front [] each sorted few = append-nil front
all_kept front (line ∷ back) each sorted few =
    let seam : (front ++ line ∷ []) ++ back ≡ front ++ line ∷ back = append_snoc front line back in
    let next : kept (joined line) front ≡ front ++ line ∷ [] = kept_as line front each.0 ∙ appended front line back sorted in
    let room : length front < MOST_LINES = omega (arith, length-append front (line ∷ back), few) in
    let sorted' : IsStrictlySortedBy nat_cmp (keys_of ((front ++ line ∷ []) ++ back)) = subst (λ (l : Lines). IsStrictlySortedBy nat_cmp (keys_of l)) (sym seam) sorted in
    let few' : length ((front ++ line ∷ []) ++ back) ≤ MOST_LINES = subst (λ (l : Lines). length l ≤ MOST_LINES) (sym seam) few in (
      kept_here line front each.0 room,
      subst (λ (l : Lines). AreKept (map joined back) l (front ++ line ∷ back)) (sym next)
          (subst (λ (l : Lines). AreKept (map joined back) (front ++ line ∷ []) l) seam (all_kept (front ++ line ∷ []) back each.1 sorted' few')),
    )

pub read_again : (lines : Lines) (pages : List (List ℕ)) → IsProgram lines → ArePlain lines → IsPaged (listing lines) pages → IsFileOf pages lines
read_again lines pages program plain paged =
    subst (λ (texts : List (List ℕ)). AreKept texts [] lines) (sym (ap file_lines (read_back lines pages program.each plain paged) ∙ lines_read lines program.each plain))
    (all_kept [] lines program.each program.ordered program.few)

-- all lines have line numbers
within_by : (line : ℕ × List ℕ) (lines : Lines) → is_within 1 MOST_NUMBER line.0 ≡ true → within 1 MOST_NUMBER lines ≡ lines → within 1 MOST_NUMBER (line ∷ lines) ≡ line ∷ lines
within_by line lines is more = rw is (ap (λ (l : Lines). line ∷ l) more)

in_range : (n : ℕ) → IsNumber n → is_within 1 MOST_NUMBER n ≡ true
in_range n is = grind (arith, nat_tests)

pub within_all : (lines : Lines) → AllByRecursion IsProgramLine lines → within 1 MOST_NUMBER lines ≡ lines
within_all [] each = refl
within_all (line ∷ lines) each = within_by line lines (in_range line.0 each.0.number) (within_all lines each.1)

-- The places of statements and lines, as a placement stores and returns them.
use Rattle.std.proofs.Common.{◌≡◌, ℕ, zero, suc, ◌+◌, ◌<◌, ◌≤◌, Bool, true, false, List, [], ◌∷◌, ◌++◌, length, get_or, refl, sym, ap, ◌∙◌, arith, length-append}
use Rattle.std.specs.Prelude.{nat_lt, if◌then◌else◌}
use Rattle.std.proofs.lemmas.List.{get_or_read}
use Rattle.basic_tree.specs.StatementViews.{line_of as trees_of_line}
use Rattle.basic_tree.specs.Trees.{StatementTree}
use Rattle.program_model.specs.Program.{Program, statements_of, line_start, loops_in, loops_before, behind_body}
use Rattle.program_soundness.specs.declared.texts.LineText.{LineText}
use Rattle.program_soundness.specs.Listings.{text_of}
use Rattle.polish_code.specs.Code.{body_size, start_of, statement_place}
use Rattle.polish_code.specs.declared.lines.LinePlace.{LinePlace}
use Rattle.polish_code.specs.KeptCode.{place_in}
use Rattle.code_places.specs.declared.placement.Placement.TheInside.{Inside}
use Rattle.code_places.specs.Placed.{IsPlaced}
use Rattle.code_places.specs.Sums.{size_whole, sums_from, line_places_from}
use Rattle.code_places.proofs.SumLemmas.{place_sum, loops_sum, sums_length}

-- SUMS PAST THE END

start_end : (ss : List StatementTree) (m : ℕ) → length ss ≤ m → start_of ss m ≡ start_of ss (length ss)
start_end [] m h = refl
start_end (s ∷ ss) zero h = absurd (omega arith)
start_end (s ∷ ss) (suc m) h = ap (λ n. suc (body_size s) + n) (start_end ss m (omega arith))

loops_end : (ss : List StatementTree) (m : ℕ) → length ss ≤ m → loops_before ss m ≡ loops_before ss (length ss)
loops_end [] m h = refl
loops_end (s ∷ ss) zero h = absurd (omega arith)
loops_end (s ∷ ss) (suc m) h = ap (λ n. loops_in s + n) (loops_end ss m (omega arith))

pub place_within : (places : List ℕ) (ss : List StatementTree) (m : ℕ) → places ≡ sums_from size_whole 0 ss → m ≤ length ss → get_or places m 0 ≡ start_of ss m
place_within places ss m e h = ap (λ l. get_or l m 0) e ∙ omega (arith, place_sum 0 ss m h)

pub place_beyond : (places : List ℕ) (ss : List StatementTree) (m n : ℕ) → places ≡ sums_from size_whole 0 ss → n ≡ length ss → n ≤ m → get_or places n 0 ≡ start_of ss m
place_beyond places ss m n e is h = ap (λ k. get_or places k 0) is ∙ place_within places ss (length ss) e (omega arith) ∙ sym (start_end ss m (omega arith))

pub loops_within : (loops : List ℕ) (ss : List StatementTree) (m : ℕ) → loops ≡ sums_from loops_in 0 ss → m ≤ length ss → get_or loops m 0 ≡ loops_before ss m
loops_within loops ss m e h = ap (λ l. get_or l m 0) e ∙ omega (arith, loops_sum 0 ss m h)

pub loops_beyond : (loops : List ℕ) (ss : List StatementTree) (m n : ℕ) → loops ≡ sums_from loops_in 0 ss → n ≡ length ss → n ≤ m → get_or loops n 0 ≡ loops_before ss m
loops_beyond loops ss m n e is h = ap (λ k. get_or loops k 0) is ∙ loops_within loops ss (length ss) e (omega arith) ∙ sym (loops_end ss m (omega arith))

-- THE STATEMENT AT WHICH A LINE BEGINS

line_start_within : (n : ℕ) (program : Program) → line_start n program ≤ length (statements_of program)
line_start_within n [] = omega arith
line_start_within n (line ∷ lines) = go (nat_lt line.number n) (line_start_within n lines)
  where
    go : (b : Bool) → line_start n lines ≤ length (statements_of lines) → (if b then length line.statements + line_start n lines else 0) ≤ length (line.statements ++ statements_of lines)
    go true i = omega (arith, length-append line.statements (statements_of lines), i)
    go false i = omega arith

-- WHERE LINES BEGIN

line_places : (places : List ℕ) (n : ℕ) (texts : List LineText) (first : ℕ)
    → place_in (get_or places (first + length (statements_of (text_of texts))) 0) (line_places_from places first texts) n ≡ get_or places (first + line_start n (text_of texts)) 0
line_places places n [] first = refl
line_places places n (text ∷ texts) first =
    ap (λ k. place_in (get_or places k 0) (line_places_from places first (text ∷ texts)) n) sum
    ∙ go (nat_lt text.number n) (line_places places n texts (first + length (trees_of_line text.line.now)))
  where
    sum : first + length (trees_of_line text.line.now ++ statements_of (text_of texts)) ≡ first + length (trees_of_line text.line.now) + length (statements_of (text_of texts))
    sum = omega (arith, length-append (trees_of_line text.line.now) (statements_of (text_of texts)))

    go : (b : Bool)
        → place_in (get_or places (first + length (trees_of_line text.line.now) + length (statements_of (text_of texts))) 0) (line_places_from places (first + length (trees_of_line text.line.now)) texts) n ≡ get_or places (first + length (trees_of_line text.line.now) + line_start n (text_of texts)) 0
        → (if b then place_in (get_or places (first + length (trees_of_line text.line.now) + length (statements_of (text_of texts))) 0) (line_places_from places (first + length (trees_of_line text.line.now)) texts) n else get_or places first 0)
        ≡ get_or places (first + (if b then length (trees_of_line text.line.now) + line_start n (text_of texts) else 0)) 0
    go true i = i ∙ ap (λ k. get_or places k 0) (let e : first + length (trees_of_line text.line.now) + line_start n (text_of texts) ≡ first + (length (trees_of_line text.line.now) + line_start n (text_of texts)) = omega arith in e)
    go false i = ap (λ k. get_or places k 0) (let e : first ≡ first + 0 = omega arith in e)

pub lines_placed : (texts : List LineText) (places : List ℕ) → places ≡ sums_from size_whole 0 (statements_of (text_of texts)) → (n : ℕ)
    → place_in (statement_place (text_of texts) (length (statements_of (text_of texts)))) (line_places_from places 0 texts) n ≡ statement_place (text_of texts) (line_start n (text_of texts))
lines_placed texts places e n =
    let ss = statements_of (text_of texts) in
    ap (λ k. place_in k (line_places_from places 0 texts) n) (sym (place_within places ss (length ss) e (omega arith)) ∙ ap (λ k. get_or places k 0) (let z : length ss ≡ 0 + length ss = omega arith in z))
    ∙ line_places places n texts 0
    ∙ ap (λ k. get_or places k 0) (let z : 0 + line_start n (text_of texts) ≡ line_start n (text_of texts) = omega arith in z)
    ∙ place_within places ss (line_start n (text_of texts)) e (line_start_within n (text_of texts))

-- a body that begins past the end
pub past_missing : (program : Program) (m : ℕ) → length (statements_of program) ≤ m → statement_place program m ≡ statement_place program (behind_body program m)
past_missing program m h =
    start_end (statements_of program) m h ∙ sym (start_end (statements_of program) (behind_body program m) (omega arith))

-- WHAT A PLACEMENT KEEPS

module _ (l : Inside) (texts : List LineText) (view : l.tables ≡ texts) (h : IsPlaced l) where
  pub places_count : length l.places.items ≡ suc (length (statements_of (text_of texts)))
  places_count = ap length h.places ∙ sums_length size_whole 0 (statements_of (text_of l.tables)) ∙ ap (λ n. suc n) (ap (λ t. length (statements_of (text_of t))) view)

  pub loops_count : length l.loops.items ≡ suc (length (statements_of (text_of texts)))
  loops_count = ap length h.loops ∙ sums_length loops_in 0 (statements_of (text_of l.tables)) ∙ ap (λ n. suc n) (ap (λ t. length (statements_of (text_of t))) view)

  pub place_there : (m n : ℕ) → n ≡ get_or l.places.items m n → m ≤ length (statements_of (text_of texts)) → n ≡ statement_place (text_of texts) m
  place_there m n is below =
      get_or_read l.places.items m n (omega (arith, places_count)) is 0
      ∙ place_within l.places.items (statements_of (text_of l.tables)) m h.places (omega (arith, ap (λ t. length (statements_of (text_of t))) view))
      ∙ ap (λ t. statement_place (text_of t) m) view

  pub place_next : (m n : ℕ) → n ≡ get_or l.places.items (m + 1) n → m < length (statements_of (text_of texts)) → n ≡ statement_place (text_of texts) (suc m)
  place_next m n is below = place_there (m + 1) n is (omega arith) ∙ ap (statement_place (text_of texts)) (let e : m + 1 ≡ suc m = omega arith in e)

  pub place_missing : (m k n : ℕ) → n ≡ get_or l.places.items k n → k ≡ length (statements_of (text_of texts)) → k ≤ m → n ≡ statement_place (text_of texts) m
  place_missing m k n is end high =
      get_or_read l.places.items k n (omega (arith, places_count)) is 0
      ∙ place_beyond l.places.items (statements_of (text_of l.tables)) m k h.places (end ∙ ap (λ t. length (statements_of (text_of t))) (sym view)) high
      ∙ ap (λ t. statement_place (text_of t) m) view

  pub loops_there : (m n : ℕ) → n ≡ get_or l.loops.items m n → m ≤ length (statements_of (text_of texts)) → n ≡ loops_before (statements_of (text_of texts)) m
  loops_there m n is below =
      get_or_read l.loops.items m n (omega (arith, loops_count)) is 0
      ∙ loops_within l.loops.items (statements_of (text_of l.tables)) m h.loops (omega (arith, ap (λ t. length (statements_of (text_of t))) view))
      ∙ ap (λ t. loops_before (statements_of (text_of t)) m) view

  pub loops_missing : (m k n : ℕ) → n ≡ get_or l.loops.items k n → k ≡ length (statements_of (text_of texts)) → k ≤ m → n ≡ loops_before (statements_of (text_of texts)) m
  loops_missing m k n is end high =
      get_or_read l.loops.items k n (omega (arith, loops_count)) is 0
      ∙ loops_beyond l.loops.items (statements_of (text_of l.tables)) m k h.loops (end ∙ ap (λ t. length (statements_of (text_of t))) (sym view)) high
      ∙ ap (λ t. loops_before (statements_of (text_of t)) m) view

  pub lines_are : (places : List ℕ) (slice : List LineText) (lines : List LinePlace) → places ≡ l.places.items → slice ≡ texts → lines ≡ line_places_from places 0 slice → (number : ℕ)
      → place_in (statement_place (text_of texts) (length (statements_of (text_of texts)))) lines number ≡ statement_place (text_of texts) (line_start number (text_of texts))
  lines_are places slice lines p s e number =
      ap (λ ls. place_in (statement_place (text_of texts) (length (statements_of (text_of texts)))) ls number) (e ∙ ap (λ p. line_places_from p 0 slice) p ∙ ap (line_places_from l.places.items 0) s)
      ∙ lines_placed texts l.places.items (h.places ∙ ap (λ t. sums_from size_whole 0 (statements_of (text_of t))) view) number

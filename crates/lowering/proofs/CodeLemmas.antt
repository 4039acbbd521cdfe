-- The code of a program, from its end to its beginning, and as it is stored.
use Rattle.std.proofs.Common.{◌≡◌, ℕ, zero, suc, ◌+◌, ◌-◌, ◌<◌, ◌≤◌, List, [], ◌∷◌, length, get_or, map, drop, Bor, refl, sym, ap, ◌∙◌, arith}
use Rattle.std.specs.List.{flat_map}
use Rattle.std.proofs.lemmas.Option.{slice_get_past}
use Rattle.basic_tree.specs.declared.statements.Statement.{Statement}
use Rattle.basic_tree.specs.StatementViews.{statement_of}
use Rattle.basic_tree.specs.Trees.{StatementTree}
use Rattle.program_model.specs.Program.{Program, loops_in, loops_before, statements_of, items_in, line_start}
use Rattle.program_soundness.specs.declared.texts.LineText.{LineText}
use Rattle.program_soundness.specs.Listings.{text_of}
use Rattle.program_soundness.proofs.ListedLemmas.{length_seen}
use Rattle.polish_code.specs.declared.items.Item.{Item}
use Rattle.polish_code.specs.declared.items.Item.TheVariants as item
use Rattle.polish_code.specs.Code.{Places, places_of, body_code, codes, code_of, statement_place}
use Rattle.polish_code.specs.Lowered.{coded}
use Rattle.polish_code.specs.KeptCode.{KeptCode, place_in, code_kept}
use Rattle.polish_code.proofs.Places.{start_past}
use Rattle.code_places.specs.Sums.{sums_from}
use Rattle.code_places.proofs.SumLemmas.{loops_sum}
use Rattle.lowering.proofs.Steps.{drop_before, none_left}

loops_none : (ss : List StatementTree) → loops_before ss 0 ≡ 0
loops_none [] = refl
loops_none (s ∷ ss) = refl

loops_next : (ss : List StatementTree) (m : ℕ) (d : StatementTree) → m < length ss → loops_before ss (suc m) ≡ loops_before ss m + loops_in (get_or ss m d)
loops_next [] m d h = absurd (omega arith)
loops_next (s ∷ ss) zero d h = omega (arith, loops_none ss)
loops_next (s ∷ ss) (suc m) d h = omega (arith, loops_next ss m d (omega arith))

seen_at : (xs : List (Bor Statement)) (m : ℕ) (r : Bor Statement) → r ≡ get_or xs m r → statement_of r.now ≡ get_or (map (λ (r : Bor Statement). statement_of r.now) xs) m (statement_of r.now)
seen_at xs m r e = ap (λ (r : Bor Statement). statement_of r.now) e ∙ go xs m
  where
    go : (xs : List (Bor Statement)) (m : ℕ) → statement_of (get_or xs m r).now ≡ get_or (map (λ (r : Bor Statement). statement_of r.now) xs) m (statement_of r.now)
    go [] m = refl
    go (x ∷ xs) zero = refl
    go (x ∷ xs) (suc m) = go xs m

-- one more statement, before those that have code
pub code_before : (program : Program) (places : Places) (xs : List (Bor Statement)) (loops : List ℕ) (n : ℕ) (r : Bor Statement) (i : ℕ) (new mid old : List Item)
    → loops ≡ sums_from loops_in 0 (map (λ (r : Bor Statement). statement_of r.now) xs) → i ≡ get_or loops (n - 1) 0 → r ≡ get_or xs (n - 1) r → 0 < n → n ≤ length xs
    → old ≡ codes program places n (loops_before (map (λ (r : Bor Statement). statement_of r.now) xs) n) (drop n (map (λ (r : Bor Statement). statement_of r.now) xs))
    → mid ≡ body_code program places (n - 1) i (statement_of r.now) old
    → new ≡ item.Start (places.home (n - 1)) ∷ mid
    → new ≡ codes program places (n - 1) (loops_before (map (λ (r : Bor Statement). statement_of r.now) xs) (n - 1)) (drop (n - 1) (map (λ (r : Bor Statement). statement_of r.now) xs))
code_before program places xs loops n r i new mid old sums own is low high before body start =
    let ss = map (λ (r : Bor Statement). statement_of r.now) xs in
    let s = statement_of r.now in
    let within : n - 1 < length ss = omega (arith, length_seen xs) in
    let at : s ≡ get_or ss (n - 1) s = seen_at xs (n - 1) r is in
    let more : suc (n - 1) ≡ n = omega arith in
    let here : i ≡ loops_before ss (n - 1) = own ∙ ap (λ l. get_or l (n - 1) 0) sums ∙ omega (arith, loops_sum 0 ss (n - 1) (omega arith)) in
    let behind : loops_before ss n ≡ loops_before ss (n - 1) + loops_in s = ap (loops_before ss) (sym more) ∙ loops_next ss (n - 1) s within ∙ ap (λ t. loops_before ss (n - 1) + loops_in t) (sym at) in
    let front : drop (n - 1) ss ≡ s ∷ drop n ss = drop_before ss n s at low (omega (arith, length_seen xs)) in
    start
    ∙ ap (λ is. item.Start (places.home (n - 1)) ∷ is)
    (body ∙ ap (λ i. body_code program places (n - 1) i s old) here
    ∙ ap (body_code program places (n - 1) (loops_before ss (n - 1)) s) (before ∙ ap (λ l. codes program places n l (drop n ss)) behind ∙ ap (λ k. codes program places k (loops_before ss (n - 1) + loops_in s) (drop n ss)) (sym more)))
    ∙ ap (codes program places (n - 1) (loops_before ss (n - 1))) (sym front)

pub code_none : (program : Program) (places : Places) (xs : List (Bor Statement)) (n i : ℕ) → n ≡ length xs → [] ≡ codes program places n i (drop n (map (λ (r : Bor Statement). statement_of r.now) xs))
code_none program places xs n i e = ap (codes program places n i) (sym (none_left ss) ∙ ap (λ k. drop k ss) (length_seen xs ∙ sym e))
  where
    ss : List StatementTree
    ss = map (λ (r : Bor Statement). statement_of r.now) xs

-- the code from the first statement on
pub code_whole : (program : Program) (xs : List (Bor Statement)) (is : List Item) → map (λ (r : Bor Statement). statement_of r.now) xs ≡ statements_of program
    → is ≡ codes program (places_of program) 0 (loops_before (map (λ (r : Bor Statement). statement_of r.now) xs) 0) (map (λ (r : Bor Statement). statement_of r.now) xs)
    → is ≡ code_of program
code_whole program xs is same h = h ∙ ap (λ l. codes program (places_of program) 0 l (map (λ (r : Bor Statement). statement_of r.now) xs)) (loops_none (map (λ (r : Bor Statement). statement_of r.now) xs)) ∙ ap (codes program (places_of program) 0 0) same

-- the code ends where the last statement does
pub code_length : (program : Program) → length (code_of program) ≡ statement_place program (length (statements_of program))
code_length program = sym (start_past program (places_of program) 0 0 (statements_of program) (length (statements_of program)) (slice_get_past (statements_of program) (length (statements_of program)) (omega arith)))

-- the code that is stored is that of the program
pub code_is : (listing texts : List LineText) (kept : KeptCode) → listing ≡ texts → kept.items ≡ code_of (text_of texts) → kept.words ≡ flat_map items_in (statements_of (text_of listing))
    → ((n : ℕ) → place_in (statement_place (text_of texts) (length (statements_of (text_of texts)))) kept.lines n ≡ statement_place (text_of texts) (line_start n (text_of texts)))
    → code_kept kept ≡ coded (text_of texts)
code_is listing texts kept same items words lines = λ i. record {
  items = items i;
  words = (words ∙ ap (λ t. flat_map items_in (statements_of (text_of t))) same) i;
  line = λ n. placed n i;
}
  where
    placed : (n : ℕ) → place_in (length kept.items) kept.lines n ≡ statement_place (text_of texts) (line_start n (text_of texts))
    placed n = ap (λ k. place_in k kept.lines n) (ap length items ∙ code_length (text_of texts)) ∙ lines n

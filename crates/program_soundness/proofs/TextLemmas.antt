-- The tables of the lines of a program, as they are made.
use Rattle.std.proofs.Common.{◌≡◌, ℕ, ◌+◌, ◌<◌, ◌≤◌, Bool, true, false, List, [], ◌∷◌, ◌++◌, length, get_or, map, drop, Bor, sym, ap, ◌∙◌, append_assoc, append-nil, arith}
use Rattle.std.specs.Prelude.{nat_lt, if◌then◌else◌}
use Rattle.std.proofs.lemmas.List.{drop_more, drop_all, map-append, length-append}
use Rattle.basic_tree.specs.declared.programs.Line.{Line}
use Rattle.basic_tree.specs.declared.statements.Statement.{Statement}
use Rattle.basic_tree.specs.StatementViews.{statement_of, line_of}
use Rattle.basic_tree.specs.Trees.{StatementTree}
use Rattle.program_model.specs.InMemory.{program_of}
use Rattle.program_model.specs.Program.{Program, line_start, statements_of}
use Rattle.program_soundness.specs.declared.texts.LineText.{LineText}
use Rattle.program_soundness.specs.Listings.{text_of}

abbrev pub seen : List (Bor Statement) → List StatementTree
seen all = map (λ (r : Bor Statement). statement_of r.now) all

pub one_seen : (old new : List (Bor Statement)) (r : Bor Statement) → new ≡ old ++ r ∷ [] → seen new ≡ seen old ++ statement_of r.now ∷ []
one_seen old new r e = ap seen e ∙ map-append (λ (r : Bor Statement). statement_of r.now) old (r ∷ [])

pub line_passed : (old new : Program) (number : ℕ) (line : Line) (left rest : List (ℕ × Line)) (whole : Program)
    → new ≡ old ++ record { number = number; statements = line_of line } ∷ [] → left ≡ (number, line) ∷ rest → old ++ program_of left ≡ whole → new ++ program_of rest ≡ whole
line_passed old new number line left rest whole more is so_far =
    ap (λ l. l ++ program_of rest) more ∙ append_assoc old (record { number = number; statements = line_of line } ∷ []) (program_of rest)
    ∙ sym (ap (λ (l : List (ℕ × Line)). old ++ program_of l) is) ∙ so_far

pub lines_ended : (texts : List LineText) (left : List (ℕ × Line)) (whole : Program) → left ≡ [] → text_of texts ++ program_of left ≡ whole → text_of texts ≡ whole
lines_ended texts left whole none so_far = sym (append-nil (text_of texts)) ∙ ap (λ (l : List (ℕ × Line)). text_of texts ++ program_of l) (sym none) ∙ so_far

-- WHERE LINES START

module _ (texts : List LineText) (i : ℕ) (text : LineText) (is : text ≡ get_or texts i text) (below : i < length texts) where
  behind : drop i texts ≡ text ∷ drop (i + 1) texts
  behind = drop_more texts i text below ∙ ap (λ (t : LineText). t ∷ drop (i + 1) texts) (sym is)

  pub starts_passed : (old new : List ℕ) (first next : ℕ) → next ≡ first + length (line_of text.line.now)
      → ((n other : ℕ) → get_or new n other ≡ get_or old n (if nat_lt text.number n then other else first))
      → ((n : ℕ) → get_or old n (first + line_start n (text_of (drop i texts))) ≡ line_start n (text_of texts))
      → (n : ℕ) → get_or new n (next + line_start n (text_of (drop (i + 1) texts))) ≡ line_start n (text_of texts)
  starts_passed old new first next further filled so_far n =
      filled n (next + line_start n (text_of (drop (i + 1) texts)))
      ∙ ap (get_or old n) (go (nat_lt text.number n) (length (line_of text.line.now)) (line_start n (text_of (drop (i + 1) texts))) further)
      ∙ sym (ap (λ (l : List LineText). get_or old n (first + line_start n (text_of l))) behind) ∙ so_far n
    where
      go : (b : Bool) (m k : ℕ) → next ≡ first + m → (if b then next + k else first) ≡ first + (if b then m + k else 0)
      go true m k e = omega (arith, e)
      go false m k e = omega arith

  pub count_passed : (first next whole : ℕ) → next ≡ first + length (line_of text.line.now) → first + length (statements_of (text_of (drop i texts))) ≡ whole
      → next + length (statements_of (text_of (drop (i + 1) texts))) ≡ whole
  count_passed first next whole further so_far =
      let split = ap (λ (l : List LineText). length (statements_of (text_of l))) behind ∙ length-append (line_of text.line.now) (statements_of (text_of (drop (i + 1) texts))) in
      omega (arith, split, further, so_far)

pub starts_ended : (texts : List LineText) (i : ℕ) (starts : List ℕ) (first n : ℕ) → length texts ≤ i
    → get_or starts n (first + line_start n (text_of (drop i texts))) ≡ line_start n (text_of texts) → first + length (statements_of (text_of (drop i texts))) ≡ length (statements_of (text_of texts))
    → get_or starts n (length (statements_of (text_of texts))) ≡ line_start n (text_of texts)
starts_ended texts i starts first n past so_far count =
    ap (get_or starts n) (sym count ∙ ap (λ (l : List LineText). first + length (statements_of (text_of l))) (drop_all i texts past)
    ∙ ap (λ (l : List LineText). first + line_start n (text_of l)) (sym (drop_all i texts past)))
    ∙ so_far

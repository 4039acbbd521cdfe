-- Bytes split into pages, and the pages' bytes.
use Rattle.std.proofs.Common.{◌≡◌, ℕ, ◌+◌, ◌-◌, ◌<◌, ◌≤◌, ◌⊎◌, inl, inr, List, [], ◌∷◌, ◌++◌, length, take, drop, get_or, replicate, refl, sym, ap, subst, ◌∙◌, arith, append_assoc, append-nil, length-append}
use Rattle.std.specs.Prelude.{filter, min}
use Rattle.std.specs.List.{AllByRecursion, concat}
use Rattle.std.proofs.lemmas.List.{take_more, take_all, take-append-drop, drop_all, length-take-le, length-replicate}
use Rattle.std.proofs.lemmas.Bool.{cases_lt}
use Rattle.std.proofs.lemmas.List.Folds.{concat-append}
use Rattle.std.proofs.lemmas.List.Elements.{filter-append}
use Rattle.basic_values.specs.declared.limits.TheConstants.{BLOCK_BYTES}
use Rattle.basic_tree.specs.FileLines.{is_written, file_text}
use Rattle.line_editor.specs.Files.{IsPaged}

-- one more page is read
pub text_more : (pages : List (List ℕ)) (i : ℕ) (page : List ℕ) → i < length pages → page ≡ get_or pages i page → file_text (take (i + 1) pages) ≡ file_text (take i pages) ++ filter is_written page
text_more pages i page lt is =
    ap file_text (take_more pages i page lt) ∙ ap (filter is_written) (concat-append (take i pages) (get_or pages i page ∷ []))
    ∙ filter-append is_written (concat (take i pages)) (concat (get_or pages i page ∷ []))
    ∙ ap (λ (bytes : List ℕ). file_text (take i pages) ++ filter is_written bytes) (append-nil (get_or pages i page) ∙ sym is)

-- The pages so far, and the bytes that are left. If none are left, there may be zeros after the
-- last page's bytes.
pub record PagedSoFar (bytes : List ℕ) (pages : List (List ℕ)) (left : List ℕ) : Type 0 where
  pub zeros : ℕ
  pub few : zeros < BLOCK_BYTES
  pub whole : AllByRecursion (λ page. length page ≡ BLOCK_BYTES) pages
  pub holds : concat pages ++ left ≡ bytes ++ replicate zeros 0
  pub ends : (left ≡ []) ⊎ (zeros ≡ 0)

-- zeros after the bytes of the last page
pub padded : (whole bytes : List ℕ) (count : ℕ) → whole ≡ bytes → count ≡ length bytes → length bytes ≤ BLOCK_BYTES
    → take BLOCK_BYTES whole ++ replicate (BLOCK_BYTES - count) 0 ≡ bytes ++ replicate (BLOCK_BYTES - length bytes) 0
padded whole bytes count same counted fits =
    ap (λ (l : List ℕ). take BLOCK_BYTES l ++ replicate (BLOCK_BYTES - count) 0) same
    ∙ ap (λ (l : List ℕ). l ++ replicate (BLOCK_BYTES - count) 0) (take_all BLOCK_BYTES bytes fits)
    ∙ ap (λ (k : ℕ). bytes ++ replicate (BLOCK_BYTES - k) 0) counted

pub length-padded : (bytes : List ℕ) → length bytes ≤ BLOCK_BYTES → length (bytes ++ replicate (BLOCK_BYTES - length bytes) 0) ≡ BLOCK_BYTES
length-padded bytes fits = omega (arith, length-append {A = ℕ}, length-replicate {A = ℕ})

-- as long as bytes are left, there are no zeros
no_zeros : (bytes : List ℕ) (pages : List (List ℕ)) (left : List ℕ) → 0 < length left → PagedSoFar bytes pages left → concat pages ++ left ≡ bytes
no_zeros bytes pages left some so_far = by so_far.ends
  where
    by : (left ≡ []) ⊎ (so_far.zeros ≡ 0) → concat pages ++ left ≡ bytes
    by (inl none) = absurd (omega (arith, ap length none))
    by (inr zero) = so_far.holds ∙ ap (λ (k : ℕ). bytes ++ replicate k 0) zero ∙ append-nil bytes

all_pages : (pages : List (List ℕ)) (page : List ℕ) → AllByRecursion (λ page. length page ≡ BLOCK_BYTES) pages → length page ≡ BLOCK_BYTES → AllByRecursion (λ page. length page ≡ BLOCK_BYTES) (pages ++ page ∷ [])
all_pages [] page all this = (this, tt)
all_pages (first ∷ pages) page all this = (all.0, all_pages pages page all.1 this)

-- the bytes of one more page
concat_more : (pages : List (List ℕ)) (page left : List ℕ) → concat (pages ++ page ∷ []) ++ left ≡ concat pages ++ (page ++ left)
concat_more pages page left =
    ap (λ (bytes : List ℕ). bytes ++ left) (concat-append pages (page ∷ []) ∙ ap (λ (bytes : List ℕ). concat pages ++ bytes) (append-nil page))
    ∙ append_assoc (concat pages) page left

-- a whole page
paged_long : (bytes : List ℕ) (pages : List (List ℕ)) (left : List ℕ) → BLOCK_BYTES < length left → PagedSoFar bytes pages left → PagedSoFar bytes (pages ++ take BLOCK_BYTES left ∷ []) (drop BLOCK_BYTES left)
paged_long bytes pages left long so_far = record {
  zeros = 0;
  few = (let h : 0 < BLOCK_BYTES = omega arith in h);
  whole = all_pages pages (take BLOCK_BYTES left) so_far.whole (length-take-le BLOCK_BYTES left (omega arith));
  holds = concat_more pages (take BLOCK_BYTES left) (drop BLOCK_BYTES left) ∙ ap (λ (l : List ℕ). concat pages ++ l) (take-append-drop BLOCK_BYTES left)
      ∙ no_zeros bytes pages left (omega arith) so_far ∙ sym (append-nil bytes);
  ends = inr refl;
}

-- the last page
paged_short : (bytes : List ℕ) (pages : List (List ℕ)) (left : List ℕ) → 0 < length left → length left ≤ BLOCK_BYTES → PagedSoFar bytes pages left → PagedSoFar bytes (pages ++ (left ++ replicate (BLOCK_BYTES - length left) 0) ∷ []) []
paged_short bytes pages left some short so_far = record {
  zeros = BLOCK_BYTES - length left;
  few = (let h : BLOCK_BYTES - length left < BLOCK_BYTES = omega arith in h);
  whole = all_pages pages (left ++ replicate (BLOCK_BYTES - length left) 0) so_far.whole (length-padded left short);
  holds = append-nil (concat (pages ++ (left ++ replicate (BLOCK_BYTES - length left) 0) ∷ []))
      ∙ concat-append pages ((left ++ replicate (BLOCK_BYTES - length left) 0) ∷ []) ∙ ap (λ (l : List ℕ). concat pages ++ l) (append-nil (left ++ replicate (BLOCK_BYTES - length left) 0))
      ∙ sym (append_assoc (concat pages) left (replicate (BLOCK_BYTES - length left) 0)) ∙ ap (λ (l : List ℕ). l ++ replicate (BLOCK_BYTES - length left) 0) (no_zeros bytes pages left some so_far);
  ends = inl refl;
}

abbrev Paged : List ℕ → List (List ℕ) → List ℕ → List ℕ → Type 0
Paged bytes pages page left = PagedSoFar bytes (pages ++ page ∷ []) left

paged_by : (bytes : List ℕ) (pages : List (List ℕ)) (left : List ℕ) (count : ℕ) (page : List ℕ) → (length left ≤ BLOCK_BYTES) ⊎ (BLOCK_BYTES < length left) → 0 < length left → count ≡ min (length left) BLOCK_BYTES → page ≡ take count left ++ replicate (BLOCK_BYTES - length (take count left)) 0
    → PagedSoFar bytes pages left → Paged bytes pages page (drop count left)
paged_by bytes pages left count page (inl short) some counted is so_far =
    let all : count ≡ length left = omega (arith, counted) in
    let front : take count left ≡ left = take_all count left (omega arith) in
    let none : drop count left ≡ [] = drop_all count left (omega arith) in
    let is' : page ≡ left ++ replicate (BLOCK_BYTES - length left) 0 = is ∙ ap (λ (l : List ℕ). l ++ replicate (BLOCK_BYTES - length l) 0) front in
    subst (λ (l : List ℕ). Paged bytes pages page l) (sym none) (subst (λ (p : List ℕ). Paged bytes pages p []) (sym is') (paged_short bytes pages left some short so_far))
paged_by bytes pages left count page (inr long) some counted is so_far =
    let whole : count ≡ BLOCK_BYTES = omega (arith, counted) in
    let long' : length (take count left) ≡ BLOCK_BYTES = length-take-le count left (omega arith) ∙ whole in
    let is' : page ≡ take BLOCK_BYTES left = is ∙ ap (λ (k : ℕ). take count left ++ replicate (BLOCK_BYTES - k) 0) long' ∙ append-nil (take count left) ∙ ap (λ (k : ℕ). take k left) whole in
    subst (λ (k : ℕ). Paged bytes pages page (drop k left)) (sym whole) (subst (λ (p : List ℕ). Paged bytes pages p (drop BLOCK_BYTES left)) (sym is') (paged_long bytes pages left long so_far))

-- one more page is written
pub paged_more : (bytes : List ℕ) (pages : List (List ℕ)) (left : List ℕ) (count : ℕ) (page : List ℕ) → 0 < length left → count ≡ min (length left) BLOCK_BYTES → page ≡ take count left ++ replicate (BLOCK_BYTES - length (take count left)) 0
    → PagedSoFar bytes pages left → PagedSoFar bytes (pages ++ page ∷ []) (drop count left)
paged_more bytes pages left count page some counted is so_far = paged_by bytes pages left count page (flip (cases_lt BLOCK_BYTES (length left))) some counted is so_far
  where
    flip : (BLOCK_BYTES < length left) ⊎ (length left ≤ BLOCK_BYTES) → (length left ≤ BLOCK_BYTES) ⊎ (BLOCK_BYTES < length left)
    flip (inl long) = inr long
    flip (inr short) = inl short

pub paged_first : (bytes : List ℕ) → PagedSoFar bytes [] bytes
paged_first bytes = record { zeros = 0; few = (let h : 0 < BLOCK_BYTES = omega arith in h); whole = tt; holds = sym (append-nil bytes); ends = inr refl }

pub paged_last : (bytes : List ℕ) (pages : List (List ℕ)) (left : List ℕ) → left ≡ [] → PagedSoFar bytes pages left → IsPaged bytes pages
paged_last bytes pages left none so_far = record {
  zeros = so_far.zeros;
  few = so_far.few;
  whole = so_far.whole;
  holds = sym (append-nil (concat pages)) ∙ ap (λ (l : List ℕ). concat pages ++ l) (sym none) ∙ so_far.holds;
}

-- Lines that end with a LF are found again, and a text begins with its first line.
use Rattle.std.proofs.Common.{◌≡◌, ℕ, zero, suc, ◌≤◌, Bool, true, false, cond, eqb, List, [], ◌∷◌, ◌++◌, length, take, Some, refl, sym, ap, subst, ◌∙◌, append_assoc, arith}
use Rattle.std.specs.List.{AllByRecursion}
use Rattle.std.proofs.lemmas.Bool.{eqb-true}
use Rattle.std.proofs.lemmas.List.{append-nil, take_at}
use Rattle.basic_values.specs.Cuts.{cut}
use Rattle.basic_values.proofs.CutLaws.{Lacks, cut_again}
use Rattle.history_reader.specs.EndedLines.{onto_line, ended_lines, with_feeds, first_ended}

pub ended_line : (line rest : List ℕ) → Lacks 10 line → ended_lines (line ++ 10 ∷ rest) ≡ line ∷ ended_lines rest
ended_line [] rest lacks = refl
ended_line (b ∷ line) rest lacks = rw (lacks.0, ended_line line rest lacks.1) refl

-- two texts that are equal have the same first line, and the same after it
pub one_line : (a b x y : List ℕ) → Lacks 10 a → Lacks 10 b → a ++ 10 ∷ x ≡ b ++ 10 ∷ y → (a ≡ b) × (x ≡ y)
one_line a b x y la lb e =
    let cuts : Some (a, x) ≡ Some (b, y) = sym (cut_again 10 a x la) ∙ ap (cut 10) e ∙ cut_again 10 b y lb in
    let parts : (a, x) ≡ (b, y) = some_one (a, x) (b, y) cuts in
    (ap (λ (p : List ℕ × List ℕ). p.0) parts, ap (λ (p : List ℕ × List ℕ). p.1) parts)
  where
    some_one : {A : Type 0} (p q : A) → Some p ≡ Some q → p ≡ q
    some_one p q e = cc

-- a text begins with the first of its lines
abbrev pub Fronted : List ℕ → List ℕ → List (List ℕ) → Type 0
Fronted text line lines = (rest : List ℕ) × (text ≡ line ++ 10 ∷ rest) × Lacks 10 line × (ended_lines rest ≡ lines)

abbrev HasFirst : List ℕ → Type 0
HasFirst text = (line : List ℕ) (lines : List (List ℕ)) → ended_lines text ≡ line ∷ lines → Fronted text line lines

behind_feed : (b : ℕ) (text line : List ℕ) (lines : List (List ℕ)) → b ≡ 10 → [] ∷ ended_lines text ≡ line ∷ lines → Fronted (b ∷ text) line lines
behind_feed b text line lines feed e =
    let is_line : [] ≡ line = cc in
    let are_lines : ended_lines text ≡ lines = cc in
    subst (λ (l : List ℕ). Fronted (b ∷ text) l lines) is_line (text, ap (λ (x : ℕ). x ∷ text) feed, tt, are_lines)

behind_byte : (b : ℕ) (text : List ℕ) → HasFirst text → eqb b 10 ≡ false → (ls : List (List ℕ)) → ended_lines text ≡ ls → (line : List ℕ) (lines : List (List ℕ)) → onto_line b ls ≡ line ∷ lines → Fronted (b ∷ text) line lines
behind_byte b text has other [] same line lines e = absurd cc
behind_byte b text has other (first ∷ others) same line lines e =
    let f = has first others same in
    let is_line : b ∷ first ≡ line = cc in
    let are_lines : others ≡ lines = cc in
    subst (λ (l : List ℕ). Fronted (b ∷ text) l lines) is_line (f.0, ap (λ (t : List ℕ). b ∷ t) f.1, (other, f.2), f.3 ∙ are_lines)

behind_first : (b : ℕ) (text : List ℕ) → HasFirst text → (t : Bool) → eqb b 10 ≡ t → (line : List ℕ) (lines : List (List ℕ)) → cond t ([] ∷ ended_lines text) (onto_line b (ended_lines text)) ≡ line ∷ lines → Fronted (b ∷ text) line lines
behind_first b text has true same line lines e = behind_feed b text line lines (eqb-true b 10 same) e
behind_first b text has false other line lines e = behind_byte b text has other (ended_lines text) refl line lines e

pub first_line : (text : List ℕ) → HasFirst text
first_line [] line lines e = absurd cc
first_line (b ∷ text) line lines e = behind_first b text (first_line text) (eqb b 10) refl line lines e

-- ---- a number of lines at the start of a text

pub ended_front : (lines : List (List ℕ)) (rest : List ℕ) → AllByRecursion (Lacks 10) lines → ended_lines (with_feeds lines ++ rest) ≡ lines ++ ended_lines rest
ended_front [] rest all = refl
ended_front (line ∷ lines) rest all =
    let regroup : ((line ++ 10 ∷ []) ++ with_feeds lines) ++ rest ≡ line ++ 10 ∷ (with_feeds lines ++ rest) = simp append_assoc in
    ap ended_lines regroup ∙ ended_line line (with_feeds lines ++ rest) all.0 ∙ ap (λ (ls : List (List ℕ)). line ∷ ls) (ended_front lines rest all.1)

take_next : (lines others : List (List ℕ)) (next : List ℕ) → take (suc (length lines)) (lines ++ next ∷ others) ≡ lines ++ next ∷ []
take_next [] others next = refl
take_next (line ∷ lines) others next = ap (λ (ls : List (List ℕ)). line ∷ ls) (take_next lines others next)

pub feeds_next : (lines : List (List ℕ)) (next : List ℕ) → with_feeds (lines ++ next ∷ []) ≡ with_feeds lines ++ (next ++ 10 ∷ [])
feeds_next [] next = append-nil (next ++ 10 ∷ [])
feeds_next (line ∷ lines) next =
    ap (λ (t : List ℕ). (line ++ 10 ∷ []) ++ t) (feeds_next lines next) ∙ sym (append_assoc (line ++ 10 ∷ []) (with_feeds lines) (next ++ 10 ∷ []))

module _ (text : List ℕ) (lines others : List (List ℕ)) (ended : ended_lines text ≡ lines ++ others) where
  pub front_is : first_ended (length lines) text ≡ with_feeds lines
  front_is = ap (λ (ls : List (List ℕ)). with_feeds (take (length lines) ls)) ended ∙ ap with_feeds (take_at lines others (length lines) refl)

  pub next_is : (next : List ℕ) (more : List (List ℕ)) → others ≡ next ∷ more → first_ended (suc (length lines)) text ≡ with_feeds lines ++ (next ++ 10 ∷ [])
  next_is next more e =
      ap (λ (ls : List (List ℕ)). with_feeds (take (suc (length lines)) ls)) (ended ∙ ap (λ (ls : List (List ℕ)). lines ++ ls) e)
      ∙ ap with_feeds (take_next lines more next) ∙ feeds_next lines next

-- more lines begin with fewer
pub fewer_first : (m n : ℕ) (lines : List (List ℕ)) → m ≤ n → (more : List ℕ) × (with_feeds (take n lines) ≡ with_feeds (take m lines) ++ more)
fewer_first zero n lines few = (with_feeds (take n lines), refl)
fewer_first (suc m) zero lines few = absurd (omega arith)
fewer_first (suc m) (suc n) [] few = ([], refl)
fewer_first (suc m) (suc n) (line ∷ lines) few =
    let f = fewer_first m n lines (omega arith) in
    (f.0, ap (λ (t : List ℕ). (line ++ 10 ∷ []) ++ t) f.1 ∙ sym (append_assoc (line ++ 10 ∷ []) (with_feeds (take m lines)) f.0))

-- The lines of consecutive bytes, and the place at which an input is cut.
use Rattle.std.proofs.Common.{◌≡◌, ℕ, suc, ◌+◌, ◌<◌, ◌≤◌, ◌-◌, Bool, true, false, cond, eqb, ltb, List, [], ◌∷◌, ◌++◌, length, take, Option, Some, None, inl, inr, ⊎_elim, refl, sym, ap, subst, ◌∙◌, append_assoc, arith}
use Rattle.std.specs.Prelude.{◌⊎◌, not, codes}
use Rattle.std.specs.List.{onto_first, position_or_len, before_first}
use Rattle.std.specs.Str.Lines.{strip_carriage_return}
use Rattle.std.proofs.lemmas.List.{append-nil, append_cancel_left, length-append, take_at}
use Rattle.std.proofs.lemmas.Bool.{ltb-true, ltb-false}
use Rattle.std.proofs.lemmas.List.Splits.{length-slice_split}
use Rattle.basic_values.specs.Cuts.{cut}
use Rattle.basic_values.proofs.CutLaws.{Lacks, guard_some, cut_takes, cut_again, cut_nowhere}
use Rattle.deck_model.specs.Lines.{parts_of, lines_in, last_in, whole_lines, cut_line}
use Rattle.deck_model.proofs.LineLaws.{line_found, line_missed}
use Rattle.time_sharing.specs.Inputs.{HaveNoEnd, StopAtEnd, IsAll, Divided}

-- LINES AFTER LINES

abbrev is_lf : ℕ → Bool
is_lf b = eqb b 10

-- the last of these parts goes on by the first of those
abbrev joined : List (List ℕ) → List (List ℕ) → List (List ℕ)
joined [] ys = ys
joined (x ∷ []) [] = x ∷ []
joined (x ∷ []) (y ∷ ys) = (x ++ y) ∷ ys
joined (x ∷ x' ∷ xs) ys = x ∷ joined (x' ∷ xs) ys

parts_some : (bytes : List ℕ) → 0 < length (parts_of bytes)
parts_some bytes = omega (arith, length-slice_split is_lf bytes)

joined_nothing : (ys : List (List ℕ)) → 0 < length ys → ys ≡ joined ([] ∷ []) ys
joined_nothing [] some = absurd (omega (arith, some))
joined_nothing (y ∷ ys) some = refl

joined_line : (xs ys : List (List ℕ)) → 0 < length xs → [] ∷ joined xs ys ≡ joined ([] ∷ xs) ys
joined_line [] ys some = absurd (omega (arith, some))
joined_line (x ∷ xs) ys some = refl

joined_onto : (byte : ℕ) (xs ys : List (List ℕ)) → 0 < length xs → onto_first byte (joined xs ys) ≡ joined (onto_first byte xs) ys
joined_onto byte [] ys some = absurd (omega (arith, some))
joined_onto byte (x ∷ []) [] some = refl
joined_onto byte (x ∷ []) (y ∷ ys) some = refl
joined_onto byte (x ∷ x' ∷ xs) ys some = refl

parts_append : (a b : List ℕ) → parts_of (a ++ b) ≡ joined (parts_of a) (parts_of b)
parts_append [] b = joined_nothing (parts_of b) (parts_some b)
parts_append (byte ∷ a) b =
    elim (is_lf byte) as (λ (v : Bool). cond v ([] ∷ parts_of (a ++ b)) (onto_first byte (parts_of (a ++ b))) ≡ joined (cond v ([] ∷ parts_of a) (onto_first byte (parts_of a))) (parts_of b)) [
      | true ↦ ap (λ (parts : List (List ℕ)). [] ∷ parts) (parts_append a b) ∙ joined_line (parts_of a) (parts_of b) (parts_some a)
      | false ↦ ap (onto_first byte) (parts_append a b) ∙ joined_onto byte (parts_of a) (parts_of b) (parts_some a)
    ]

lines_joined : (xs ys : List (List ℕ)) → 0 < length xs → 0 < length ys → last_in xs ≡ [] → (lines_in (joined xs ys) ≡ lines_in xs ++ lines_in ys) × (last_in (joined xs ys) ≡ last_in ys)
lines_joined [] ys some some' whole = absurd (omega (arith, some))
lines_joined (x ∷ []) [] some some' whole = absurd (omega (arith, some'))
lines_joined (x ∷ []) (y ∷ ys) some some' whole = (ap (λ (front : List ℕ). lines_in ((front ++ y) ∷ ys)) whole, ap (λ (front : List ℕ). last_in ((front ++ y) ∷ ys)) whole)
lines_joined (x ∷ x' ∷ []) [] some some' whole = absurd (omega (arith, some'))
lines_joined (x ∷ x' ∷ []) (y ∷ ys) some some' whole =
    (ap (λ (front : List ℕ). strip_carriage_return x ∷ lines_in ((front ++ y) ∷ ys)) whole, ap (λ (front : List ℕ). last_in ((front ++ y) ∷ ys)) whole)
lines_joined (x ∷ x' ∷ x'' ∷ xs) ys some some' whole =
    let rest = lines_joined (x' ∷ x'' ∷ xs) ys (omega arith) some' whole in
    (ap (λ (lines : List (List ℕ)). strip_carriage_return x ∷ lines) rest.0, rest.1)

-- whole lines, and what comes after them
pub lines_append : (a b : List ℕ) → cut_line a ≡ [] → (whole_lines (a ++ b) ≡ whole_lines a ++ whole_lines b) × (cut_line (a ++ b) ≡ cut_line b)
unfolding whole_lines cut_line
lines_append a b whole =
    let parts = lines_joined (parts_of a) (parts_of b) (parts_some a) (parts_some b) whole in
    (ap lines_in (parts_append a b) ∙ parts.0, ap last_in (parts_append a b) ∙ parts.1)

front_lacks : (text : List ℕ) → Lacks 10 (before_first is_lf text)
front_lacks [] = tt
front_lacks (byte ∷ text) =
    elim (eqb byte 10) as (λ (v : Bool). eqb byte 10 ≡ v → Lacks 10 (take (cond (not v) (1 + position_or_len is_lf text) 0) (byte ∷ text))) [
      | true ↦ λ is. tt
      | false ↦ λ other. let rest : Lacks 10 (before_first is_lf text) = front_lacks text in rw (one_more (position_or_len is_lf text)) (other, rest)
    ] refl
  where
    one_more : (n : ℕ) → 1 + n ≡ suc n
    one_more n = omega arith

-- a line that is cut off, with its LF
pub line_alone : (bytes line behind : List ℕ) → cut 10 bytes ≡ Some (line, behind) → (whole_lines (line ++ 10 ∷ []) ≡ strip_carriage_return line ∷ []) × (cut_line (line ++ 10 ∷ []) ≡ [])
line_alone bytes line behind is =
    let front : before_first is_lf bytes ≡ line = ap (λ (parts : List ℕ × List ℕ). parts.0) (guard_some _ _ (line, behind) is).1 in
    let lacks : Lacks 10 line = subst (Lacks 10) front (front_lacks bytes) in
    let found = line_found (line ++ 10 ∷ []) (line, []) (cut_again 10 line [] lacks) in
    let none = line_missed [] (cut_nowhere 10 [] tt) in
    (found.0 ∙ ap (λ (lines : List (List ℕ)). strip_carriage_return line ∷ lines) none.0, found.1 ∙ none.1)

-- bytes without lines, of which none is cut
no_bytes : (bytes : List ℕ) → whole_lines bytes ≡ [] → cut_line bytes ≡ [] → bytes ≡ []
no_bytes bytes none whole = go (cut 10 bytes) refl
  where
    go : (found : Option (List ℕ × List ℕ)) → cut 10 bytes ≡ found → bytes ≡ []
    go None is = sym (line_missed bytes is).1 ∙ whole
    go (Some parts) is = let e = sym (line_found bytes parts is).0 ∙ none in absurd (cc)

-- THE FIRST LINE THAT IS END

pub no_end_append : (a b : List (List ℕ)) → HaveNoEnd a → HaveNoEnd b → HaveNoEnd (a ++ b)
no_end_append [] b p q = q
no_end_append (line ∷ a) b p q = (p.0, no_end_append a b p.1 q)

end_is_none : (before after : List (List ℕ)) → HaveNoEnd (before ++ codes "END" ∷ after) → ⊥
end_is_none [] after none = none.0 refl
end_is_none (line ∷ before) after none = end_is_none before after none.1

-- one line is the first
first_is_one : (before after before' after' : List (List ℕ)) → HaveNoEnd before → HaveNoEnd before' → before ++ codes "END" ∷ after ≡ before' ++ codes "END" ∷ after' → after ≡ after'
first_is_one [] after [] after' p q e = cc
first_is_one [] after (line ∷ before') after' p q e =
    let first : codes "END" ≡ line = cc in
    absurd (q.0 (sym first))
first_is_one (line ∷ before) after [] after' p q e =
    let first : line ≡ codes "END" = cc in
    absurd (p.0 first)
first_is_one (line ∷ before) after (line' ∷ before') after' p q e = first_is_one before after before' after' p.1 q.1 (cc)

-- THE PLACE AT WHICH AN INPUT IS CUT

-- a prefix of whole lines, and the next line after it
module _ (input front rest line behind : List ℕ) (input_is : input ≡ front ++ rest) (whole : cut_line front ≡ []) (next : cut 10 rest ≡ Some (line, behind)) where
  pub front_more : input ≡ (front ++ (line ++ 10 ∷ [])) ++ behind
  front_more =
      input_is ∙ ap (λ (t : List ℕ). front ++ t) (cut_takes 10 rest (line, behind) next ∙ sym (append_assoc line (10 ∷ []) behind))
      ∙ sym (append_assoc front (line ++ 10 ∷ []) behind)

  pub whole_more : cut_line (front ++ (line ++ 10 ∷ [])) ≡ []
  whole_more = (lines_append front (line ++ 10 ∷ []) whole).1 ∙ (line_alone rest line behind next).1

  pub lines_more : whole_lines (front ++ (line ++ 10 ∷ [])) ≡ whole_lines front ++ strip_carriage_return line ∷ []
  lines_more = (lines_append front (line ++ 10 ∷ []) whole).0 ∙ ap (λ (lines : List (List ℕ)). whole_lines front ++ lines) (line_alone rest line behind next).0

  pub count_more : length (whole_lines (front ++ (line ++ 10 ∷ []))) ≡ length (whole_lines front) + 1
  count_more =
      let lines : length (whole_lines (front ++ (line ++ 10 ∷ []))) ≡ length (whole_lines front ++ strip_carriage_return line ∷ []) = ap length lines_more in
      let both = length-append (whole_lines front) (strip_carriage_return line ∷ []) in
      omega arith

  pub no_end_more : HaveNoEnd (whole_lines front) → (strip_carriage_return line ≡ codes "END" → ⊥) → HaveNoEnd (whole_lines (front ++ (line ++ 10 ∷ [])))
  no_end_more none other = subst HaveNoEnd (sym lines_more) (no_end_append (whole_lines front) (strip_carriage_return line ∷ []) none (other, tt))

  part_is : take (length input - length behind) input ≡ front ++ (line ++ 10 ∷ [])
  part_is =
      let all : length input ≡ length ((front ++ (line ++ 10 ∷ [])) ++ behind) = ap length front_more in
      let both = length-append (front ++ (line ++ 10 ∷ [])) behind in
      let count : length input - length behind ≡ length (front ++ (line ++ 10 ∷ [])) = omega arith in
      (λ i. take (count i) (front_more i)) ∙ take_at (front ++ (line ++ 10 ∷ [])) behind (length (front ++ (line ++ 10 ∷ []))) refl

  -- it is cut after that line, if it is the first END
  pub divided_there : HaveNoEnd (whole_lines front) → strip_carriage_return line ≡ codes "END" → Divided input (take (length input - length behind) input) behind
  divided_there none is = subst (λ (part : List ℕ). Divided input part behind) (sym part_is) (record {
    input_is = front_more;
    ends = inl (record { before = whole_lines front; lines_are = lines_more ∙ ap (λ (last : List ℕ). whole_lines front ++ last ∷ []) is; no_other = none; all_whole = whole_more });
  })

  pub lines_there : length (whole_lines (take (length input - length behind) input)) ≡ length (whole_lines front) + 1
  lines_there = ap (λ (part : List ℕ). length (whole_lines part)) part_is ∙ count_more

-- a prefix of whole lines, and no whole line after it
module _ (input front rest : List ℕ) (input_is : input ≡ front ++ rest) (whole : cut_line front ≡ []) (none_left : cut 10 rest ≡ None) where
  pub lines_nowhere : whole_lines input ≡ whole_lines front
  lines_nowhere = ap whole_lines input_is ∙ (lines_append front rest whole).0 ∙ ap (λ (lines : List (List ℕ)). whole_lines front ++ lines) (line_missed rest none_left).0 ∙ append-nil (whole_lines front)

  pub divided_nowhere : HaveNoEnd (whole_lines front) → Divided input input []
  divided_nowhere none = record { input_is = sym (append-nil input); ends = inr (subst HaveNoEnd (sym lines_nowhere) none, refl) }

-- ONE CUT

-- of two prefixes of bytes one begins the other
fronts : (a b c d : List ℕ) → a ++ b ≡ c ++ d → length a ≤ length c → (u : List ℕ) × (c ≡ a ++ u)
fronts [] b c d e less = (c, refl)
fronts (x ∷ a) b [] d e less = absurd (omega (arith, less))
fronts (x ∷ a) b (y ∷ c) d e less =
    let same : x ≡ y = cc in
    let rest = fronts a b c d (cc) (omega (arith, less)) in
    (rest.0, λ i. sym same i ∷ rest.1 i)

-- whole lines of which the last is the first END, and more of them with END after
one_front : (a u : List ℕ) → StopAtEnd a → StopAtEnd (a ++ u) → u ≡ []
one_front a u p q =
    let lines = lines_append a u p.all_whole in
    let same : p.before ++ codes "END" ∷ whole_lines u ≡ q.before ++ codes "END" ∷ [] =
    sym (append_assoc p.before (codes "END" ∷ []) (whole_lines u)) ∙ ap (λ (front : List (List ℕ)). front ++ whole_lines u) (sym p.lines_are) ∙ sym lines.0 ∙ q.lines_are in
    no_bytes u (first_is_one p.before (whole_lines u) q.before [] p.no_other q.no_other same) (sym lines.1 ∙ q.all_whole)

one_stop_ordered : (a b c d : List ℕ) → a ++ b ≡ c ++ d → StopAtEnd a → StopAtEnd c → length a ≤ length c → a ≡ c
one_stop_ordered a b c d e p q less =
    let more = fronts a b c d e less in
    let none : more.0 ≡ [] = one_front a more.0 p (subst StopAtEnd more.1 q) in
    sym (more.1 ∙ ap (λ (u : List ℕ). a ++ u) none ∙ append-nil a)

one_stop : (a b c d : List ℕ) → a ++ b ≡ c ++ d → StopAtEnd a → StopAtEnd c → a ≡ c
one_stop a b c d e p q =
    ⊎_elim (λ less. one_stop_ordered a b c d e p q less) (λ more. sym (one_stop_ordered c d a b (sym e) q p more)) (ordered (length a) (length c) (ltb (length a) (length c)) refl)
  where
    ordered : (m n : ℕ) (less : Bool) → ltb m n ≡ less → (m ≤ n) ⊎ (n ≤ m)
    ordered m n true e = let l = ltb-true m n e in inl (omega arith)
    ordered m n false e = inr (ltb-false m n e)

-- bytes in which no line is END have no prefix whose last line is END
no_stop : (a b c d : List ℕ) → a ++ b ≡ c ++ d → StopAtEnd a → IsAll c d → ⊥
no_stop a b c d e p all =
    let whole : c ≡ a ++ b = sym (e ∙ ap (λ (t : List ℕ). c ++ t) all.1 ∙ append-nil c) in
    let lines = ap whole_lines whole ∙ (lines_append a b p.all_whole).0 ∙ ap (λ (front : List (List ℕ)). front ++ whole_lines b) p.lines_are ∙ append_assoc p.before (codes "END" ∷ []) (whole_lines b) in
    end_is_none p.before (whole_lines b) (subst HaveNoEnd lines all.0)

one_part : (part text part' text' : List ℕ) → part ++ text ≡ part' ++ text' → StopAtEnd part ⊎ IsAll part text → StopAtEnd part' ⊎ IsAll part' text' → part ≡ part'
one_part part text part' text' e (inl p) (inl q) = one_stop part text part' text' e p q
one_part part text part' text' e (inl p) (inr q) = absurd (no_stop part text part' text' e p q)
one_part part text part' text' e (inr p) (inl q) = absurd (no_stop part' text' part text (sym e) q p)
one_part part text part' text' e (inr p) (inr q) =
    sym (ap (λ (t : List ℕ). part ++ t) p.1 ∙ append-nil part) ∙ e ∙ ap (λ (t : List ℕ). part' ++ t) q.1 ∙ append-nil part'

-- an input is cut at one place
pub one_division : (input part text part' text' : List ℕ) → Divided input part text → Divided input part' text' → (part ≡ part') × (text ≡ text')
one_division input part text part' text' d d' =
    let e : part ++ text ≡ part' ++ text' = sym d.input_is ∙ d'.input_is in
    let same = one_part part text part' text' e d.ends d'.ends in
    (same, append_cancel_left part text text' (e ∙ ap (λ (front : List ℕ). front ++ text') (sym same)))

-- What the files of a disk are after each change of what is kept.
use Rattle.std.proofs.Common.{◌≡◌, ◌≢◌, ℕ, ◌+◌, ◌<◌, ◌≤◌, zero, suc, true, false, cond, List, [], ◌∷◌, ◌++◌, length, get_or, set, take, drop, replicate, slice_get, Some, None, refl, sym, ap, ◌∙◌, subst, arith, inl, inr, ◌⊎◌}
use Rattle.std.specs.Prelude.{option_map, nat_lt, ◌==◌}
use Rattle.std.proofs.lemmas.Bool.{cases_eq, cases_order, eq-eqb, ne_eqb, lt-ltb, le-ltb}
use Rattle.std.proofs.lemmas.List.{map-append, length-append, length-map, length-set, get_or-set_same, get_or-set_other, take-append-drop}
use Rattle.std.proofs.lemmas.Option.{slice_get-get_or}
use Rattle.monitor_calls.specs.declared.files.FileName.{FileName}
use Rattle.monitor_calls.specs.FileNames.{same_name}
use Rattle.monitor_calls.specs.Pages.{zeros}
use Rattle.monitor_calls.proofs.FileNameLemmas.{same_name-true, same_name-false}
use Rattle.block_files.specs.declared.bodies.FileBody.{FileBody}
use Rattle.monitor_model.specs.Files.{file_at, blocks_of, remove, make, replace}
use Rattle.block_files.specs.Disks.{times, total}
use Rattle.block_files.specs.Rows.{Entry, pages_in, file_of, files_of, rows, body_at, with_body, without, cleared, first_places}

-- FILES

pub file_at-file_of : (pages : List (List ℕ)) (es : List Entry) (name : FileName) → file_at (files_of pages es) name ≡ option_map (λ (v : FileBody). file_of pages (name, v)) (body_at es name)
file_at-file_of pages [] name = refl
file_at-file_of pages (e ∷ es) name =
    elim (same_name e.0 name) as (λ v. same_name e.0 name ≡ v → cond v (Some (file_of pages e)) (file_at (files_of pages es) name) ≡ option_map (λ (w : FileBody). file_of pages (name, w)) (cond v (Some e.1) (body_at es name))) [
      | true ↦ λ is. ap (λ n. Some (file_of pages (n, e.1))) (same_name-true e.0 name is)
      | false ↦ λ is. file_at-file_of pages es name
    ] refl

pub remove-file_of : (pages : List (List ℕ)) (es : List Entry) (name : FileName) → files_of pages (without es name) ≡ remove (files_of pages es) name
remove-file_of pages [] name = refl
remove-file_of pages (e ∷ es) name =
    elim (same_name e.0 name) as (λ v. files_of pages (cond v es (e ∷ without es name)) ≡ cond v (files_of pages es) (file_of pages e ∷ remove (files_of pages es) name)) [
      | true ↦ refl
      | false ↦ ap (λ fs. file_of pages e ∷ fs) (remove-file_of pages es name)
    ]

pub make-file_of : (pages : List (List ℕ)) (es : List Entry) (e : Entry) → files_of pages (es ++ e ∷ []) ≡ make (files_of pages es) (file_of pages e)
make-file_of pages es e = map-append (file_of pages) es (e ∷ [])

pub blocks-rows : (pages : List (List ℕ)) (es : List Entry) → blocks_of (files_of pages es) ≡ total length (rows es)
blocks-rows pages [] = refl
blocks-rows pages (e ∷ es) = (λ i. length-map e.1.places.items (λ p. get_or pages p []) i + blocks-rows pages es i)

-- MEASURES

pub total-without : (m : List ℕ → ℕ) (es : List Entry) (name : FileName) (was : FileBody) → body_at es name ≡ Some was → total m (rows es) ≡ m was.places.items + total m (rows (without es name))
total-without m [] name was e = absurd (cc)
total-without m (f ∷ es) name was e =
    elim (same_name f.0 name) as (λ v. cond v (Some f.1) (body_at es name) ≡ Some was → total m (rows (f ∷ es)) ≡ m was.places.items + total m (rows (cond v es (f ∷ without es name)))) [
      | true ↦ λ h. let one : f.1 ≡ was = cc in subst (λ (x : FileBody). m f.1.places.items + total m (rows es) ≡ m x.places.items + total m (rows es)) one refl
      | false ↦ λ h. let r = total-without m es name was h in omega (arith, r)
    ] e

pub total-with : (m : List ℕ → ℕ) (es : List Entry) (name : FileName) (was now : FileBody) → body_at es name ≡ Some was → total m (rows (with_body es name now)) ≡ m now.places.items + total m (rows (without es name))
total-with m [] name was now e = absurd (cc)
total-with m (f ∷ es) name was now e =
    elim (same_name f.0 name) as (λ v. cond v (Some f.1) (body_at es name) ≡ Some was → total m (rows (cond v ((f.0, now) ∷ es) (f ∷ with_body es name now))) ≡ m now.places.items + total m (rows (cond v es (f ∷ without es name)))) [
      | true ↦ λ h. refl
      | false ↦ λ h. let r = total-with m es name was now h in omega (arith, r)
    ] e

pub total-make : (m : List ℕ → ℕ) (es : List Entry) (e : Entry) → total m (rows (es ++ e ∷ [])) ≡ total m (rows es) + m e.1.places.items
total-make m [] e = omega arith
total-make m (f ∷ es) e = let r = total-make m es e in omega (arith, r)

pub times-append : (p : ℕ) (a b : List ℕ) → times p (a ++ b) ≡ times p a + times p b
times-append p [] b = omega arith
times-append p (q ∷ a) b = let r = times-append p a b in omega (arith, r)

pub count_here : (q p : ℕ) (places : List ℕ) → q ≡ p → times p (q ∷ places) ≡ 1 + times p places
count_here q p places same = ap (λ b. cond b 1 0 + times p places) (eq-eqb q p same)

pub times-at : (places : List ℕ) (k p : ℕ) → slice_get places k ≡ Some p → 1 ≤ times p places
times-at [] k p e = absurd (cc)
times-at (q ∷ places) zero p e =
    let one : q ≡ p = cc in omega (arith, count_here q p places one)
times-at (q ∷ places) (suc k) p e = let r = times-at places k p e in omega (arith, r)

pub total-at : (m : List ℕ → ℕ) (es : List Entry) (name : FileName) (was : FileBody) → body_at es name ≡ Some was → m was.places.items ≤ total m (rows es)
total-at m es name was e = omega (arith, total-without m es name was e)

-- PAGES

-- pages that agree at all places of a list
pub same_pages : (pages others : List (List ℕ)) (places : List ℕ) → ((p : ℕ) → 1 ≤ times p places → get_or others p [] ≡ get_or pages p []) → pages_in others places ≡ pages_in pages places
same_pages pages others [] same = refl
same_pages pages others (q ∷ places) same =
    let here : get_or others q [] ≡ get_or pages q [] = same q (omega (arith, count_here q q places refl)) in
    (λ i. here i ∷ same_pages pages others places (λ p h. same p (omega (arith, h))) i)

pub same_files : (pages others : List (List ℕ)) (es : List Entry) → ((p : ℕ) → 1 ≤ total (times p) (rows es) → get_or others p [] ≡ get_or pages p []) → files_of others es ≡ files_of pages es
same_files pages others [] same = refl
same_files pages others (e ∷ es) same =
    let here = same_pages pages others e.1.places.items (λ p h. same p (omega (arith, h))) in
    (λ i. record { name = e.0; code = e.1.code; pages = here i } ∷ same_files pages others es (λ p h. same p (omega (arith, h))) i)

-- the file of the name alone changes, if the pages of the others stay
pub replace-file_of : (pages others : List (List ℕ)) (es : List Entry) (name : FileName) (was now : FileBody) → body_at es name ≡ Some was → ((p : ℕ) → 1 ≤ total (times p) (rows (without es name)) → get_or others p [] ≡ get_or pages p []) → files_of others (with_body es name now) ≡ replace (files_of pages es) name (file_of others (name, now))
replace-file_of pages others [] name was now e same = absurd (cc)
replace-file_of pages others (f ∷ es) name was now e same =
    elim (same_name f.0 name) as (λ v. same_name f.0 name ≡ v → cond v (Some f.1) (body_at es name) ≡ Some was → ((p : ℕ) → 1 ≤ total (times p) (rows (cond v es (f ∷ without es name))) → get_or others p [] ≡ get_or pages p []) → files_of others (cond v ((f.0, now) ∷ es) (f ∷ with_body es name now)) ≡ cond v (file_of others (name, now) ∷ files_of pages es) (file_of pages f ∷ replace (files_of pages es) name (file_of others (name, now)))) [
      | true ↦ λ is h s. (λ i. file_of others (same_name-true f.0 name is i, now) ∷ same_files pages others es s i)
      | false ↦ λ is h s.
          let here = same_pages pages others f.1.places.items (λ p c. s p (omega (arith, c))) in
          (λ i. record { name = f.0; code = f.1.code; pages = here i } ∷ replace-file_of pages others es name was now h (λ p c. s p (omega (arith, c))) i)
    ] refl e same

pub length-cleared : (pages : List (List ℕ)) (places : List ℕ) → length (cleared pages places) ≡ length pages
length-cleared pages [] = refl
length-cleared pages (p ∷ places) = length-cleared (set pages p zeros) places ∙ length-set pages p zeros

pub cleared_other : (pages : List (List ℕ)) (places : List ℕ) (q : ℕ) → times q places ≡ 0 → get_or (cleared pages places) q [] ≡ get_or pages q []
cleared_other pages [] q e = refl
cleared_other pages (p ∷ places) q e =
    let ne : q ≢ p = λ same. omega (arith, count_here p q places (sym same), e) in
    cleared_other (set pages p zeros) places q (omega (arith, e)) ∙ get_or-set_other pages p q zeros [] ne

-- what is zeros stays zeros
cleared_stays : (pages : List (List ℕ)) (places : List ℕ) (q : ℕ) → q < length pages → get_or pages q [] ≡ zeros → get_or (cleared pages places) q [] ≡ zeros
cleared_stays pages [] q lt e = e
cleared_stays pages (p ∷ places) q lt e =
    let lt2 : q < length (set pages p zeros) = omega (arith, lt, length-set pages p zeros) in
    cleared_stays (set pages p zeros) places q lt2 (by (cases_eq q p)) where
      by : (q ≡ p) ⊎ (q ≡ p → ⊥) → get_or (set pages p zeros) q [] ≡ zeros
      by (inl same) = subst (λ x. get_or (set pages x zeros) q [] ≡ zeros) same (get_or-set_same pages q zeros [] lt)
      by (inr ne) = get_or-set_other pages p q zeros [] ne ∙ e

pub cleared_all : (pages : List (List ℕ)) (places : List ℕ) → ((p : ℕ) → 1 ≤ times p places → p < length pages) → pages_in (cleared pages places) places ≡ replicate (length places) zeros
cleared_all pages [] below = refl
cleared_all pages (p ∷ places) below =
    let lt : p < length pages = below p (omega (arith, count_here p p places refl)) in
    let lt2 : p < length (set pages p zeros) = omega (arith, lt, length-set pages p zeros) in
    let here : get_or (cleared (set pages p zeros) places) p [] ≡ zeros = cleared_stays (set pages p zeros) places p lt2 (get_or-set_same pages p zeros [] lt) in
    (λ i. here i ∷ cleared_all (set pages p zeros) places (λ q h. let b = below q (omega (arith, h)) in omega (arith, b, length-set pages p zeros)) i)

-- one page of a file that has each place once
pub set_page : (pages : List (List ℕ)) (places : List ℕ) (k p : ℕ) (page : List ℕ) → slice_get places k ≡ Some p → times p places ≤ 1 → p < length pages → pages_in (set pages p page) places ≡ set (pages_in pages places) k page
set_page pages [] k p page e once lt = absurd (cc)
set_page pages (q ∷ places) zero p page e once lt =
    let one : q ≡ p = cc in
    let gone : times p places ≡ 0 = omega (arith, count_here q p places one, once) in
    let here : get_or (set pages p page) q [] ≡ page = subst (λ x. get_or (set pages p page) x [] ≡ page) (sym one) (get_or-set_same pages p page [] lt) in
    let rest = same_pages pages (set pages p page) places (λ x h. get_or-set_other pages p x page [] (λ same. omega (arith, h, gone, ap (λ y. times y places) same))) in
    (λ i. here i ∷ rest i)
set_page pages (q ∷ places) (suc k) p page e once lt =
    let there = times-at places k p e in
    let ne : q ≢ p = λ same. omega (arith, count_here q p places same, once, there) in
    (λ i. get_or-set_other pages p q page [] ne i ∷ set_page pages places k p page e (omega (arith, once)) lt i)

pub count_at_index : (places : List ℕ) (i : ℕ) → i < length places → 1 ≤ times (get_or places i 0) places
count_at_index places i lt = times-at places i (get_or places i 0) (slice_get-get_or places i 0 lt)

pub other_stays : (es : List Entry) (name other : FileName) → other ≢ name → body_at (without es name) other ≡ body_at es other
other_stays [] name other ne = refl
other_stays (f ∷ es) name other ne =
    elim (same_name f.0 name) as (λ b. same_name f.0 name ≡ b → body_at (cond b es (f ∷ without es name)) other ≡ cond (same_name f.0 other) (Some f.1) (body_at es other)) [
      | true ↦ λ is. ap (λ b. cond b (Some f.1) (body_at es other)) (sym (same_name-false f.0 other (λ e. ne (sym e ∙ same_name-true f.0 name is))))
      | false ↦ λ is. ap (λ r. cond (same_name f.0 other) (Some f.1) r) (other_stays es name other ne)
    ] refl

pub without_none : (es : List Entry) (name : FileName) → body_at es name ≡ None → without es name ≡ es
without_none [] name e = refl
without_none (f ∷ es) name e =
    elim (same_name f.0 name) as (λ b. cond b (Some f.1) (body_at es name) ≡ None → cond b es (f ∷ without es name) ≡ f ∷ es) [
      | true ↦ λ h. absurd (cc)
      | false ↦ λ h. ap (λ xs. f ∷ xs) (without_none es name h)
    ] e

pub length-places : (n : ℕ) → length (first_places n) ≡ n
length-places zero = refl
length-places (suc n) = let r = length-places n in omega (arith, r, length-append (first_places n) (n ∷ []))

pub times-places : (n p : ℕ) → times p (first_places n) ≡ cond (nat_lt p n) 1 0
times-places zero p = sym (ap (λ b. cond {A = ℕ} b 1 0) (le-ltb p 0 (omega arith)))
times-places (suc n) p = times-append p (first_places n) (n ∷ []) ∙ ap (λ c. c + (cond (n == p) 1 0 + 0)) (times-places n p) ∙ by (cases_order p n) where
  by : (p ≡ n) ⊎ ((p < n) ⊎ (n < p)) → cond (nat_lt p n) 1 0 + (cond (n == p) 1 0 + 0) ≡ cond (nat_lt p (suc n)) 1 0
  by (inl e) = omega (arith, ap (λ b. cond {A = ℕ} b 1 0) (eq-eqb n p (sym e)), ap (λ b. cond {A = ℕ} b 1 0) (le-ltb p n (omega (arith, e))), ap (λ b. cond {A = ℕ} b 1 0) (lt-ltb p (suc n) (omega (arith, e))))
  by (inr (inl lt)) = omega (arith, ap (λ b. cond {A = ℕ} b 1 0) (ne_eqb n p (λ e. omega (arith, e, lt))), ap (λ b. cond {A = ℕ} b 1 0) (lt-ltb p n lt), ap (λ b. cond {A = ℕ} b 1 0) (lt-ltb p (suc n) (omega (arith, lt))))
  by (inr (inr gt)) = omega (arith, ap (λ b. cond {A = ℕ} b 1 0) (ne_eqb n p (λ e. omega (arith, e, gt))), ap (λ b. cond {A = ℕ} b 1 0) (le-ltb p n (omega (arith, gt))), ap (λ b. cond {A = ℕ} b 1 0) (le-ltb p (suc n) (omega (arith, gt))))

pub count_drop : (n : ℕ) (places : List ℕ) (p : ℕ) → times p (drop n places) ≤ times p places
count_drop n places p = omega (arith, times-append p (take n places) (drop n places), ap (times p) (take-append-drop n places))

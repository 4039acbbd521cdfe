-- The places of the pages of the files.
use Rattle.std.proofs.Common.{◌≡◌, ◌≢◌, ℕ, ◌+◌, ◌<◌, ◌≤◌, zero, suc, true, false, cond, List, [], ◌∷◌, length, slice_get, Some, None, refl, sym, ap, ◌∙◌, subst, arith, inl, inr, ◌⊎◌}
use Rattle.std.specs.Prelude.{Option, option_map}
use Rattle.std.proofs.lemmas.Bool.{cases_eq, ne_eqb, cases_lt, lt-ltb}
use Rattle.monitor_calls.specs.declared.files.FileName.{FileName}
use Rattle.monitor_calls.specs.FileNames.{same_name}
use Rattle.monitor_calls.proofs.FileNameLemmas.{same_name-false, same_name-self, cases_name}
use Rattle.block_files.specs.declared.bodies.FileBody.{FileBody}
use Rattle.monitor_model.specs.Files.{file_at, AreApart}
use Rattle.block_files.specs.Disks.{times, total, IsDisk, place_at, place_in, place_of, IsLaidOut}
use Rattle.block_files.specs.Rows.{Entry, file_of, files_of, rows, body_at, without, disk_of}
use Rattle.block_files.proofs.RowLemmas.{file_at-file_of, total-without, total-at, times-at, count_here, other_stays}
use Rattle.block_files.proofs.DiskLemmas.{all_once, free_below, row_below}

pub place_in-file_of : (pages : List (List ℕ)) (es : List Entry) (name : FileName) (block : ℕ) (v : FileBody) → Some v ≡ body_at es name → place_in (files_of pages es) (rows es) name block ≡ place_at v.places.items block
place_in-file_of pages [] name block v e = absurd (cc)
place_in-file_of pages (f ∷ es) name block v e =
    elim (same_name f.0 name) as (λ b. Some v ≡ cond b (Some f.1) (body_at es name) → cond b (place_at f.1.places.items block) (place_in (files_of pages es) (rows es) name block) ≡ place_at v.places.items block) [
      | true ↦ λ h. let one : f.1 ≡ v = cc in ap (λ (x : FileBody). place_at x.places.items block) one
      | false ↦ λ h. place_in-file_of pages es name block v h
    ] e

pub place_in-none : (pages : List (List ℕ)) (es : List Entry) (name : FileName) (block : ℕ) → None ≡ body_at es name → place_in (files_of pages es) (rows es) name block ≡ None
place_in-none pages [] name block e = refl
place_in-none pages (f ∷ es) name block e =
    elim (same_name f.0 name) as (λ b. None ≡ cond b (Some f.1) (body_at es name) → cond b (place_at f.1.places.items block) (place_in (files_of pages es) (rows es) name block) ≡ None) [
      | true ↦ λ h. absurd (cc)
      | false ↦ λ h. place_in-none pages es name block h
    ] e

-- the place of a block is that of a page
record IsAt (es : List Entry) (name : FileName) (block p : ℕ) : Type 0 where
  was : FileBody
  there : body_at es name ≡ Some was
  index : ℕ
  is : block ≡ suc index
  at : slice_get was.places.items index ≡ Some p

told : (pages : List (List ℕ)) (es : List Entry) (name : FileName) (block p : ℕ) → place_in (files_of pages es) (rows es) name block ≡ Some p → IsAt es name block p
told pages es name block p e = by (body_at es name) refl where
  at_block : (v : FileBody) (b : ℕ) → block ≡ b → body_at es name ≡ Some v → place_at v.places.items b ≡ Some p → IsAt es name block p
  at_block v zero is there h = absurd (cc)
  at_block v (suc k) is there h = record { was = v; there = there; index = k; is = is; at = h }

  by : (o : Option FileBody) → body_at es name ≡ o → IsAt es name block p
  by None there = absurd (let clash : None ≡ Some p = sym (place_in-none pages es name block (sym there)) ∙ e in cc)
  by (Some v) there = at_block v block refl there (sym (place_in-file_of pages es name block v (sym there)) ∙ e)

-- a place that is once in a list has one index
one_index : (places : List ℕ) (i j p : ℕ) → slice_get places i ≡ Some p → slice_get places j ≡ Some p → times p places ≤ 1 → i ≡ j
one_index [] i j p a b once = absurd (cc)
one_index (q ∷ places) zero zero p a b once = refl
one_index (q ∷ places) zero (suc j) p a b once = absurd (omega (arith, once, times-at places j p b, count_here q p places (let one : q ≡ p = cc in one)))
one_index (q ∷ places) (suc i) zero p a b once = absurd (omega (arith, once, times-at places i p a, count_here q p places (let one : q ≡ p = cc in one)))
one_index (q ∷ places) (suc i) (suc j) p a b once = ap suc (one_index places i j p a b (omega (arith, once)))

-- a place that is in a list has an index
index_of : (places : List ℕ) (p : ℕ) → 1 ≤ times p places → (k : ℕ) × (slice_get places k ≡ Some p)
index_of [] p h = absurd (omega (arith, h))
index_of (q ∷ places) p h = by (cases_eq q p) (λ c. index_of places p c) where
  by : (q ≡ p) ⊎ (q ≡ p → ⊥) → (1 ≤ times p places → (k : ℕ) × (slice_get places k ≡ Some p)) → (k : ℕ) × (slice_get (q ∷ places) k ≡ Some p)
  by (inl same) rest = (zero, ap Some same)
  by (inr ne) rest = let r = rest (omega (arith, h, ap (λ b. cond {A = ℕ} b 1 0) (ne_eqb q p ne))) in (suc r.0, r.1)

-- and one in the places of some file is the place of a block
told_by : (pages : List (List ℕ)) (es : List Entry) (p : ℕ) → AreApart (files_of pages es) → 1 ≤ total (times p) (rows es) → (name : FileName) × ((v : FileBody) × ((k : ℕ) × ((body_at es name ≡ Some v) × (slice_get v.places.items k ≡ Some p))))
told_by pages [] p apart h = absurd (omega (arith, h))
told_by pages (f ∷ es) p apart h = by (cases_lt 0 (times p f.1.places.items)) (λ c. told_by pages es p apart.1 c) where
  by : (0 < times p f.1.places.items) ⊎ (times p f.1.places.items ≤ 0) → (1 ≤ total (times p) (rows es) → (name : FileName) × ((v : FileBody) × ((k : ℕ) × ((body_at es name ≡ Some v) × (slice_get v.places.items k ≡ Some p))))) → (name : FileName) × ((v : FileBody) × ((k : ℕ) × ((body_at (f ∷ es) name ≡ Some v) × (slice_get v.places.items k ≡ Some p))))
  by (inl some) rest =
      let at = index_of f.1.places.items p (omega (arith, some)) in
      (f.0, (f.1, (at.0, (ap (λ b. cond b (Some f.1) (body_at es f.0)) (same_name-self f.0), at.1))))
  by (inr none) rest =
      let r = rest (omega (arith, h, none)) in
      let ne : f.0 ≢ r.0 = λ same. let clash : Some (file_of pages (r.0, r.1.0)) ≡ None = sym (ap (option_map (λ (v : FileBody). file_of pages (r.0, v))) r.1.1.1.0) ∙ sym (file_at-file_of pages es r.0) ∙ ap (file_at (files_of pages es)) (sym same) ∙ apart.0 in absurd (cc) in
      (r.0, (r.1.0, (r.1.1.0, (ap (λ b. cond b (Some f.1) (body_at es r.0)) (same_name-false f.0 r.0 ne) ∙ r.1.1.1.0, r.1.1.1.1))))

module _ (pages : List (List ℕ)) (free : List ℕ) (es : List Entry) (d : IsDisk (disk_of pages free es)) where
  in_row : (name : FileName) (block p : ℕ) (a : IsAt es name block p) → 1 ≤ times p a.was.places.items
  in_row name block p a = times-at a.was.places.items a.index p a.at

  pub laid_out : IsLaidOut (disk_of pages free es)
  laid_out =
      record {
        below = λ name block p e. let a = told pages es name block p e in row_below pages free es d p (omega (arith, in_row name block p a, total-at (times p) es name a.was a.there));
        apart = λ name other block at p e h. let a = told pages es name block p e in let b = told pages es other at p h in differ name other block at p a b (cases_name other name);
        free_below = λ k p e. free_below pages free es d p (times-at free k p e);
        free_once = λ k at p e h. one_index free k at p e h (omega (arith, all_once pages free es d p));
        all = λ p lt. let one : times p free + total (times p) (rows es) ≡ 1 = d.once p ∙ ap (λ b. cond {A = ℕ} b 1 0) (lt-ltb p (length pages) lt) in found p (cases_lt 0 (times p free)) one;
        free = λ name block k p e h. let a = told pages es name block p h in omega (arith, times-at free k p e, in_row name block p a, total-at (times p) es name a.was a.there, all_once pages free es d p);
      } where
        differ : (name other : FileName) (block at p : ℕ) → IsAt es name block p → IsAt es other at p → (other ≡ name) ⊎ (other ≢ name) → (name ≡ other) × (block ≡ at)
        differ name other block at p a b (inl same) =
            let one : a.was ≡ b.was = let two : Some a.was ≡ Some b.was = sym a.there ∙ ap (body_at es) (sym same) ∙ b.there in cc in
            let here : slice_get a.was.places.items b.index ≡ Some p = subst (λ (v : FileBody). slice_get v.places.items b.index ≡ Some p) (sym one) b.at in
            (sym same, a.is ∙ ap suc (one_index a.was.places.items a.index b.index p a.at here (omega (arith, all_once pages free es d p, total-at (times p) es name a.was a.there))) ∙ sym b.is)
        differ name other block at p a b (inr ne) =
            let rest = total-at (times p) (without es name) other b.was (other_stays es name other ne ∙ b.there) in
            absurd (omega (arith, in_row name block p a, in_row other at p b, rest, total-without (times p) es name a.was a.there, all_once pages free es d p))

        found : (p : ℕ) → (0 < times p free) ⊎ (times p free ≤ 0) → times p free + total (times p) (rows es) ≡ 1 → ((k : ℕ) × (slice_get free k ≡ Some p)) ⊎ ((name : FileName) × ((block : ℕ) × (place_of (disk_of pages free es) name block ≡ Some p)))
        found p (inl some) one = inl (index_of free p (omega (arith, some)))
        found p (inr none) one =
            let r = told_by pages es p d.apart (omega (arith, one, none)) in
            inr (r.0, (suc r.1.1.0, place_in-file_of pages es r.0 (suc r.1.1.0) r.1.0 (sym r.1.1.1.0) ∙ r.1.1.1.1))

  pub stored_below : (name : FileName) (v : FileBody) (block p : ℕ) → body_at es name ≡ Some v → place_at v.places.items block ≡ Some p → p < length pages
  stored_below name v zero p there e = absurd (cc)
  stored_below name v (suc k) p there e = row_below pages free es d p (omega (arith, times-at v.places.items k p e, total-at (times p) es name v there))

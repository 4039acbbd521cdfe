-- What is kept of a disk after each change.
use Rattle.std.proofs.Common.{◌≡◌, ◌≢◌, ℕ, ◌+◌, ◌<◌, ◌≤◌, ◌^◌, Bool, true, false, cond, List, [], ◌∷◌, ◌++◌, length, zero, suc, set, take, drop, replicate, Some, None, refl, sym, ap, ◌∙◌, subst, arith, inl, inr, ◌⊎◌, Result, Ok, Err}
use Rattle.std.specs.Prelude.{is_ok, IsOk, not, ◌&&◌, nat_lt}
use Rattle.std.proofs.lemmas.List.{length-set, take_at, length-replicate, drop_all, append-nil}
use Rattle.monitor_calls.specs.declared.files.FileName.{FileName}
use Rattle.monitor_calls.specs.FileNames.{same_name}
use Rattle.monitor_calls.specs.Pages.{zeros}
use Rattle.monitor_calls.proofs.FileNameLemmas.{cases_name, same_name-false}
use Rattle.block_files.specs.declared.bodies.FileBody.{FileBody}
use Rattle.monitor_model.specs.Files.{is_file, remove, make, empty_file, renamed, the_file, replace, with_page}
use Rattle.block_files.specs.Disks.{IsDisk, place_at}
use Rattle.block_files.specs.Rows.{Entry, file_of, files_of, rows, body_at, with_body, without, first_places, cleared, disk_of, IsKept, Grows, pages_in}
use Rattle.block_files.proofs.RowLemmas.{total-at, other_stays, without_none, length-places, times-places, make-file_of, remove-file_of, length-cleared}
use Rattle.block_files.proofs.ReadLemmas.{no_body, the_file-file_of}
use Rattle.block_files.proofs.DiskLemmas.{made, taken_out, gone, moved, disk_grown, disk_put, files_put}

pub is_ok_true : {T E : Type 0} (r : Result T E) → IsOk r → is_ok r ≡ true
is_ok_true (Ok x) h = refl
is_ok_true (Err x) h = h

-- a slice that was lent whole
pub whole_slice : {X : Type 0} (xs ys : List X) (n : ℕ) → length xs ≡ length ys → n ≡ length ys → take n (xs ++ drop (length xs) ys) ≡ xs
whole_slice xs ys n same is = ap (λ zs. take n (xs ++ zs)) (drop_all (length xs) ys (omega (arith, same))) ∙ take_at xs [] n (same ∙ sym is)

same_files_of : (pages : List (List ℕ)) (es : List Entry) (name : FileName) (was now : FileBody) → body_at es name ≡ Some was → now.code ≡ was.code → now.places.items ≡ was.places.items → files_of pages (with_body es name now) ≡ files_of pages es
same_files_of pages [] name was now e c p = refl
same_files_of pages (f ∷ es) name was now e c p =
    elim (same_name f.0 name) as (λ b. cond b (Some f.1) (body_at es name) ≡ Some was → files_of pages (cond b ((f.0, now) ∷ es) (f ∷ with_body es name now)) ≡ file_of pages f ∷ files_of pages es) [
      | true ↦ λ h. let one : was ≡ f.1 = cc in
          let c2 : now.code ≡ f.1.code = c ∙ ap (λ (x : FileBody). x.code) one in
          let p2 : now.places.items ≡ f.1.places.items = p ∙ ap (λ (x : FileBody). x.places.items) one in
          (λ i. record { name = f.0; code = c2 i; pages = pages_in pages (p2 i) } ∷ files_of pages es)
      | false ↦ λ h. ap (λ xs. file_of pages f ∷ xs) (same_files_of pages es name was now h c p)
    ] e

same_rows : (es : List Entry) (name : FileName) (was now : FileBody) → body_at es name ≡ Some was → now.places.items ≡ was.places.items → rows (with_body es name now) ≡ rows es
same_rows [] name was now e p = refl
same_rows (f ∷ es) name was now e p =
    elim (same_name f.0 name) as (λ b. cond b (Some f.1) (body_at es name) ≡ Some was → rows (cond b ((f.0, now) ∷ es) (f ∷ with_body es name now)) ≡ f.1.places.items ∷ rows es) [
      | true ↦ λ h. let one : was ≡ f.1 = cc in ap (λ xs. xs ∷ rows es) (p ∙ ap (λ (x : FileBody). x.places.items) one)
      | false ↦ λ h. ap (λ xs. f.1.places.items ∷ xs) (same_rows es name was now h p)
    ] e

pub kept_new : (n : ℕ) (pages : List (List ℕ)) (room : ℕ) → pages ≡ replicate n zeros → n < 2 ^ 16 → n ≤ room → IsKept pages (first_places n) room []
kept_new n pages room is small fits =
    let len : length pages ≡ n = ap (length {A = List ℕ}) is ∙ length-replicate n zeros in
    record {
      disk = record {
        apart = tt;
        once = λ p. let c : cond {A = ℕ} (nat_lt p (length pages)) 1 0 ≡ cond (nat_lt p n) 1 0 = ap (λ k. cond {A = ℕ} (nat_lt p k) 1 0) len in omega (arith, times-places n p, c);
        all = omega (arith, length-places n, len);
      };
      small = omega (arith, small, len);
      room_for_all = omega (arith, fits, len);
    }

module _ (pages : List (List ℕ)) (free : List ℕ) (room : ℕ) (es : List Entry) (k : IsKept pages free room es) where
  pub kept_made : (name : FileName) (w : FileBody) → body_at es name ≡ None → w.places.items ≡ [] → IsKept pages free room (es ++ (name, w) ∷ [])
  kept_made name w none empty = record { disk = made pages free es k.disk name w none empty; small = k.small; room_for_all = k.room_for_all }

  pub kept_taken : (name : FileName) (v : FileBody) (more : ℕ) → room ≤ more → body_at es name ≡ Some v → IsKept pages (free ++ v.places.items) more (without es name)
  kept_taken name v more le there = record { disk = taken_out pages free es k.disk name v there; small = k.small; room_for_all = omega (arith, k.room_for_all, le) }

  pub kept_absent : (name : FileName) → body_at es name ≡ None → IsKept pages free room (without es name)
  kept_absent name none = subst (λ fs. IsKept pages free room fs) (sym (without_none es name none)) k

  pub kept_gone : (name : FileName) → body_at (without es name) name ≡ None
  kept_gone name = gone pages free es k.disk name

  pub fresh : (old new : FileName) → (is_file (files_of pages es) new && not (same_name new old)) ≡ false → body_at (without es old) new ≡ None
  fresh old new e = by (cases_name new old) where
    turn : (a b : Bool) → b ≡ false → (a && not b) ≡ false → a ≡ false
    turn true true is h = absurd (cc)
    turn true false is h = absurd (cc)
    turn false b is h = refl

    by : (new ≡ old) ⊎ (new ≢ old) → body_at (without es old) new ≡ None
    by (inl same) = subst (λ n. body_at (without es n) new ≡ None) same (gone pages free es k.disk new)
    by (inr ne) = other_stays es old new ne ∙ no_body pages es new (turn (is_file (files_of pages es) new) (same_name new old) (same_name-false new old ne) e)

  pub kept_moved : (old new : FileName) (v w : FileBody) → body_at es old ≡ Some v → body_at (without es old) new ≡ None → w.places.items ≡ v.places.items → IsKept pages free room (without es old ++ (new, w) ∷ [])
  kept_moved old new v w there none same = record { disk = moved pages free es k.disk old new v w there none same; small = k.small; room_for_all = k.room_for_all }

  pub kept_grown : (name : FileName) (fs : List Entry) (from : ℕ) → Grows name (drop from free) es fs → IsKept (cleared pages (drop from free)) (take from free) room fs
  kept_grown name fs from g = record { disk = disk_grown pages free es k.disk name fs from g; small = omega (arith, k.small, length-cleared pages (drop from free)); room_for_all = omega (arith, k.room_for_all, length-cleared pages (drop from free)) }

  pub kept_grown_as : (name : FileName) (fs : List Entry) (from : ℕ) (ps : List (List ℕ)) (left : List ℕ) (cap : ℕ) → Grows name (drop from free) es fs → ps ≡ cleared pages (drop from free) → left ≡ take from free → cap ≡ room → IsKept ps left cap fs
  kept_grown_as name fs from ps left cap g a b c =
      subst (λ x. IsKept x left cap fs) (sym a) (subst (λ x. IsKept (cleared pages (drop from free)) x cap fs) (sym b) (subst (λ x. IsKept (cleared pages (drop from free)) (take from free) x fs) (sym c) (kept_grown name fs from g)))

  pub kept_put : (name : FileName) (v : FileBody) (block p : ℕ) (page : List ℕ) → body_at es name ≡ Some v → place_at v.places.items block ≡ Some p → IsKept (set pages p page) free room es
  kept_put name v zero p page there at = absurd (cc)
  kept_put name v (suc n) p page there at = record { disk = disk_put pages free es k.disk name v n p page there at; small = omega (arith, k.small, length-set pages p page); room_for_all = omega (arith, k.room_for_all, length-set pages p page) }

  pub file_put_at : (name : FileName) (v : FileBody) (block p : ℕ) (page : List ℕ) → body_at es name ≡ Some v → place_at v.places.items block ≡ Some p → files_of (set pages p page) es ≡ replace (files_of pages es) name (with_page (the_file (files_of pages es) name) block page)
  file_put_at name v zero p page there at = absurd (cc)
  file_put_at name v (suc n) p page there at = files_put pages free es k.disk name v n p page there at

  pub kept_same : (name : FileName) (fs : List Entry) → Grows name [] es fs → (IsKept pages free room fs) × (disk_of pages free fs ≡ disk_of pages free es)
  kept_same name fs g =
      let same : disk_of pages free fs ≡ disk_of pages free es =
      ap (disk_of pages free) g.entries ∙ (λ i. record { blocks = length pages; files = same_files_of pages es name g.was g.now g.there g.code (g.places ∙ append-nil g.was.places.items) i; places = same_rows es name g.was g.now g.there (g.places ∙ append-nil g.was.places.items) i; free = free }) in
      (record { disk = subst IsDisk (sym same) k.disk; small = k.small; room_for_all = k.room_for_all }, same)

pub file_made : (pages : List (List ℕ)) (es : List Entry) (name : FileName) (w : FileBody) (code : ℕ) → w.places.items ≡ [] → w.code ≡ code → files_of pages (es ++ (name, w) ∷ []) ≡ make (files_of pages es) (empty_file name code)
file_made pages es name w code empty is =
    make-file_of pages es (name, w) ∙ (λ i. make (files_of pages es) (record { name = name; code = is i; pages = pages_in pages (empty i) }))

pub file_moved : (pages : List (List ℕ)) (es : List Entry) (old new : FileName) (v w : FileBody) (code : ℕ) → body_at es old ≡ Some v → w.places.items ≡ v.places.items → w.code ≡ code → files_of pages (without es old ++ (new, w) ∷ []) ≡ make (remove (files_of pages es) old) (renamed (the_file (files_of pages es) old) new code)
file_moved pages es old new v w code there same is =
    make-file_of pages (without es old) (new, w) ∙ (λ i. make (remove-file_of pages es old i) (record { name = new; code = is i; pages = pages_in pages (same i) })) ∙ ap (λ f. make (remove (files_of pages es) old) (renamed f new code)) (sym (the_file-file_of pages es old v (sym there)))

-- what a file gives back fits in the free list
pub free_room : (pages : List (List ℕ)) (free : List ℕ) (room : ℕ) (es : List Entry) → IsKept pages free room es → (name : FileName) (v : FileBody) → body_at es name ≡ Some v → length free + length v.places.items ≤ room
free_room pages free room es k name v there = omega (arith, k.disk.all, total-at length es name v there, k.room_for_all)

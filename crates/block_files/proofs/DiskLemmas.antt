-- What stays true of a disk.
use Rattle.std.proofs.Common.{◌≡◌, ℕ, ◌+◌, ◌-◌, ◌<◌, ◌≤◌, suc, true, false, cond, List, [], ◌∷◌, ◌++◌, length, get_or, set, take, drop, replicate, slice_get, Some, None, refl, sym, ap, ◌∙◌, subst, arith, inl, inr, ◌⊎◌}
use Rattle.std.specs.Prelude.{Option, option_map, nat_lt}
use Rattle.std.proofs.lemmas.Bool.{le-ltb, cases_lt}
use Rattle.std.proofs.lemmas.List.{map-append, length-append, length-set, get_or-set_other, take-append-drop}
use Rattle.monitor_calls.specs.declared.files.FileName.{FileName}
use Rattle.monitor_calls.specs.FileNames.{same_name}
use Rattle.monitor_calls.specs.Pages.{zeros}
use Rattle.block_files.specs.declared.bodies.FileBody.{FileBody}
use Rattle.monitor_model.specs.Files.{file_at, replace, grown, with_page, the_file, AreApart}
use Rattle.block_files.specs.Disks.{times, total, IsDisk}
use Rattle.block_files.specs.Rows.{Entry, pages_in, file_of, files_of, rows, body_at, with_body, without, cleared, disk_of, Grows}
use Rattle.block_files.proofs.RowLemmas.{file_at-file_of, remove-file_of, make-file_of, total-without, total-with, total-make, total-at, times-append, times-at, replace-file_of, same_pages, length-cleared, cleared_other, cleared_all, set_page}
use Rattle.monitor_model.proofs.FileLemmas.{apart_make, apart_remove, apart_replace, removed_gone}
use Rattle.block_files.proofs.ReadLemmas.{the_file-file_of}

-- a place is at most once in all, and only a place of the disk is in one
pub once_at_most : (n p : ℕ) → cond (nat_lt p n) 1 0 ≤ 1
once_at_most n p = elim (nat_lt p n) as (λ v. cond v 1 0 ≤ 1) [ true ↦ omega arith | false ↦ omega arith ]

pub below_from_once : (n p : ℕ) → 1 ≤ cond (nat_lt p n) 1 0 → p < n
below_from_once n p h = by (cases_lt p n) where
  by : (p < n) ⊎ (n ≤ p) → p < n
  by (inl lt) = lt
  by (inr ge) = absurd (omega (arith, ap (λ b. cond {A = ℕ} b 1 0) (le-ltb p n ge), h))

module _ (pages : List (List ℕ)) (free : List ℕ) (es : List Entry) (d : IsDisk (disk_of pages free es)) where
  pub all_once : (p : ℕ) → times p free + total (times p) (rows es) ≤ 1
  all_once p = omega (arith, d.once p, once_at_most (length pages) p)

  pub free_below : (p : ℕ) → 1 ≤ times p free → p < length pages
  free_below p h = below_from_once (length pages) p (omega (arith, h, d.once p))

  pub row_below : (p : ℕ) → 1 ≤ total (times p) (rows es) → p < length pages
  row_below p h = below_from_once (length pages) p (omega (arith, h, d.once p))

  pub made : (name : FileName) (w : FileBody) → body_at es name ≡ None → w.places.items ≡ [] → IsDisk (disk_of pages free (es ++ (name, w) ∷ []))
  made name w none empty =
      record {
        apart = subst AreApart (sym (make-file_of pages es (name, w))) (apart_make (files_of pages es) (file_of pages (name, w)) d.apart (file_at-file_of pages es name ∙ ap (option_map (λ (v : FileBody). file_of pages (name, v))) none));
        once = λ p. let c : times p w.places.items ≡ 0 = ap (times p) empty in omega (arith, d.once p, total-make (times p) es (name, w), c);
        all = let c : length w.places.items ≡ 0 = ap (length {A = ℕ}) empty in omega (arith, d.all, total-make length es (name, w), c);
      }

  pub taken_out : (name : FileName) (v : FileBody) → body_at es name ≡ Some v → IsDisk (disk_of pages (free ++ v.places.items) (without es name))
  taken_out name v there =
      record {
        apart = subst AreApart (sym (remove-file_of pages es name)) (apart_remove (files_of pages es) name d.apart);
        once = λ p. omega (arith, d.once p, total-without (times p) es name v there, times-append p free v.places.items);
        all = omega (arith, d.all, total-without length es name v there, length-append free v.places.items);
      }

  pub gone : (name : FileName) → body_at (without es name) name ≡ None
  gone name = none_shown (without es name) (ap (λ fs. file_at fs name) (remove-file_of pages es name) ∙ removed_gone (files_of pages es) name d.apart) where
    none_shown : (fs : List Entry) → file_at (files_of pages fs) name ≡ None → body_at fs name ≡ None
    none_shown fs e = by (body_at fs name) (sym (file_at-file_of pages fs name) ∙ e) where
      by : (o : Option FileBody) → option_map (λ (v : FileBody). file_of pages (name, v)) o ≡ None → o ≡ None
      by None e = refl
      by (Some v) e = absurd (cc)

  pub moved : (name other : FileName) (v w : FileBody) → body_at es name ≡ Some v → body_at (without es name) other ≡ None → w.places.items ≡ v.places.items → IsDisk (disk_of pages free (without es name ++ (other, w) ∷ []))
  moved name other v w there none same =
      record {
        apart = subst AreApart (sym (make-file_of pages (without es name) (other, w))) (apart_make (files_of pages (without es name)) (file_of pages (other, w)) (subst AreApart (sym (remove-file_of pages es name)) (apart_remove (files_of pages es) name d.apart)) (file_at-file_of pages (without es name) other ∙ ap (option_map (λ (x : FileBody). file_of pages (other, x))) none));
        once = λ p. let c : times p w.places.items ≡ times p v.places.items = ap (times p) same in omega (arith, d.once p, total-without (times p) es name v there, total-make (times p) (without es name) (other, w), c);
        all = let c : length w.places.items ≡ length v.places.items = ap (length {A = ℕ}) same in omega (arith, d.all, total-without length es name v there, total-make length (without es name) (other, w), c);
      }

  count_taken : (from p : ℕ) → times p (take from free) + times p (drop from free) ≡ times p free
  count_taken from p = sym (times-append p (take from free) (drop from free)) ∙ ap (times p) (take-append-drop from free)

  length_taken : (from : ℕ) → length (take from free) + length (drop from free) ≡ length free
  length_taken from = sym (length-append (take from free) (drop from free)) ∙ ap (length {A = ℕ}) (take-append-drop from free)

  module _ (name : FileName) (fs : List Entry) (from : ℕ) (g : Grows name (drop from free) es fs) where
    taken : List ℕ
    taken = drop from free

    others : List (List ℕ)
    others = cleared pages (drop from free)

    -- a page of a file is in no place that is taken
    kept : (q : ℕ) → 1 ≤ total (times q) (rows es) → get_or (cleared pages (drop from free)) q [] ≡ get_or pages q []
    kept q h = cleared_other pages (drop from free) q (omega (arith, all_once q, count_taken from q, h))

    file_grown : file_of (cleared pages (drop from free)) (name, g.now) ≡ grown (the_file (files_of pages es) name) (length (drop from free))
    file_grown =
        let old = the_file-file_of pages es name g.was (sym g.there) in
        let front : pages_in (cleared pages (drop from free)) g.was.places.items ≡ pages_in pages g.was.places.items =
        same_pages pages (cleared pages (drop from free)) g.was.places.items (λ q h. kept q (omega (arith, h, total-at (times q) es name g.was g.there))) in
        let back : pages_in (cleared pages (drop from free)) (drop from free) ≡ replicate (length (drop from free)) zeros =
        cleared_all pages (drop from free) (λ q h. free_below q (omega (arith, h, count_taken from q))) in
        let all : pages_in (cleared pages (drop from free)) g.now.places.items ≡ pages_in pages g.was.places.items ++ replicate (length (drop from free)) zeros =
        ap (pages_in (cleared pages (drop from free))) g.places ∙ map-append (λ p. get_or (cleared pages (drop from free)) p []) g.was.places.items (drop from free) ∙ (λ i. front i ++ back i) in
        (λ i. record { name = name; code = g.code i; pages = all i }) ∙ sym (ap (λ f. grown f (length (drop from free))) old)

    pub files_grown : files_of (cleared pages (drop from free)) fs ≡ replace (files_of pages es) name (grown (the_file (files_of pages es) name) (length (drop from free)))
    files_grown =
        ap (files_of (cleared pages (drop from free))) g.entries
        ∙ replace-file_of pages (cleared pages (drop from free)) es name g.was g.now g.there (λ q h. kept q (omega (arith, h, total-without (times q) es name g.was g.there)))
        ∙ ap (replace (files_of pages es) name) file_grown

    named : (grown (the_file (files_of pages es) name) (length (drop from free))).name ≡ name
    named = ap (λ f. f.name) (sym file_grown)

    weigh_grown : (m : List ℕ → ℕ) → total m (rows fs) + m g.was.places.items ≡ total m (rows es) + m g.now.places.items
    weigh_grown m = ap (λ xs. total m (rows xs) + m g.was.places.items) g.entries ∙ omega (arith, total-with m es name g.was g.now g.there, total-without m es name g.was g.there)

    pub disk_grown : IsDisk (disk_of (cleared pages (drop from free)) (take from free) fs)
    disk_grown =
        record {
          apart = subst AreApart (sym files_grown) (apart_replace (files_of pages es) name (grown (the_file (files_of pages es) name) (length (drop from free))) named d.apart);
          once = λ p.
              let c : times p g.now.places.items ≡ times p g.was.places.items + times p (drop from free) = ap (times p) g.places ∙ times-append p g.was.places.items (drop from free) in
              let n : cond {A = ℕ} (nat_lt p (length (cleared pages (drop from free)))) 1 0 ≡ cond (nat_lt p (length pages)) 1 0 = ap (λ k. cond {A = ℕ} (nat_lt p k) 1 0) (length-cleared pages (drop from free)) in
              omega (arith, d.once p, count_taken from p, weigh_grown (times p), c, n);
          all =
              let c : length g.now.places.items ≡ length g.was.places.items + length (drop from free) = ap (length {A = ℕ}) g.places ∙ length-append g.was.places.items (drop from free) in
              omega (arith, d.all, length_taken from, weigh_grown length, c, length-cleared pages (drop from free));
        }

  module _ (name : FileName) (v : FileBody) (k p : ℕ) (page : List ℕ) (there : body_at es name ≡ Some v) (at : slice_get v.places.items k ≡ Some p) where
    pub place_below : p < length pages
    place_below = row_below p (omega (arith, times-at v.places.items k p at, total-at (times p) es name v there))

    same_entries : (fs : List Entry) → body_at fs name ≡ Some v → with_body fs name v ≡ fs
    same_entries [] e = absurd (cc)
    same_entries (f ∷ fs) e =
        elim (same_name f.0 name) as (λ b. cond b (Some f.1) (body_at fs name) ≡ Some v → cond b ((f.0, v) ∷ fs) (f ∷ with_body fs name v) ≡ f ∷ fs) [
          | true ↦ λ h. let one : f.1 ≡ v = cc in ap (λ (x : FileBody). (f.0, x) ∷ fs) (sym one)
          | false ↦ λ h. ap (λ xs. f ∷ xs) (same_entries fs h)
        ] e

    file_put : file_of (set pages p page) (name, v) ≡ with_page (the_file (files_of pages es) name) (suc k) page
    file_put =
        let all : pages_in (set pages p page) v.places.items ≡ set (pages_in pages v.places.items) (suc k - 1) page =
        set_page pages v.places.items k p page at (omega (arith, all_once p, total-at (times p) es name v there)) place_below ∙ (let back : k ≡ suc k - 1 = omega arith in ap (λ n. set (pages_in pages v.places.items) n page) back) in
        (λ i. record { name = name; code = v.code; pages = all i }) ∙ sym (ap (λ f. with_page f (suc k) page) (the_file-file_of pages es name v (sym there)))

    pub files_put : files_of (set pages p page) es ≡ replace (files_of pages es) name (with_page (the_file (files_of pages es) name) (suc k) page)
    files_put =
        ap (files_of (set pages p page)) (sym (same_entries es there))
        ∙ replace-file_of pages (set pages p page) es name v v there (λ q h. get_or-set_other pages p q page [] (λ same. omega (arith, h, ap (λ x. total (times x) (rows (without es name))) same, all_once p, total-without (times p) es name v there, times-at v.places.items k p at)))
        ∙ ap (replace (files_of pages es) name) file_put

    pub disk_put : IsDisk (disk_of (set pages p page) free es)
    disk_put =
        record {
          apart = subst AreApart (sym files_put) (apart_replace (files_of pages es) name (with_page (the_file (files_of pages es) name) (suc k) page) (ap (λ f. f.name) (sym file_put)) d.apart);
          once = λ q. let n : cond {A = ℕ} (nat_lt q (length (set pages p page))) 1 0 ≡ cond (nat_lt q (length pages)) 1 0 = ap (λ n. cond {A = ℕ} (nat_lt q n) 1 0) (length-set pages p page) in omega (arith, d.once q, n);
          all = omega (arith, d.all, length-set pages p page);
        }

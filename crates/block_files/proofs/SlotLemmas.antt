-- Pages that are taken out of slots, one after another.
use Rattle.std.proofs.Common.{◌≡◌, ◌≢◌, ℕ, ◌+◌, ◌<◌, ◌≤◌, zero, suc, true, List, [], ◌∷◌, ◌++◌, length, get_or, set, take, drop, map, slice_get, Some, None, refl, sym, ap, ◌∙◌, subst, arith, inl, inr, ◌⊎◌, append_assoc}
use Rattle.std.specs.Prelude.{Option, is_some, unwrap_or}
use Rattle.std.proofs.lemmas.Bool.{cases_lt}
use Rattle.std.proofs.lemmas.List.{append-nil, map-append, take_more, take-append-drop, get_or-set_other, get_or_past, drop_more, drop_all}
use Rattle.std.proofs.lemmas.Option.{slice_get_within, get_or_from_slice_get}
use Rattle.monitor_calls.specs.declared.files.FileName.{FileName}
use Rattle.monitor_calls.specs.declared.files.FileEntry.{FileEntry}
use Rattle.monitor_model.specs.State.{volume_file}
use Rattle.block_files.specs.declared.bodies.FileBody.{FileBody}
use Rattle.block_files.specs.Disks.{times, total, IsDisk}
use Rattle.block_files.specs.Rows.{Entry, pages_in, file_of, files_of, rows, disk_of}
use Rattle.block_files.specs.Slots.{full, page_in, entries_in, AreTakenOnce}
use Rattle.block_files.proofs.DiskLemmas.{all_once, row_below}
use Rattle.block_files.proofs.RowLemmas.{times-append, count_here, count_at_index}

abbrev Slots : Type 0
Slots = List (Option (List ℕ))

slot_below : (slots : Slots) (p : ℕ) → is_some (get_or slots p None) ≡ true → p < length slots
slot_below slots p some = by (cases_lt p (length slots)) where
  by : (p < length slots) ⊎ (length slots ≤ p) → p < length slots
  by (inl within) = within
  by (inr past) = absurd (let none : get_or slots p None ≡ None = get_or_past slots p None past in cc (ap is_some none, some))

-- THE PLACES OF ONE FILE

-- one more place, after the first places of a file were taken
module _ (slots now : Slots) (places : List ℕ) (k : ℕ) (within : k < length places) (all : AreTakenOnce slots (λ p. times p places)) (others : (p : ℕ) → times p (take k places) ≡ 0 → get_or now p None ≡ get_or slots p None) where
  abbrev at : ℕ
  at = get_or places k 0

  taken_more : take (k + 1) places ≡ take k places ++ at ∷ []
  taken_more = take_more places k 0 within

  count_more : (p : ℕ) → times p (take (k + 1) places) ≡ times p (take k places) + times p (at ∷ [])
  count_more p = ap (times p) taken_more ∙ times-append p (take k places) (at ∷ [])

  count_taken : (p : ℕ) → times p (take (k + 1) places) ≤ times p places
  count_taken p = omega (arith, times-append p (take (k + 1) places) (drop (k + 1) places), ap (times p) (take-append-drop (k + 1) places))

  fresh : times at (take k places) ≡ 0
  fresh = omega (arith, count_more at, count_taken at, all.once at, count_here at at [] refl)

  here : get_or now at None ≡ get_or slots at None
  here = others at fresh

  pub slot_there : is_some (get_or now at None) ≡ true
  slot_there = ap is_some here ∙ all.there at (count_at_index places k within)

  pub slot_within : at < length now
  slot_within = slot_below now at slot_there

  pub pages_more : (got next : List (List ℕ)) (page : List ℕ) → got ≡ map (page_in slots) (take k places) → next ≡ got ++ page ∷ [] → Some page ≡ get_or now at None → next ≡ map (page_in slots) (take (k + 1) places)
  pages_more got next page was pushed is =
      let same : page ≡ page_in slots at = ap (λ (o : Option (List ℕ)). unwrap_or o []) (is ∙ here) in
      pushed
      ∙ (λ i. was i ++ same i ∷ [])
      ∙ sym (map-append (page_in slots) (take k places) (at ∷ []))
      ∙ ap (map (page_in slots)) (sym taken_more)

  pub others_more : (new : Slots) → new ≡ set now at None → (p : ℕ) → times p (take (k + 1) places) ≡ 0 → get_or new p None ≡ get_or slots p None
  others_more new is p none =
      let other : p ≢ at = λ same. omega (arith, count_more p, none, count_here at p [] (sym same)) in
      ap (λ (s : Slots). get_or s p None) is ∙ get_or-set_other now at p None None other ∙ others p (omega (arith, count_more p, none))

-- THE FILES OF A DIRECTORY

same_in : (slots new : Slots) (places : List ℕ) → ((p : ℕ) → 1 ≤ times p places → get_or new p None ≡ get_or slots p None) → map (page_in new) places ≡ map (page_in slots) places
same_in slots new [] same = refl
same_in slots new (q ∷ places) same =
    let first : page_in new q ≡ page_in slots q = ap (λ (o : Option (List ℕ)). unwrap_or o []) (same q (omega (arith, count_here q q places refl))) in
    (λ i. first i ∷ same_in slots new places (λ p h. same p (omega (arith, h))) i)

same_entries : (slots new : Slots) (es : List Entry) → ((p : ℕ) → 1 ≤ total (times p) (rows es) → get_or new p None ≡ get_or slots p None) → entries_in new es ≡ entries_in slots es
same_entries slots new [] same = refl
same_entries slots new (e ∷ es) same =
    let first = same_in slots new e.1.places.items (λ p h. same p (omega (arith, h))) in
    (λ i. record { name = e.0; code = e.1.code; pages = first i } ∷ same_entries slots new es (λ p h. same p (omega (arith, h))) i)

-- one more file, whose pages leave the slots as `new`
module _ (slots now new : Slots) (es : List Entry) (place : ℕ) (name : FileName) (body : FileBody) (at : Some (name, body) ≡ slice_get es place) (left : AreTakenOnce now (λ p. total (times p) (rows (drop place es)))) where
  rest_at : drop place es ≡ (name, body) ∷ drop (place + 1) es
  rest_at =
      drop_more es place (name, body) (slice_get_within es place (name, body) (sym at)) ∙ ap (λ (x : Entry). x ∷ drop (place + 1) es) (get_or_from_slice_get es place (name, body) (name, body) (sym at))

  abbrev row : List ℕ
  row = body.places.items

  count_rest : (p : ℕ) → total (times p) (rows (drop place es)) ≡ times p row + total (times p) (rows (drop (place + 1) es))
  count_rest p = ap (λ (rest : List Entry). total (times p) (rows rest)) rest_at

  pub row_once : AreTakenOnce now (λ p. times p row)
  row_once = record {
    once = λ p. omega (arith, left.once p, count_rest p);
    there = λ p some. left.there p (omega (arith, some, count_rest p));
  }

  module _ (others : (p : ℕ) → times p row ≡ 0 → get_or new p None ≡ get_or now p None) where
    stays : (p : ℕ) → 1 ≤ total (times p) (rows (drop (place + 1) es)) → get_or new p None ≡ get_or now p None
    stays p some = others p (omega (arith, some, left.once p, count_rest p))

    pub rest_once : AreTakenOnce new (λ p. total (times p) (rows (drop (place + 1) es)))
    rest_once = record {
      once = λ p. omega (arith, left.once p, count_rest p);
      there = λ p some. ap is_some (stays p some) ∙ left.there p (omega (arith, some, count_rest p));
    }

    pub entry_more : (done next : List FileEntry) (entry : FileEntry) → next ≡ done ++ entry ∷ [] → entry.name ≡ name → entry.code ≡ body.code → entry.pages ≡ map (page_in now) row → done ++ entries_in now (drop place es) ≡ entries_in slots es → next ++ entries_in new (drop (place + 1) es) ≡ entries_in slots es
    entry_more done next entry pushed named coded paged told =
        let rest = drop (place + 1) es in
        let own : FileEntry = record { name = name; code = body.code; pages = map (page_in now) row } in
        let same : entry ≡ own = λ i. record { name = named i; code = coded i; pages = paged i } in
        ap (λ (l : List FileEntry). l ++ entries_in new rest) pushed
        ∙ append_assoc done (entry ∷ []) (entries_in new rest)
        ∙ (λ i. done ++ same i ∷ same_entries now new rest stays i)
        ∙ ap (λ (l : List Entry). done ++ entries_in now l) (sym rest_at)
        ∙ told

pub entries_done : (slots now : Slots) (es : List Entry) (place : ℕ) (done : List FileEntry) → length es ≤ place → done ++ entries_in now (drop place es) ≡ entries_in slots es → done ≡ entries_in slots es
entries_done slots now es place done past told =
    sym (append-nil done) ∙ ap (λ (rest : List Entry). done ++ entries_in now rest) (sym (drop_all place es past)) ∙ told

-- A WHOLE DISK

full_at : (pages : List (List ℕ)) (p : ℕ) → page_in (full pages) p ≡ get_or pages p []
full_at [] p = refl
full_at (page ∷ pages) zero = refl
full_at (page ∷ pages) (suc p) = full_at pages p

full_there : (pages : List (List ℕ)) (p : ℕ) → p < length pages → is_some (get_or (full pages) p None) ≡ true
full_there [] p below = absurd (omega (arith, below))
full_there (page ∷ pages) zero below = refl
full_there (page ∷ pages) (suc p) below = full_there pages p (omega (arith, below))

pub full_once : (pages : List (List ℕ)) (free : List ℕ) (es : List Entry) → IsDisk (disk_of pages free es) → AreTakenOnce (full pages) (λ p. total (times p) (rows es))
full_once pages free es disk = record {
  once = λ p. omega (arith, all_once pages free es disk p);
  there = λ p some. full_there pages p (row_below pages free es disk p some);
}

full_in : (pages : List (List ℕ)) (places : List ℕ) → map (page_in (full pages)) places ≡ pages_in pages places
full_in pages [] = refl
full_in pages (q ∷ places) = (λ i. full_at pages q i ∷ full_in pages places i)

pub full_entries : (pages : List (List ℕ)) (es : List Entry) → entries_in (full pages) es ≡ map volume_file (files_of pages es)
full_entries pages [] = refl
full_entries pages (e ∷ es) =
    (λ i. record { name = e.0; code = e.1.code; pages = full_in pages e.1.places.items i } ∷ full_entries pages es i)

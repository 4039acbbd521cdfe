-- Pages that are taken out of a disk one after another. A slot whose page was taken is empty.
use Rattle.std.specs.Prelude.{◌≡◌, ℕ, ◌≤◌, true, List, [], map, get_or, Option, Some, None, is_some, unwrap_or}
use Rattle.monitor_calls.specs.declared.files.FileEntry.{FileEntry}
use Rattle.block_files.specs.Rows.{Entry}

-- a slot for each page, from which none was taken yet
abbrev pub full : List (List ℕ) → List (Option (List ℕ))
full pages = map (λ (page : List ℕ). Some page) pages

-- the page in the slot at a place
abbrev pub page_in : List (Option (List ℕ)) → ℕ → List ℕ
page_in slots p = unwrap_or (get_or slots p None) []

-- the entries of a directory with the pages in their slots
abbrev pub entries_in : List (Option (List ℕ)) → List Entry → List FileEntry
entries_in slots es =
    map
    (λ (e : Entry). record {
      name = e.0;
      code = e.1.code;
      pages = map (page_in slots) e.1.places.items;
    })
    es

-- each place that is to be taken is taken once, and has its page yet
pub record AreTakenOnce (slots : List (Option (List ℕ))) (times : ℕ → ℕ) : Type 0 where
  pub once : (p : ℕ) → times p ≤ 1
  pub there : (p : ℕ) → 1 ≤ times p → is_some (get_or slots p None) ≡ true

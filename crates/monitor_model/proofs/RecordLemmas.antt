-- Records of several blocks: the pages that a read returns, and whether one of several blocks is
-- held. A file that has space for its last page has space for the pages before it.
use Rattle.std.proofs.Common.{◌≡◌, ℕ, ◌+◌, ◌-◌, ◌<◌, ◌≤◌, true, false, List, [], ◌∷◌, length, take, drop, slice_get, zero, suc, get_or, refl, sym, ap, ◌∙◌, subst, arith, Some, None}
use Rattle.std.specs.Prelude.{Option, ◌==◌, nat_lt, is_some, unwrap_or}
use Rattle.std.proofs.Math.Nat.{min-le_left, min-le_right, le-min}
use Rattle.std.proofs.lemmas.Bool.{true≢false, or_parts, or_from, or_cases, le-ltb, ltb-false, cases_lt}
use Rattle.std.proofs.lemmas.Bool.Decides.{nat_tests}
use Rattle.std.proofs.lemmas.List.{length-take, length-drop, get_or-take, get_or-drop}
use Rattle.std.proofs.lemmas.Option.{slice_get-get_or, slice_get_within, slice_get_read, get_or_from_slice_get}
use Rattle.monitor_calls.specs.declared.files.FileName.{FileName}
use Rattle.monitor_model.specs.Files.{File, size, file_at, the_file, is_file, size_at, page_of, pages_of, written, put, put_all, empty_file}
use Rattle.monitor_model.specs.Holds.{HoldMap, is_held, any_held}
use Rattle.monitor_model.specs.State.{State}
use Rattle.monitor_model.specs.Answer.{free, left_to, lacks_room, is_record}
use Rattle.monitor_model.proofs.Tools.{either, by_test, none_of}
use Rattle.monitor_model.proofs.FileLemmas.{file_there, file_at-replace_same}
use Rattle.monitor_model.proofs.PageLemmas.{written_name, is_file-put, replace_none, size-written}

-- NUMBERS

pub above_zero : (n : ℕ) → (n == 0) ≡ false → 0 < n
above_zero n e = grind (arith, nat_tests)

-- a record has one to three pages
pub record_few : (count : ℕ) → is_record count ≡ true → count ≤ 3
record_few count e = grind (arith, nat_tests)

pub record_some : (count : ℕ) → is_record count ≡ true → 1 ≤ count
record_some count e = grind (arith, nat_tests)

-- A SLICE OF A LIST: a number of elements after the first k

module _ {X : Type 0} (n k : ℕ) (xs : List X) where
  cut_few : length (take n (drop k xs)) ≤ n
  cut_few = omega (arith, length-take n (drop k xs), min-le_left n (length (drop k xs)))

  -- an element of it is in the list, k places further on
  cut_at : (i : ℕ) (x : X) → slice_get (take n (drop k xs)) i ≡ Some x → slice_get xs (k + i) ≡ Some x
  cut_at i x e =
      let inside = slice_get_within (take n (drop k xs)) i x e in
      let there : k + i < length xs = omega (arith, inside, length-take n (drop k xs), min-le_right n (length (drop k xs)), length-drop k xs) in
      let few : i < n = omega (arith, inside, cut_few) in
      slice_get_read xs (length xs) (k + i) x refl there
      (sym (get_or_from_slice_get (take n (drop k xs)) i x x e) ∙ get_or-take n (drop k xs) i x few ∙ get_or-drop k xs i x)

  -- it ends where the list ends
  cut_reaches : (i : ℕ) → i < n → k + i < length xs → i < length (take n (drop k xs))
  cut_reaches i few there =
      let both = le-min {k = suc i} {a = n} {b = length (drop k xs)} (omega (arith, few)) (omega (arith, there, length-drop k xs)) in
      omega (arith, both, length-take n (drop k xs))

-- WHICH PAGES ARE READ

pub few_read : (file : File) (first count : ℕ) → length (pages_of file first count) ≤ count
unfolding pages_of
few_read file first count = cut_few count (first - 1) file.pages

-- the page of each block that is read is the block's
pub page_in : (file : File) (first count block : ℕ) (page : List ℕ) → 1 ≤ first → first ≤ block → slice_get (pages_of file first count) (block - first) ≡ Some page → page_of file block ≡ Some page
unfolding pages_of
page_in file first count zero page some lo e = absurd (omega (arith, some, lo))
page_in file first count (suc k) page some lo e =
    let place : (first - 1) + (suc k - first) ≡ k = omega (arith, some, lo) in
    subst (λ n. slice_get file.pages n ≡ Some page) place (cut_at count (first - 1) file.pages (suc k - first) page e)

-- the blocks of a file count from 1
pub block_above : (file : File) (block : ℕ) → is_some (page_of file block) ≡ true → 1 ≤ block
block_above file zero e = absurd (cc)
block_above file (suc k) e = omega arith

block_within : (file : File) (k : ℕ) → is_some (slice_get file.pages k) ≡ true → k < length file.pages
block_within file k there = by_look (slice_get file.pages k) refl there where
  by_look : (o : Option (List ℕ)) → slice_get file.pages k ≡ o → is_some o ≡ true → k < length file.pages
  by_look None is some = absurd (cc)
  by_look (Some page) is some = slice_get_within file.pages k page is

-- a block that is asked for and exists is read
pub among_read : (file : File) (first count block : ℕ) → 1 ≤ first → first ≤ block → block < first + count → is_some (page_of file block) ≡ true → block < first + length (pages_of file first count)
unfolding pages_of
among_read file first count zero some lo hi there = absurd (cc)
among_read file first count (suc k) some lo hi there =
    let within = block_within file k there in
    let reached = cut_reaches count (first - 1) file.pages (suc k - first) (omega (arith, lo, hi)) (omega (arith, some, lo, within)) in
    omega (arith, lo, reached)

-- if pages are written from a block on, each of these blocks has one, and no other block has
pub page_among : (pages : List (List ℕ)) (first block : ℕ) → first ≤ block → block < first + length pages → (page : List ℕ) × (slice_get pages (block - first) ≡ Some page)
page_among pages first block lo hi =
    (get_or pages (block - first) [], slice_get-get_or pages (block - first) [] (omega (arith, lo, hi)))

pub among_page : (pages : List (List ℕ)) (first block : ℕ) (page : List ℕ) → first ≤ block → slice_get pages (block - first) ≡ Some page → block < first + length pages
among_page pages first block page lo e =
    let within = slice_get_within pages (block - first) page e in omega (arith, lo, within)

-- WHICH BLOCKS ARE HELD

module _ (holds : HoldMap) (job channel : ℕ) (name : FileName) where
  -- if none of these blocks is held, each is free
  pub none_held : (count first block : ℕ) → any_held holds job channel name first count ≡ false → first ≤ block → block < first + count → is_held holds job channel name block ≡ false
  none_held zero first block none lo hi = absurd (omega (arith, lo, hi))
  none_held (suc n) first block none lo hi =
      let parts = or_parts (is_held holds job channel name first) (any_held holds job channel name (suc first) n) none in
      either (cases_lt first block)
      (λ later. none_held n (suc first) block parts.1 (omega (arith, later)) (omega (arith, hi)))
      (λ here. let same : first ≡ block = omega (arith, lo, here) in subst (λ b. is_held holds job channel name b ≡ false) same parts.0)

  -- if one is held, one of these blocks is
  pub some_held : (count first block : ℕ) → first ≤ block → block < first + count → is_held holds job channel name block ≡ true → any_held holds job channel name first count ≡ true
  some_held count first block lo hi held =
      by_test (any_held holds job channel name first count) (λ is. is)
      (λ none. absurd (true≢false (sym held ∙ none_held count first block none lo hi)))

  -- and if one of them is held, here is one
  pub one_held : (count first : ℕ) → any_held holds job channel name first count ≡ true → (block : ℕ) × ((first ≤ block) × ((block < first + count) × (is_held holds job channel name block ≡ true)))
  one_held zero first held = absurd (cc)
  one_held (suc n) first held =
      either (or_cases (is_held holds job channel name first) (any_held holds job channel name (suc first) n) held)
      (λ here. (first, (omega arith, (omega arith, here))))
      (λ later. let found = one_held n (suc first) later in (found.0, (omega (arith, found.1.0), (omega (arith, found.1.1.0), found.1.1.1))))

-- PAGES THAT ARE WRITTEN

module _ (name : FileName) where
  -- no file is made or removed
  pub is_file-put_all : (pages : List (List ℕ)) (files : List File) (first : ℕ) (other : FileName) → is_file (put_all files name first pages) other ≡ is_file files other
  is_file-put_all [] files first other = refl
  is_file-put_all (page ∷ pages) files first other =
      is_file-put (put_all files name (suc first) pages) name first page other ∙ is_file-put_all pages files (suc first) other

  -- if there is no such file, nothing changes
  pub put_all_none : (pages : List (List ℕ)) (files : List File) (first : ℕ) → file_at files name ≡ None → put_all files name first pages ≡ files
  put_all_none [] files first none = refl
  put_all_none (page ∷ pages) files first none =
      let behind = put_all_none pages files (suc first) none in
      replace_none (put_all files name (suc first) pages) name _ (ap (λ fs. file_at fs name) behind ∙ none) ∙ behind

  -- a file reaches to the block that was written
  reaches : (files : List File) (block : ℕ) (page : List ℕ) → is_file files name ≡ true → block ≤ size_at (put files name block page) name
  reaches files block page there =
      let old = the_file files name in
      let new = written old block page in
      let found : the_file (put files name block page) name ≡ new = ap (λ o. unwrap_or o (empty_file name 0)) (file_at-replace_same files name new old (written_name files name block page) (file_there files name there)) in
      let grown : size_at (put files name block page) name ≡ size old + (block - size old) = ap size found ∙ size-written old block page in
      omega (arith, grown)

-- SPACE

-- this many blocks more are free, and within the quota of the owner
abbrev pub IsRoomFor : State → FileName → ℕ → Type 0
IsRoomFor s name last =
    (last - size_at s.files name ≤ free s) × (last - size_at s.files name ≤ left_to s name.owner)

module _ (s : State) (name : FileName) (last : ℕ) where
  pub room_there : lacks_room s name last ≡ false → IsRoomFor s name last
  room_there e =
      let wanted = last - size_at s.files name in
      let parts = or_parts (nat_lt (free s) wanted) (nat_lt (left_to s name.owner) wanted) e in
      (ltb-false (free s) wanted parts.0, ltb-false (left_to s name.owner) wanted parts.1)

  pub room_told : IsRoomFor s name last → lacks_room s name last ≡ false
  room_told room =
      let wanted = last - size_at s.files name in
      or_from (nat_lt (free s) wanted) (nat_lt (left_to s name.owner) wanted) (le-ltb (free s) wanted room.0) (le-ltb (left_to s name.owner) wanted room.1)

-- a file that has its last page has space for the page before it: it needs no more blocks; and no
-- file needs none
pub room_before : (s : State) (name : FileName) (first : ℕ) (page : List ℕ) (pages : List (List ℕ)) → lacks_room s name (suc first + length (page ∷ pages) - 1) ≡ false → lacks_room (record s { files = put_all s.files name (suc first) (page ∷ pages) }) name first ≡ false
room_before s name first page pages e =
    let behind = put_all s.files name (suc first) (page ∷ pages) in
    let t : State = record s { files = behind } in
    by_test (is_file s.files name)
    (λ is.
    let rest = put_all s.files name (suc (suc first)) pages in
    let grown = reaches name rest (suc first) page (is_file-put_all name pages s.files (suc (suc first)) name ∙ is) in
    room_told t name first (nothing (size_at behind name) (free t) grown, nothing (size_at behind name) (left_to t name.owner) grown))
    (λ no.
    let same = put_all_none name (page ∷ pages) s.files (suc first) (none_of (file_at s.files name) no) in
    let room = room_there s name (suc first + length (page ∷ pages) - 1) e in
    let n = size_at s.files name in
    subst (λ fs. lacks_room (record s { files = fs }) name first ≡ false) (sym same)
    (room_told s name first (less n (free s) (length pages) room.0, less n (left_to s name.owner) (length pages) room.1))) where
      nothing : (n f : ℕ) → suc first ≤ n → first - n ≤ f
      nothing n f le = omega (arith, le)

      less : (n f more : ℕ) → suc first + suc more - 1 - n ≤ f → first - n ≤ f
      less n f more le = omega (arith, le)

-- if the quota is not exceeded, a file needs more than it leaves exactly if the sum would exceed it
pub passes_quota : (quota used wanted : ℕ) → used ≤ quota → nat_lt (quota - used) wanted ≡ nat_lt quota (used + wanted)
passes_quota quota used wanted le = grind (arith, nat_tests)

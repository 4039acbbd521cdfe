-- A disk as it is kept: pages, free places, and for each name a code and the places of its pages.
use Rattle.std.specs.Prelude.{◌-◌, if◌then◌else◌, Option, Some, None, ◌≡◌, ℕ, ◌≤◌, ◌<◌, ◌^◌, zero, suc, List, [], ◌∷◌, ◌++◌, length, map, get_or}
use Rattle.std.proofs.Common.{set}
use Rattle.monitor_calls.specs.declared.names.Account.{Account}
use Rattle.monitor_calls.specs.declared.files.FileName.{FileName}
use Rattle.monitor_calls.specs.Volumes.{same_account}
use Rattle.monitor_calls.specs.FileNames.{same_name}
use Rattle.monitor_calls.specs.Pages.{zeros}
use Rattle.monitor_model.specs.Files.{File, the_file, replace, grown, with_page}
use Rattle.block_files.specs.Disks.{Disk, IsDisk}
use Rattle.block_files.specs.declared.bodies.FileBody.{FileBody}

abbrev pub Entry : Type 0
Entry = FileName × FileBody

abbrev pub pages_in : List (List ℕ) → List ℕ → List (List ℕ)
pages_in pages places = map (λ p. get_or pages p []) places

abbrev pub file_of : List (List ℕ) → Entry → File
file_of pages e = record { name = e.0; code = e.1.code; pages = pages_in pages e.1.places.items }

abbrev pub files_of : List (List ℕ) → List Entry → List File
files_of pages es = map (file_of pages) es

abbrev pub rows : List Entry → List (List ℕ)
rows es = map (λ (e : Entry). e.1.places.items) es

abbrev pub disk_of : List (List ℕ) → List ℕ → List Entry → Disk
disk_of pages free es =
    record { blocks = length pages; files = files_of pages es; places = rows es; free = free }

-- what is kept of a name
abbrev pub body_at : List Entry → FileName → Option FileBody
body_at [] name = None
body_at (e ∷ es) name = if same_name e.0 name then Some e.1 else body_at es name

-- with that kept of the name, at its place
abbrev pub with_body : List Entry → FileName → FileBody → List Entry
with_body [] name body = []
with_body (e ∷ es) name body =
    if same_name e.0 name then (e.0, body) ∷ es else e ∷ with_body es name body

-- without the name
abbrev pub without : List Entry → FileName → List Entry
without [] name = []
without (e ∷ es) name = if same_name e.0 name then es else e ∷ without es name

-- the file of the name has these places more
pub record Grows (name : FileName) (taken : List ℕ) (es fs : List Entry) : Type 0 where
  pub was : FileBody
  pub there : body_at es name ≡ Some was
  pub now : FileBody
  pub entries : fs ≡ with_body es name now
  pub code : now.code ≡ was.code
  pub places : now.places.items ≡ was.places.items ++ taken

-- it is a disk, its places fit in 16 bits, and all of them in the free list
pub record IsKept (pages : List (List ℕ)) (free : List ℕ) (room : ℕ) (es : List Entry)
    : Type 0 where
  pub disk : IsDisk (disk_of pages free es)
  pub small : length pages < 2 ^ 16
  pub room_for_all : length pages ≤ room

-- zeros at these places
abbrev pub cleared : List (List ℕ) → List ℕ → List (List ℕ)
cleared pages [] = pages
cleared pages (p ∷ places) = cleared (set pages p zeros) places

-- the first n places
abbrev pub first_places : ℕ → List ℕ
first_places zero = []
first_places (suc n) = first_places n ++ n ∷ []

-- the name at an index among those of one owner
abbrev pub name_or : ℕ → FileName → Option FileName → Option FileName
name_or zero name rest = Some name
name_or (suc k) name rest = rest

abbrev pub nth_name : List Entry → Account → ℕ → Option FileName
nth_name [] owner index = None
nth_name (e ∷ es) owner index =
    if same_account e.0.owner owner
    then name_or index e.0 (nth_name es owner (index - 1))
    else nth_name es owner index

-- with this many blocks of zeros added to the file of a name
abbrev pub grow_file : List File → FileName → ℕ → List File
grow_file files name more = replace files name (grown (the_file files name) more)

-- with the page as a block that the file of a name has
abbrev pub set_page : List File → FileName → ℕ → List ℕ → List File
set_page files name block page = replace files name (with_page (the_file files name) block page)

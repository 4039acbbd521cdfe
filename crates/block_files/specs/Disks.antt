-- A disk: its blocks and files, and the places of their pages.
use Rattle.std.specs.Prelude.{◌≡◌, ◌⊎◌, ℕ, ◌+◌, ◌<◌, zero, suc, ◌==◌, nat_lt, if◌then◌else◌, List, [], ◌∷◌, length, slice_get, Option, Some, None}
use Rattle.monitor_calls.specs.declared.files.FileName.{FileName}
use Rattle.monitor_calls.specs.FileNames.{same_name}
use Rattle.monitor_model.specs.Files.{File, AreApart}

-- the blocks and files, with the places of each file's pages, and the places that are free
pub record Disk : Type 0 where
  pub blocks : ℕ
  pub files : List File
  pub places : List (List ℕ)
  pub free : List ℕ

-- how often a place is in a list
abbrev pub times : ℕ → List ℕ → ℕ
times p [] = 0
times p (q ∷ places) = (if q == p then 1 else 0) + times p places

-- a measure of lists, summed over all of them
abbrev pub total : (List ℕ → ℕ) → List (List ℕ) → ℕ
total measure [] = 0
total measure (row ∷ rows) = measure row + total measure rows

-- the file names differ, and each place of the disk is once in all: free, or that of one page
pub record IsDisk (d : Disk) : Type 0 where
  pub apart : AreApart d.files
  pub once :
      (p : ℕ) → times p d.free + total (times p) d.places ≡ (if nat_lt p d.blocks then 1 else 0)
  pub all : length d.free + total length d.places ≡ d.blocks

abbrev pub place_at : List ℕ → ℕ → Option ℕ
place_at places zero = None
place_at places (suc k) = slice_get places k

abbrev pub place_in : List File → List (List ℕ) → FileName → ℕ → Option ℕ
place_in [] rows name block = None
place_in (file ∷ files) [] name block = None
place_in (file ∷ files) (row ∷ rows) name block =
    if same_name file.name name then place_at row block else place_in files rows name block

-- the place of a block
abbrev pub place_of : Disk → FileName → ℕ → Option ℕ
place_of d name block = place_in d.files d.places name block

abbrev pub IsFree : Disk → ℕ → Type 0
IsFree d p = (k : ℕ) × (slice_get d.free k ≡ Some p)

abbrev pub IsTold : Disk → ℕ → Type 0
IsTold d p = (name : FileName) × ((block : ℕ) × (place_of d name block ≡ Some p))

-- Places are below the disk's blocks, the free ones too. Those of two blocks differ, and each free
-- one is listed once. Each is free or that of a block, not both.
pub record IsLaidOut (d : Disk) : Type 0 where
  pub below : (name : FileName) (block p : ℕ) → place_of d name block ≡ Some p → p < d.blocks
  pub apart :
      (name other : FileName) (block at p : ℕ) →
      place_of d name block ≡ Some p → place_of d other at ≡ Some p → (name ≡ other) × (block ≡ at)
  pub free_below : (k p : ℕ) → slice_get d.free k ≡ Some p → p < d.blocks
  pub free_once :
      (k at p : ℕ) → slice_get d.free k ≡ Some p → slice_get d.free at ≡ Some p → k ≡ at
  pub all : (p : ℕ) → p < d.blocks → IsFree d p ⊎ IsTold d p
  pub free :
      (name : FileName) (block k p : ℕ) →
      slice_get d.free k ≡ Some p → place_of d name block ≡ Some p → ⊥

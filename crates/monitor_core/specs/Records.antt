-- Records of several blocks: how many blocks are read, and when a number of them can't be written.
use Rattle.std.specs.Prelude.{◌≡◌, ℕ, ◌-◌, Bool, nat_lt, List, [], ◌∷◌, length}
use Rattle.basic_values.specs.declared.errors.TheConstants.{NO_ROOM}
use Rattle.monitor_calls.specs.declared.files.FileName.{FileName}
use Rattle.monitor_model.specs.Files.{File, pages_of, size_at, blocks_of}
use Rattle.block_files.specs.Disks.{Disk}
use Rattle.block_interlock.specs.Runs.{IsShort}

-- this many of the blocks asked for, from this one on, are read: all that the file has
pub record IsRecordRead (file : File) (block count read : ℕ) : Type 0 where
  pub number : length (pages_of file block count) ≡ read
  pub pages : pages_of file block read ≡ pages_of file block count
  pub short : IsShort block read

-- a file whose last block is to be this one needs more blocks than are free
abbrev pub room_refusals : Disk → FileName → ℕ → List (Bool × ℕ)
room_refusals d name last =
    (nat_lt (d.blocks - blocks_of d.files) (last - size_at d.files name), NO_ROOM) ∷ []

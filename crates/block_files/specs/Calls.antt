-- The refusals of each call, in order.
use Rattle.std.specs.Prelude.{ℕ, ◌-◌, Bool, not, ◌&&◌, ◌==◌, nat_lt, nat_le, List, [], ◌∷◌, length}
use Rattle.basic_values.specs.declared.errors.TheConstants.{NO_ROOM, NO_SUCH_FILE, END_OF_FILE, NAME_EXISTS, ILLEGAL_BYTE_COUNT}
use Rattle.basic_values.specs.declared.limits.TheConstants.{MOST_FILES}
use Rattle.monitor_calls.specs.declared.files.FileName.{FileName}
use Rattle.monitor_calls.specs.FileNames.{same_name}
use Rattle.block_files.specs.Disks.{Disk}
use Rattle.monitor_model.specs.Files.{File, is_file, is_block, size_at, blocks_of}

-- the name exists; the disk has as many files as it takes
abbrev pub create_refusals : List File → FileName → List (Bool × ℕ)
create_refusals files name = (is_file files name, NAME_EXISTS) ∷ (nat_le MOST_FILES (length files), NO_ROOM) ∷ []

-- no such file
abbrev pub there_refusals : List File → FileName → List (Bool × ℕ)
there_refusals files name = (not (is_file files name), NO_SUCH_FILE) ∷ []

-- no such file; the new name is that of another
abbrev pub rename_refusals : List File → FileName → FileName → List (Bool × ℕ)
rename_refusals files old new =
    (not (is_file files old), NO_SUCH_FILE) ∷ (is_file files new && not (same_name new old), NAME_EXISTS) ∷ []

-- no such file; no such block
abbrev pub read_refusals : List File → FileName → ℕ → List (Bool × ℕ)
read_refusals files name block =
    (not (is_file files name), NO_SUCH_FILE) ∷ (not (is_block files name block), END_OF_FILE) ∷ []

-- no such file; block 0; the file needs more blocks than are free
abbrev pub write_refusals : Disk → FileName → ℕ → List (Bool × ℕ)
write_refusals d name block =
    (not (is_file d.files name), NO_SUCH_FILE)
    ∷ (block == 0, ILLEGAL_BYTE_COUNT)
    ∷ (nat_lt (d.blocks - blocks_of d.files) (block - size_at d.files name), NO_ROOM)
    ∷ []

-- Consecutive blocks of one file.
use Rattle.std.specs.Prelude.{ℕ, ◌+◌, ◌^◌, ◌≤◌, Bool, false, ◌&&◌, nat_le, nat_lt, Option, Some, None}
use Rattle.basic_values.specs.declared.limits.TheConstants.{MOST_RECORD_BLOCKS}
use Rattle.monitor_calls.specs.declared.files.FileName.{FileName}
use Rattle.monitor_calls.specs.FileNames.{same_name}
use Rattle.block_interlock.specs.declared.runs.Run.{Run}

-- as many as a record may have, each with a number
abbrev pub IsShort : ℕ → ℕ → Type 0
IsShort block count = (1 ≤ count) × ((count ≤ MOST_RECORD_BLOCKS) × (block + count ≤ 2 ^ 16))

-- whether the block is one of these
abbrev pub has_block : Run → FileName → ℕ → Bool
has_block run name block =
    same_name name run.name && (nat_le run.block block && nat_lt block (run.block + run.count))

-- whether it is one of those that are given, if any are
abbrev pub tells_block : Option Run → FileName → ℕ → Bool
tells_block None name block = false
tells_block (Some run) name block = has_block run name block

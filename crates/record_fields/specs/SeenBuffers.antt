-- The bytes of a channel's buffer, for any size of its records.
use Rattle.std.specs.Prelude.{ℕ, ◌*◌, ◌≤◌, List, length}
use Rattle.basic_values.specs.declared.limits.TheConstants.{MOST_RECORD_BLOCKS}
use Rattle.record_fields.specs.declared.buffers.TheConstants.{BUFFER_BYTES}

pub record IsBuffer (bytes : List ℕ) : Type 0 where
  pub least : BUFFER_BYTES ≤ length bytes
  pub most : length bytes ≤ BUFFER_BYTES * MOST_RECORD_BLOCKS

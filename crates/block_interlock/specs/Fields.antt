-- A field for each channel of each job, with the blocks that it holds, and an index by blocks.
use Rattle.std.specs.Prelude.{◌≡◌, ◌↔◌, ℕ, ◌+◌, ◌*◌, ◌<◌, ◌≤◌, Bool, true, false, ◌&&◌, ◌==◌, nat_lt, if◌then◌else◌, List, [], ◌∷◌, length, Option, Some, None}
use Rattle.std.proofs.Common.{get_or}
use Rattle.basic_values.specs.declared.limits.TheConstants.{JOB_CHANNELS, MOST_JOBS, MOST_RECORD_BLOCKS}
use Rattle.monitor_calls.specs.declared.files.FileName.{FileName}
use Rattle.monitor_model.specs.Holds.{is_channel}
use Rattle.block_interlock.specs.declared.index.Hold.{Hold}
use Rattle.block_interlock.specs.declared.runs.Run.{Run}
use Rattle.block_interlock.specs.Index.{look, Rises, HeldByOne}
use Rattle.block_interlock.specs.Runs.{IsShort, tells_block}

-- the place of a channel's field
abbrev pub slot : ℕ → ℕ → ℕ
slot job channel = job * JOB_CHANNELS + channel

abbrev pub field_at : List (Option Run) → ℕ → ℕ → Option Run
field_at fields job channel = get_or fields (slot job channel) None

-- what each field says is short
abbrev pub AreShort : List (Option Run) → Type 0
AreShort [] = Unit {0}
AreShort (None ∷ fields) = AreShort fields
AreShort (Some run ∷ fields) = IsShort run.block run.count × AreShort fields

-- how many blocks the fields say
abbrev pub held_count : List (Option Run) → ℕ
held_count [] = 0
held_count (None ∷ fields) = held_count fields
held_count (Some run ∷ fields) = held_count fields + run.count

-- there is a field for the channel
abbrev pub HasField : List (Option Run) → ℕ → ℕ → Type 0
HasField fields job channel = (slot job channel < length fields) × (channel < JOB_CHANNELS)

-- there is a field for each channel of the job
abbrev pub HasFields : List (Option Run) → ℕ → Type 0
HasFields fields job = slot job JOB_CHANNELS ≤ length fields

-- the index says of each block what the fields say, and has space for all that they may say
pub record IsKept (fields : List (Option Run)) (index : List Hold) (room : ℕ) : Type 0 where
  pub rises : Rises index
  pub told :
      (job channel : ℕ) (name : FileName) (block : ℕ) → HasField fields job channel →
      (tells_block (field_at fields job channel) name block ≡ true)
      ↔ (look index name block ≡ Some (job, channel))
  pub within :
      (job channel : ℕ) (name : FileName) (block : ℕ) →
      look index name block ≡ Some (job, channel) → HasField fields job channel
  pub all : length index ≡ held_count fields
  pub short : AreShort fields
  pub fits : length fields * MOST_RECORD_BLOCKS ≤ room

-- the channel holds nothing any more, and the others hold what they held
pub record LetsGo (job channel : ℕ) (old : List Hold) (fields : List (Option Run)) (new : List Hold)
    : Type 0 where
  pub empty : field_at fields job channel ≡ None
  pub looks :
      (name : FileName) (block : ℕ) →
      look new name block
      ≡ (if is_channel job channel (look old name block) then None else look old name block)

-- whether it is one of the job's channels below this number
abbrev pub is_below : ℕ → ℕ → Option (ℕ × ℕ) → Bool
is_below job channel None = false
is_below job channel (Some holding) = holding.0 == job && nat_lt holding.1 channel

-- the job's channels below this number hold nothing any more, and the others hold what they held
abbrev pub LetGoBelow : ℕ → ℕ → List Hold → List Hold → Type 0
LetGoBelow job channel old new =
    (name : FileName) (block : ℕ) →
    look new name block
    ≡ (if is_below job channel (look old name block) then None else look old name block)

-- as many fields as the jobs have channels
pub record AreHolds (jobs : ℕ) (fields : List (Option Run)) (index : List Hold) (room : ℕ)
    : Type 0 where
  pub kept : IsKept fields index room
  pub width : length fields ≡ jobs * JOB_CHANNELS
  pub few : jobs ≤ MOST_JOBS

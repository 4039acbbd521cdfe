-- The holds in the order of their blocks.
use Rattle.std.specs.Prelude.{◌≡◌, ◌≢◌, ℕ, ◌+◌, zero, suc, Bool, true, ◌&&◌, ◌==◌, if◌then◌else◌, List, [], ◌∷◌, length, Option, Some, None, Result, Ok, Err}
use Rattle.std.specs.FinMap.{empty, insert}
use Rattle.std.specs.declared.cmp.Ordering.TheVariants.{Less}
use Rattle.monitor_calls.specs.declared.files.FileName.{FileName}
use Rattle.monitor_calls.specs.FileNames.{same_name}
use Rattle.monitor_model.specs.Holds.{Block, HoldMap, block_order}
use Rattle.block_interlock.specs.declared.index.Hold.{Hold}
use Rattle.block_interlock.specs.declared.runs.Held.{Held}
use Rattle.block_interlock.specs.declared.runs.Run.{Run}
use Rattle.block_interlock.specs.Runs.{has_block}

abbrev pub block_of : Hold → Block
block_of hold = (hold.held.name, hold.held.block)

-- as a map
abbrev pub map_of : List Hold → HoldMap
map_of [] = empty
map_of (hold ∷ holds) = insert (map_of holds) (block_of hold) (hold.job, hold.channel)

abbrev pub is_block : FileName → ℕ → Held → Bool
is_block name block held = same_name name held.name && block == held.block

-- who holds the block
abbrev pub look : List Hold → FileName → ℕ → Option (ℕ × ℕ)
look [] name block = None
look (hold ∷ holds) name block =
    if is_block name block hold.held then Some (hold.job, hold.channel) else look holds name block

-- all blocks are above this one
abbrev pub AreAbove : Block → List Hold → Type 0
AreAbove block [] = Unit {0}
AreAbove block (hold ∷ holds) = (block_order block (block_of hold) ≡ Less) × AreAbove block holds

-- each block is below those after it
abbrev pub Rises : List Hold → Type 0
Rises [] = Unit {0}
Rises (hold ∷ holds) = AreAbove (block_of hold) holds × Rises holds

-- the block is at the place
abbrev pub IsAt : Block → List Hold → ℕ → Type 0
IsAt block [] place = ⊥
IsAt block (hold ∷ holds) zero = block_of hold ≡ block
IsAt block (hold ∷ holds) (suc place) = IsAt block holds place

-- it belongs there: the blocks before the place are below it, and those from the place on are above
-- it
abbrev pub Belongs : Block → List Hold → ℕ → Type 0
Belongs block holds zero = AreAbove block holds
Belongs block [] (suc place) = ⊥
Belongs block (hold ∷ holds) (suc place) =
    (block_order (block_of hold) block ≡ Less) × Belongs block holds place

abbrev pub IsSought : FileName → ℕ → List Hold → Result ℕ ℕ → Type 0
IsSought name block holds (Ok place) = IsAt (name, block) holds place
IsSought name block holds (Err place) = Belongs (name, block) holds place

-- the hold of a block is removed, if there is one
pub record Drops (held : Held) (old new : List Hold) : Type 0 where
  pub rises : Rises new
  pub looks :
      (name : FileName) (block : ℕ) →
      look new name block ≡ (if is_block name block held then None else look old name block)
  pub less :
      (job channel : ℕ) →
      look old held.name held.block ≡ Some (job, channel) → length old ≡ length new + 1

-- a hold is added
pub record Adds (hold : Hold) (old new : List Hold) : Type 0 where
  pub rises : Rises new
  pub looks : (name : FileName) (block : ℕ) → look new name block ≡ look (hold ∷ old) name block
  pub more : length new ≡ length old + 1

-- THE BLOCKS OF A RUN

-- the block at a place, counted from 0
abbrev pub nth_block : Run → ℕ → Held
nth_block run place = record { name = run.name; block = run.block + place }

-- nobody holds one of them
abbrev pub AreFree : Run → List Hold → Type 0
AreFree run holds =
    (name : FileName) (block : ℕ) → has_block run name block ≡ true → look holds name block ≡ None

-- somebody holds each of them
abbrev pub AreHeld : Run → List Hold → Type 0
AreHeld run holds =
    (name : FileName) (block : ℕ) → has_block run name block ≡ true → look holds name block ≢ None

-- the holds of all of them are removed
pub record DropsAll (run : Run) (old new : List Hold) : Type 0 where
  pub rises : Rises new
  pub looks :
      (name : FileName) (block : ℕ) →
      look new name block ≡ (if has_block run name block then None else look old name block)
  pub less : AreHeld run old → length old ≡ length new + run.count

-- the channel holds each of them, and the others are as they were
abbrev pub HeldByOne : Run → ℕ → ℕ → List Hold → List Hold → Type 0
HeldByOne run job channel old new =
    (name : FileName) (block : ℕ) →
    look new name block
    ≡ (if has_block run name block then Some (job, channel) else look old name block)

-- a hold of each of them is added
pub record AddsAll (run : Run) (job channel : ℕ) (old new : List Hold) : Type 0 where
  pub rises : Rises new
  pub looks : HeldByOne run job channel old new
  pub more : length new ≡ length old + run.count

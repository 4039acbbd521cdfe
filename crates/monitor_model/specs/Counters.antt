-- Jobs that count in one block: each reads the block for update and writes back the next number.
use Rattle.std.specs.Prelude.{◌≡◌, ◌≢◌, ℕ, true, if◌then◌else◌, List, [], ◌∷◌, map, Option, Some, None}
use Rattle.std.specs.List.{AllByRecursion}
use Rattle.monitor_calls.specs.declared.files.FileName.{FileName}
use Rattle.monitor_calls.specs.declared.files.OpenKind.TheVariants.{Output}
use Rattle.monitor_calls.specs.declared.calls.Entry.{Entry}
use Rattle.monitor_calls.specs.declared.calls.Request.{Request}
use Rattle.monitor_calls.specs.declared.calls.Request.TheVariants.{OpenFile, Get, Put, GetRecord, PutRecord, Kill, Rename}
use Rattle.monitor_calls.specs.declared.calls.Reply.{Reply}
use Rattle.monitor_calls.specs.declared.calls.Reply.TheVariants.{Block}
use Rattle.monitor_calls.specs.Pairs.{Pair}
use Rattle.monitor_model.specs.State.{State}
use Rattle.monitor_model.specs.Spans.{is_end}
use Rattle.monitor_model.specs.Updates.{page_in_put, Stays, AreSafe}

-- how the jobs count: the file and the block, the channel through which each job reaches it, the
-- number that a page contains, and the number that comes after a number
pub record Counting : Type 0 where
  pub name : FileName
  pub block : ℕ
  pub channel : ℕ
  pub number : List ℕ → ℕ
  pub step : ℕ → ℕ

-- The page that a job has read and may write over: that of its last Get, unless a call has released
-- the block since.
abbrev pub page_kept : ℕ → Option (List ℕ) → Request → Reply → Option (List ℕ)
page_kept channel kept (Get at block) (Block page) = Some page
page_kept channel kept request reply = if is_end channel request reply then None else kept

-- What a counting job may ask. It opens the file for update alone, reads and writes only this block
-- of it, and writes only over a page that it has read, with the next number.
abbrev pub MayCount : Counting → Option (List ℕ) → Request → Type 0
MayCount c kept (OpenFile channel name kind update code) =
    (channel ≡ c.channel) × ((name ≡ c.name) × ((kind ≢ Output) × (update ≡ true)))
MayCount c kept (Get channel block) = (channel ≡ c.channel) × (block ≡ c.block)
MayCount c kept (Put channel block page) =
    (channel ≡ c.channel) × ((block ≡ c.block)
    × ((old : List ℕ) × (kept ≡ Some old) × (c.number page ≡ c.step (c.number old))))
MayCount c kept (GetRecord channel block count) = ⊥
MayCount c kept (PutRecord channel block pages) = ⊥
MayCount c kept (Kill name) = ⊥
MayCount c kept (Rename old new code) = ⊥
MayCount c kept request = Unit {0}

-- a job counts in these requests and their replies, having read this page before them, if any
abbrev pub Counts : Counting → Option (List ℕ) → List Pair → Type 0
Counts c kept [] = Unit {0}
Counts c kept (pair ∷ pairs) =
    MayCount c kept pair.0 × Counts c (page_kept c.channel kept pair.0 pair.1) pairs

-- the pages that the entries write as the block with this number, in order
abbrev pub with_page : Option (List ℕ) → List (List ℕ) → List (List ℕ)
with_page None pages = pages
with_page (Some page) pages = page ∷ pages

abbrev pub pages_put : ℕ → List Entry → List (List ℕ)
pages_put block [] = []
pages_put block (entry ∷ entries) =
    with_page (page_in_put entry.request entry.reply block) (pages_put block entries)

-- The history writes the block by safe updates alone, each of them takes the number one step on,
-- and they are all that is put to a block with this number. The file stays.
pub record IsCounted (c : Counting) (m : State) (history : List Entry) : Type 0 where
  pub updates : List (List ℕ × List ℕ)
  pub safe : AreSafe m c.name c.block [] history updates
  pub steps : AllByRecursion (λ update. c.number update.1 ≡ c.step (c.number update.0)) updates
  pub pages : map (λ update. update.1) updates ≡ pages_put c.block history
  pub stays : Stays c.name history

-- Updates of a block: a job reads it, computes a new page from it, and writes that.
use Rattle.std.specs.Prelude.{◌≡◌, ℕ, suc, ◌-◌, ◌==◌, nat_le, Bool, false, not, ◌&&◌, if◌then◌else◌, List, [], ◌∷◌, ◌++◌, map, filter, slice_get, Option, Some, None}
use Rattle.std.specs.List.{AllByRecursion}
use Rattle.monitor_calls.specs.declared.files.FileName.{FileName}
use Rattle.monitor_calls.specs.declared.files.OpenKind.TheVariants.{Output}
use Rattle.monitor_calls.specs.declared.calls.Entry.{Entry}
use Rattle.monitor_calls.specs.declared.calls.Request.{Request}
use Rattle.monitor_calls.specs.declared.calls.Request.TheVariants.{OpenFile, Put, PutRecord, Kill, Rename}
use Rattle.monitor_calls.specs.declared.calls.Reply.{Reply}
use Rattle.monitor_calls.specs.declared.calls.Reply.TheVariants.{Done, Opened}
use Rattle.monitor_calls.specs.FileNames.{same_name}
use Rattle.monitor_model.specs.Jobs.{channel_of, is_on, the_channel}
use Rattle.monitor_model.specs.Holds.{holder, is_channel}
use Rattle.monitor_model.specs.State.{State}
use Rattle.monitor_model.specs.Answer.{next}
use Rattle.monitor_model.specs.History.{after}
use Rattle.monitor_model.specs.Spans.{channel_in, InSpan}

-- WRITES

-- the page that a request, with this reply, writes as a block of its channel's file
abbrev pub page_in_put : Request → Reply → ℕ → Option (List ℕ)
page_in_put (Put channel at page) Done block = if at == block then Some page else None
page_in_put (PutRecord channel at pages) Done block =
    if nat_le at block then slice_get pages (block - at) else None
page_in_put request reply block = None

-- the page that the entry, answered in this state, writes as the block of the file
abbrev pub page_written : State → Entry → FileName → ℕ → Option (List ℕ)
page_written m entry name block =
    if is_on name (channel_of m.jobs entry.job (channel_in entry.request))
    then page_in_put entry.request entry.reply block
    else None

-- none of the entries writes the block of the file
abbrev pub NoWriting : State → List Entry → FileName → ℕ → Type 0
NoWriting m [] name block = Unit {0}
NoWriting m (entry ∷ entries) name block =
    (page_written m entry name block ≡ None)
    × NoWriting (next m entry.job entry.request) entries name block

-- SAFE UPDATES

-- After the history `past` from m the entry writes the block through a channel. The channel was
-- open for update when it read the page `old` of the block, and no call has released the block
-- since.
pub record IsSafeUpdate (m : State) (past : List Entry) (entry : Entry) (name : FileName) (block : ℕ) (old new : List ℕ)
    : Type 0 where
  pub span : InSpan m past entry.job (channel_in entry.request) name block old
  pub writes : page_written (after m past) entry name block ≡ Some new

-- THE CHAIN OF A BLOCK

-- whether a call, with this reply, takes the file of this name away: it deletes the file, renames
-- it, or makes it anew
abbrev pub takes_away : FileName → Request → Reply → Bool
takes_away name (Kill gone) Done = same_name gone name
takes_away name (Rename old new code) Done = same_name old name && not (same_name new name)
takes_away name (OpenFile channel made Output update code) (Opened blocks read write) =
    same_name made name
takes_away name request reply = false

abbrev pub Stays : FileName → List Entry → Type 0
Stays name entries =
    AllByRecursion (λ entry. takes_away name entry.request entry.reply ≡ false) entries

-- After `past`, these entries write the block by safe updates alone: the page that each read, and
-- the page that it wrote.
pub data AreSafe (m : State) (name : FileName) (block : ℕ)
    : List Entry → List Entry → List (List ℕ × List ℕ) → Type 0 where
  at_end : {past : List Entry} → AreSafe m name block past [] []
  untouched : {past rest : List Entry} {entry : Entry} {updates : List (List ℕ × List ℕ)}
      → page_written (after m past) entry name block ≡ None
      → AreSafe m name block (past ++ entry ∷ []) rest updates
      → AreSafe m name block past (entry ∷ rest) updates
  updated : {past rest : List Entry} {entry : Entry} {old new : List ℕ}
      {more : List (List ℕ × List ℕ)}
      → IsSafeUpdate m past entry name block old new
      → AreSafe m name block (past ++ entry ∷ []) rest more
      → AreSafe m name block past (entry ∷ rest) ((old, new) ∷ more)

-- each update read the page that the one before it wrote; the first one read this page
abbrev pub IsChain : List ℕ → List (List ℕ × List ℕ) → Type 0
IsChain page [] = Unit {0}
IsChain page (update ∷ updates) = (update.0 ≡ page) × IsChain update.1 updates

-- the page that the last update wrote
abbrev pub last_page : List ℕ → List (List ℕ × List ℕ) → List ℕ
last_page page [] = page
last_page page (update ∷ updates) = last_page update.1 updates

-- UNSAFE WRITES OF A HISTORY

-- whether the entry's channel holds the block
abbrev pub holds_block : State → Entry → FileName → ℕ → Bool
holds_block m entry name block =
    is_channel entry.job (channel_in entry.request) (holder m.holds name block)

-- the numbers of consecutive blocks, from one on
abbrev pub block_numbers : ℕ → List (List ℕ) → List ℕ
block_numbers block [] = []
block_numbers block (page ∷ pages) = block ∷ block_numbers (suc block) pages

-- the blocks that a request, with this reply, writes
abbrev pub blocks_put : Request → Reply → List ℕ
blocks_put (Put channel block page) Done = block ∷ []
blocks_put (PutRecord channel block pages) Done = block_numbers block pages
blocks_put request reply = []

-- a block that was written though its channel did not hold it: the place of the entry in the
-- history, from 1, its job, the file and the block
pub record UnsafeUpdate : Type 0 where
  pub place : ℕ
  pub job : ℕ
  pub name : FileName
  pub block : ℕ

abbrev pub unsafe_in : State → ℕ → Entry → List UnsafeUpdate
unsafe_in m place entry =
    let name = (the_channel m.jobs entry.job (channel_in entry.request)).name in
    map (λ block. record { place = place; job = entry.job; name = name; block = block })
    (filter (λ block. not (holds_block m entry name block))
    (blocks_put entry.request entry.reply))

-- those of entries that are answered from m on, the first of them at this place
abbrev pub unsafe_from : State → ℕ → List Entry → List UnsafeUpdate
unsafe_from m place [] = []
unsafe_from m place (entry ∷ entries) =
    unsafe_in m place entry ++ unsafe_from (next m entry.job entry.request) (suc place) entries

abbrev pub unsafe_updates : State → List Entry → List UnsafeUpdate
unsafe_updates m history = unsafe_from m 1 history

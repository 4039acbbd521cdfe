-- The requests to the monitor for a channel: records, as far as the file goes, closing and
-- unlocking.
use Rattle.std.specs.Prelude.{ℕ, ◌-◌, zero, suc, if◌then◌else◌, List, [], ◌∷◌, ◌++◌, length, take, drop, replicate}
use Rattle.basic_values.specs.declared.limits.TheConstants.{BLOCK_BYTES}
use Rattle.monitor_calls.specs.declared.calls.Request.TheVariants as request
use Rattle.job_model.specs.Act.{Gives, ◌then◌}
use Rattle.job_model.specs.Replies.{asks_for, done_by, block_by, pages_by}
use Rattle.record_fields.specs.declared.sizes.RecordSize.{RecordSize}
use Rattle.record_fields.specs.Sizes.{blocks_of, is_single}
use Rattle.channels.specs.Files.{Files, FilesAct, asks}

-- CLOSING AND UNLOCKING

abbrev pub asks_close : ℕ → Files → FilesAct Unit
asks_close c = asks (asks_for done_by (request.CloseFile c))

abbrev pub asks_unlock : ℕ → Files → FilesAct Unit
asks_unlock c = asks (asks_for done_by (request.Unlock c))

-- READING

-- how many blocks were read, and their bytes
abbrev pub RecordRead : Type 0
RecordRead = ℕ × List ℕ

-- the bytes of pages, one page after another
abbrev pub joined : List (List ℕ) → List ℕ
joined [] = []
joined (page ∷ pages) = page ++ joined pages

abbrev pub asks_block : ℕ → ℕ → Files → FilesAct (List ℕ)
asks_block c block = asks (asks_for block_by (request.Get c block))

abbrev pub asks_pages : ℕ → ℕ → RecordSize → Files → FilesAct (List (List ℕ))
asks_pages c block size = asks (asks_for pages_by (request.GetRecord c block (blocks_of size)))

-- a record from this block on; one of one block is read by Get
abbrev pub fetches : ℕ → ℕ → RecordSize → Files → FilesAct RecordRead
fetches c block size files =
    if is_single size then (asks_block c block files then λ page. Gives (1, page))
    else (asks_pages c block size files then λ pages. Gives (length pages, joined pages))

-- WRITING

-- the first bytes as a page, with zeros after them
abbrev pub page_from : List ℕ → List ℕ
page_from bytes = take BLOCK_BYTES bytes ++ replicate (BLOCK_BYTES - length bytes) 0

-- this many pages of these bytes, one after another
abbrev pub pages_from : ℕ → List ℕ → List (List ℕ)
pages_from zero bytes = []
pages_from (suc more) bytes = page_from bytes ∷ pages_from more (drop BLOCK_BYTES bytes)

abbrev pub stores_block : ℕ → ℕ → List ℕ → Files → FilesAct Unit
stores_block c block bytes = asks (asks_for done_by (request.Put c block (page_from bytes)))

abbrev pub stores_pages : ℕ → ℕ → RecordSize → List ℕ → Files → FilesAct Unit
stores_pages c block size bytes =
    asks (asks_for done_by (request.PutRecord c block (pages_from (blocks_of size) bytes)))

-- these bytes as a record from this block on, with zeros after them; one of one block is written by
-- Put
abbrev pub stores : ℕ → ℕ → RecordSize → List ℕ → Files → FilesAct Unit
stores c block size bytes files =
    if is_single size then stores_block c block bytes files else stores_pages c block size bytes files

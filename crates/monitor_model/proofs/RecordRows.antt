-- Records of several blocks, computed on examples: a file of 4 blocks, and two channels that are
-- open on it for update.
use Rattle.std.proofs.Common.{◌≡◌, ℕ, List, [], ◌∷◌, refl, Some, None}
use Rattle.std.specs.FinMap.{empty}
use Rattle.monitor_calls.specs.declared.calls.Request.TheVariants.{GetRecord, PutRecord, Unlock}
use Rattle.monitor_calls.specs.declared.calls.Reply.TheVariants.{Done, Record, Failed}
use Rattle.monitor_calls.specs.FileNames.{same_name}
use Rattle.monitor_calls.specs.Pages.{zeros}
use Rattle.monitor_model.specs.Files.{written, pages_of}
use Rattle.monitor_model.specs.Jobs.{account_of, calls_of, channel_of, count}
use Rattle.monitor_model.specs.Holds.{HoldMap, holder, hold, release}
use Rattle.monitor_model.specs.State.{State}
use Rattle.monitor_model.specs.Answer.{answer}
use Rattle.monitor_model.proofs.HoldLemmas.{holder-empty, holder-insert, holder-release}
use Rattle.monitor_model.proofs.FileRows.{name, block, both_open, replies, then}

abbrev whole : List (List ℕ)
whole = block 1 ∷ block 2 ∷ block 3 ∷ block 4 ∷ []

abbrev open_on : HoldMap → ℕ → State
open_on holds calls = both_open holds whole calls

-- ONE AGAINST THE OTHER

-- what is held after the first read, that of the last block, the Unlock, and the next read
abbrev first_two : HoldMap
first_two = hold empty 0 1 name 1 2

abbrev and_last : HoldMap
and_last = hold first_two 0 2 name 4 1

abbrev last_alone : HoldMap
last_alone = release and_last 0 1

abbrev middle_two : HoldMap
middle_two = hold last_alone 0 2 name 2 2

-- both blocks are read and held
reads_two : answer (open_on empty 0) 0 (GetRecord 1 1 2) ≡ (open_on first_two 1, Record (block 1 ∷ block 2 ∷ []))
unfolding same_name account_of calls_of channel_of count pages_of
reads_two = simp (holder-empty) refl

-- if the other channel holds one of the blocks, none is held
holds_none : answer (open_on first_two 1) 0 (GetRecord 2 2 2) ≡ (open_on first_two 2, Failed 19)
unfolding same_name account_of calls_of channel_of count pages_of
holds_none = simp (holder-insert) refl

-- a record at the end of the file is shorter
reads_the_last : answer (open_on first_two 2) 0 (GetRecord 2 4 2) ≡ (open_on and_last 3, Record (block 4 ∷ []))
unfolding same_name account_of calls_of channel_of count pages_of
reads_the_last = simp (holder-insert, holder-release, holder-empty) refl

-- a write that is refused keeps what its channel held
writes_none : answer (open_on and_last 3) 0 (PutRecord 1 3 (block 5 ∷ block 6 ∷ [])) ≡ (open_on and_last 4, Failed 19)
unfolding same_name account_of calls_of channel_of count pages_of
writes_none = simp (holder-insert, holder-release, holder-empty) refl

lets_go : answer (open_on and_last 4) 0 (Unlock 1) ≡ (open_on last_alone 5, Done)
unfolding same_name account_of calls_of channel_of count
lets_go = refl

-- a read releases what its channel held
reads_the_middle : answer (open_on last_alone 5) 0 (GetRecord 2 2 2) ≡ (open_on middle_two 6, Record (block 2 ∷ block 3 ∷ []))
unfolding same_name account_of calls_of channel_of count pages_of
reads_the_middle = simp (holder-insert, holder-release, holder-empty) refl

one_against_the_other : replies (open_on empty 0) ((0, GetRecord 1 1 2) ∷ (0, GetRecord 2 2 2) ∷ (0, GetRecord 2 4 2) ∷ (0, PutRecord 1 3 (block 5 ∷ block 6 ∷ [])) ∷ (0, Unlock 1) ∷ (0, GetRecord 2 2 2) ∷ []) ≡
    Record (block 1 ∷ block 2 ∷ []) ∷ Failed 19 ∷ Record (block 4 ∷ []) ∷ Failed 19 ∷ Done ∷ Record (block 2 ∷ block 3 ∷ []) ∷ []
one_against_the_other =
    then (open_on empty 0) (open_on first_two 1) 0 (GetRecord 1 1 2) (Record (block 1 ∷ block 2 ∷ [])) ((0, GetRecord 2 2 2) ∷ (0, GetRecord 2 4 2) ∷ (0, PutRecord 1 3 (block 5 ∷ block 6 ∷ [])) ∷ (0, Unlock 1) ∷ (0, GetRecord 2 2 2) ∷ []) (Failed 19 ∷ Record (block 4 ∷ []) ∷ Failed 19 ∷ Done ∷ Record (block 2 ∷ block 3 ∷ []) ∷ []) reads_two
    (then (open_on first_two 1) (open_on first_two 2) 0 (GetRecord 2 2 2) (Failed 19) ((0, GetRecord 2 4 2) ∷ (0, PutRecord 1 3 (block 5 ∷ block 6 ∷ [])) ∷ (0, Unlock 1) ∷ (0, GetRecord 2 2 2) ∷ []) (Record (block 4 ∷ []) ∷ Failed 19 ∷ Done ∷ Record (block 2 ∷ block 3 ∷ []) ∷ []) holds_none
    (then (open_on first_two 2) (open_on and_last 3) 0 (GetRecord 2 4 2) (Record (block 4 ∷ [])) ((0, PutRecord 1 3 (block 5 ∷ block 6 ∷ [])) ∷ (0, Unlock 1) ∷ (0, GetRecord 2 2 2) ∷ []) (Failed 19 ∷ Done ∷ Record (block 2 ∷ block 3 ∷ []) ∷ []) reads_the_last
    (then (open_on and_last 3) (open_on and_last 4) 0 (PutRecord 1 3 (block 5 ∷ block 6 ∷ [])) (Failed 19) ((0, Unlock 1) ∷ (0, GetRecord 2 2 2) ∷ []) (Done ∷ Record (block 2 ∷ block 3 ∷ []) ∷ []) writes_none
    (then (open_on and_last 4) (open_on last_alone 5) 0 (Unlock 1) Done ((0, GetRecord 2 2 2) ∷ []) (Record (block 2 ∷ block 3 ∷ []) ∷ []) lets_go
    (then (open_on last_alone 5) (open_on middle_two 6) 0 (GetRecord 2 2 2) (Record (block 2 ∷ block 3 ∷ [])) [] [] reads_the_middle refl)))))

-- block by block: 2 and 3 are held by channel 2, and no other
first_is_free : holder middle_two name 1 ≡ None
unfolding same_name
first_is_free = simp (holder-insert, holder-release, holder-empty) refl

second_is_held : holder middle_two name 2 ≡ Some (0, 2)
unfolding same_name
second_is_held = simp (holder-insert) refl

third_is_held : holder middle_two name 3 ≡ Some (0, 2)
unfolding same_name
third_is_held = simp (holder-insert) refl

fourth_is_free : holder middle_two name 4 ≡ None
unfolding same_name
fourth_is_free = simp (holder-insert, holder-release, holder-empty) refl

-- REFUSALS, in the order of the table entry

-- a bad record size comes before a block that does not exist
too_many_asked : answer (open_on empty 0) 0 (GetRecord 1 0 4) ≡ (open_on empty 1, Failed 31)
unfolding same_name account_of calls_of channel_of count pages_of
too_many_asked = refl

none_asked : answer (open_on empty 0) 0 (GetRecord 1 1 0) ≡ (open_on empty 1, Failed 31)
unfolding same_name account_of calls_of channel_of count pages_of
none_asked = refl

from_block_0 : answer (open_on empty 0) 0 (GetRecord 1 0 3) ≡ (open_on empty 1, Failed 11)
unfolding same_name account_of calls_of channel_of count pages_of
from_block_0 = refl

past_the_end : answer (open_on empty 0) 0 (GetRecord 1 5 1) ≡ (open_on empty 1, Failed 11)
unfolding same_name account_of calls_of channel_of count pages_of
past_the_end = refl

no_such_channel : answer (open_on empty 0) 0 (GetRecord 13 1 1) ≡ (open_on empty 1, Failed 46)
unfolding account_of calls_of channel_of count
no_such_channel = refl

not_open : answer (open_on empty 0) 0 (PutRecord 3 1 (block 5 ∷ [])) ≡ (open_on empty 1, Failed 9)
unfolding account_of calls_of channel_of count
not_open = refl

writes_from_block_0 : answer (open_on empty 0) 0 (PutRecord 1 0 (block 5 ∷ [])) ≡ (open_on empty 1, Failed 31)
unfolding same_name account_of calls_of channel_of count
writes_from_block_0 = refl

writes_no_pages : answer (open_on empty 0) 0 (PutRecord 1 1 []) ≡ (open_on empty 1, Failed 31)
unfolding same_name account_of calls_of channel_of count
writes_no_pages = refl

-- HOW A FILE GROWS

abbrev seven : List (List ℕ)
seven = block 1 ∷ block 2 ∷ block 3 ∷ block 4 ∷ zeros ∷ block 6 ∷ block 7 ∷ []

-- by the whole record, with zeros in the blocks that were skipped
grows : answer (open_on empty 0) 0 (PutRecord 1 6 (block 6 ∷ block 7 ∷ [])) ≡ (both_open (release empty 0 1) seven 1, Done)
unfolding same_name account_of calls_of channel_of count written
grows = simp (holder-empty) refl

-- or not at all, if the disk has space for its first page alone
grows_not : answer (record (open_on empty 0) { blocks = 6 }) 0 (PutRecord 1 6 (block 6 ∷ block 7 ∷ [])) ≡ (record (open_on empty 1) { blocks = 6 }, Failed 4)
unfolding same_name account_of calls_of channel_of count
grows_not = simp (holder-empty) refl

-- Quotas, computed on examples: on a disk of 8 blocks, and which owner's quota limits a file.
use Rattle.std.proofs.Common.{◌≡◌, ℕ, true, false, List, [], ◌∷◌, replicate, refl, Some, None}
use Rattle.std.specs.Prelude.{codes}
use Rattle.std.specs.FinMap.{empty}
use Rattle.monitor_calls.specs.declared.names.Account.{Account}
use Rattle.monitor_calls.specs.declared.volumes.AccountEntry.{AccountEntry}
use Rattle.monitor_calls.specs.declared.files.FileEntry.{FileEntry}
use Rattle.monitor_calls.specs.declared.files.OpenKind.TheVariants.{Output}
use Rattle.monitor_calls.specs.declared.calls.Request.TheVariants.{OpenFile, Put, PutRecord}
use Rattle.monitor_calls.specs.declared.calls.Reply.TheVariants.{Done, Opened, Failed}
use Rattle.monitor_calls.specs.FileNames.{same_name}
use Rattle.monitor_calls.specs.Volumes.{is_good_entry, is_good_volume}
use Rattle.monitor_model.specs.Allows.{allows}
use Rattle.monitor_model.specs.Files.{written}
use Rattle.monitor_model.specs.Jobs.{account_of, calls_of, channel_of, count, set_channel}
use Rattle.monitor_model.specs.Holds.{HoldMap, release}
use Rattle.monitor_model.specs.State.{State}
use Rattle.monitor_model.specs.Answer.{may, free, left_to, answer}
use Rattle.monitor_model.proofs.HoldLemmas.{holder-empty, holder-release}
use Rattle.monitor_model.proofs.FileRows.{owner, fellow, operator, name, block, with_file, working, at}

abbrev entry_of_quota : Account → ℕ → AccountEntry
entry_of_quota account quota = record { account = account; password = codes "DEMO"; limit = 100; quota = quota }

-- VOLUMES

abbrev one_file : ℕ → List FileEntry
one_file blocks = record { name = name; code = 60; pages = replicate blocks [] } ∷ []

file_in_quota : is_good_volume 8 (entry_of_quota owner 2 ∷ []) (one_file 2) ≡ true
unfolding same_name
file_in_quota = refl

file_past_quota : is_good_volume 8 (entry_of_quota owner 1 ∷ []) (one_file 2) ≡ false
unfolding same_name
file_past_quota = refl

-- another account's quota does not matter to it
others_quota : is_good_volume 8 (entry_of_quota fellow 0 ∷ entry_of_quota owner 2 ∷ []) (one_file 2) ≡ true
unfolding same_name
others_quota = refl

greatest_quota : is_good_entry (entry_of_quota owner 16384) ≡ true
greatest_quota = refl

quota_past_any_disk : is_good_entry (entry_of_quota owner 16385) ≡ false
quota_past_any_disk = refl

-- WRITES. The owner's quota is 1 block, and the caller's is the second number

abbrev quota_1 : Account → ℕ → HoldMap → List (List ℕ) → ℕ → State
quota_1 caller quota holds pages calls =
    record (with_file 8 60 pages) {
      accounts = entry_of_quota owner 1 ∷ entry_of_quota caller quota ∷ [];
      jobs = working caller calls (None ∷ at ∷ replicate 11 None) ∷ [];
      holds = holds;
    }

-- by the owner: block 1 is written again, and block 2 is refused with 7 blocks free
abbrev by_owner : HoldMap → List (List ℕ) → ℕ → State
by_owner = quota_1 owner 8

writes_the_first : answer (by_owner empty (block 1 ∷ []) 0) 0 (Put 1 1 (block 2)) ≡ (by_owner (release empty 0 1) (block 2 ∷ []) 1, Done)
unfolding same_name account_of calls_of channel_of count written
writes_the_first = simp (holder-empty) refl

writes_no_second : answer (by_owner (release empty 0 1) (block 2 ∷ []) 1) 0 (Put 1 2 (block 3)) ≡ (by_owner (release empty 0 1) (block 2 ∷ []) 2, Failed 4)
unfolding same_name account_of calls_of channel_of count
writes_no_second = simp (holder-release, holder-empty) refl

seven_are_free : free (by_owner (release empty 0 1) (block 2 ∷ []) 2) ≡ 7
seven_are_free = refl

none_is_left : left_to (by_owner (release empty 0 1) (block 2 ∷ []) 2) owner ≡ 0
none_is_left = refl

-- all of a record is refused
writes_no_record : answer (by_owner empty (block 1 ∷ []) 0) 0 (PutRecord 1 1 (block 2 ∷ block 3 ∷ [])) ≡ (by_owner empty (block 1 ∷ []) 1, Failed 4)
unfolding same_name account_of calls_of channel_of count
writes_no_record = simp (holder-empty) refl

-- by another account, which has no quota at all: the file is made anew, and its owner's quota
-- limits it
abbrev by_stranger : HoldMap → List (List ℕ) → ℕ → State
by_stranger = quota_1 operator 0

abbrev unopened : State
unopened = record (by_stranger empty (block 1 ∷ []) 0) { jobs = working operator 0 (replicate 13 None) ∷ [] }

abbrev opened : HoldMap → List (List ℕ) → ℕ → State
opened holds pages calls =
    record (by_stranger holds pages calls) {
      jobs = working operator calls (None ∷ Some (record { name = name; update = false; read = true; write = true }) ∷ replicate 11 None) ∷ [];
    }

made_anew : answer unopened 0 (OpenFile 1 name Output false None) ≡ (opened empty [] 1, Opened 0 true true)
unfolding same_name account_of calls_of channel_of count set_channel may allows
made_anew = refl

grows_to_the_quota : answer (opened empty [] 1) 0 (Put 1 1 (block 2)) ≡ (opened (release empty 0 1) (block 2 ∷ []) 2, Done)
unfolding same_name account_of calls_of channel_of count written
grows_to_the_quota = simp (holder-empty) refl

and_no_further : answer (opened (release empty 0 1) (block 2 ∷ []) 2) 0 (Put 1 2 (block 3)) ≡ (opened (release empty 0 1) (block 2 ∷ []) 3, Failed 4)
unfolding same_name account_of calls_of channel_of count
and_no_further = simp (holder-release, holder-empty) refl

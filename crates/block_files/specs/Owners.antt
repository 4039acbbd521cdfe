-- The blocks of each owner's files, counted by account.
use Rattle.std.specs.Prelude.{◌≡◌, ℕ, ◌+◌, ◌*◌, ◌<◌, List, get_or}
use Rattle.std.proofs.Common.{set}
use Rattle.monitor_calls.specs.declared.names.Account.{Account}
use Rattle.monitor_model.specs.Files.{File, blocks_owned}

-- the place of an account's count
abbrev pub slot : Account → ℕ
slot owner = owner.project * 256 + owner.programmer

abbrev pub count_at : List ℕ → Account → ℕ
count_at counts owner = get_or counts (slot owner) 0

abbrev pub with_count : List ℕ → Account → ℕ → List ℕ
with_count counts owner count = set counts (slot owner) count

-- an account that there can be
abbrev pub IsAccount : Account → Type 0
IsAccount owner = (owner.project < 256) × (owner.programmer < 256)

-- the count of each account is that of the blocks of its files
abbrev pub AreCounted : List ℕ → List File → Type 0
AreCounted counts files =
    (owner : Account) → IsAccount owner → count_at counts owner ≡ blocks_owned files owner

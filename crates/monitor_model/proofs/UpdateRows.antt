-- The smallest histories of two jobs that update one block: unsafe without update mode, safe with
-- it.
use Rattle.std.proofs.Common.{◌≡◌, ℕ, ◌<◌, suc, Bool, true, false, List, [], ◌∷◌, ◌++◌, length, drop, replicate, refl, sym, ap, ◌∙◌, subst, lit<, Some, None}
use Rattle.std.specs.Prelude.{Option}
use Rattle.std.specs.FinMap.{empty}
use Rattle.monitor_calls.specs.declared.calls.Entry.{Entry}
use Rattle.monitor_calls.specs.declared.calls.Request.{Request}
use Rattle.monitor_calls.specs.declared.calls.Request.TheVariants.{Get, Put}
use Rattle.monitor_calls.specs.declared.calls.Reply.{Reply}
use Rattle.monitor_calls.specs.declared.calls.Reply.TheVariants.{Done, Block, Failed}
use Rattle.monitor_calls.specs.FileNames.{same_name}
use Rattle.monitor_model.specs.declared.entries.ChannelEntry.{ChannelEntry}
use Rattle.monitor_model.specs.Files.{written}
use Rattle.monitor_model.specs.Jobs.{account_of, calls_of, channel_of, count}
use Rattle.monitor_model.specs.Holds.{HoldMap, hold, release}
use Rattle.monitor_model.specs.State.{State}
use Rattle.monitor_model.specs.Answer.{answer}
use Rattle.monitor_model.specs.History.{entry_for, Legal}
use Rattle.monitor_model.specs.Updates.{UnsafeUpdate, unsafe_in, unsafe_from, unsafe_updates}
use Rattle.monitor_model.proofs.HoldLemmas.{holder-empty, holder-insert, holder-release}
use Rattle.monitor_model.proofs.FileRows.{owner, name, block, with_file, working}

-- the channel of each clerk, opened for update or not
abbrev channel_for : Bool → Option ChannelEntry
channel_for update = Some (record { name = name; update = update; read = true; write = true })

-- two jobs of the owner, each with channel 1 open on the file, and how many calls they have made
abbrev clerks : Bool → HoldMap → List (List ℕ) → ℕ → ℕ → State
clerks update holds pages first second =
    record (with_file 8 60 pages) {
      jobs = working owner first (None ∷ channel_for update ∷ replicate 11 None) ∷ working owner second (None ∷ channel_for update ∷ replicate 11 None) ∷ [];
      holds = holds;
    }

-- a history so far is legal and has these unsafe writings
abbrev Shows : State → ℕ → List Entry → List UnsafeUpdate → Type 0
Shows m place history found = Legal m history × (unsafe_from m place history ≡ found)

-- one call more, before the others
step : (m new : State) (place job : ℕ) (request : Request) (told : Reply) (rest : List Entry) (here more : List UnsafeUpdate) → job < length m.jobs → answer m job request ≡ (new, told) → unsafe_in m place (entry_for job request told) ≡ here → Shows new (suc place) rest more → Shows m place (entry_for job request told ∷ rest) (here ++ more)
step m new place job request told rest here more is_job is found behind = (
  (record { is_job = is_job; reply_is = sym (ap (λ out. out.1) is) }, subst (λ s. Legal s rest) (sym (ap (λ out. out.0) is)) behind.0),
  λ i. found i ++ (ap (λ s. unsafe_from s (suc place) rest) (ap (λ out. out.0) is) ∙ behind.1) i,
)

abbrev one : List (List ℕ)
one = block 1 ∷ []

abbrev unsafe_at : ℕ → ℕ → UnsafeUpdate
unsafe_at place job = record { place = place; job = job; name = name; block = 1 }

-- WITHOUT UPDATE MODE: both read the block, and both write: one count is lost

abbrev freed : HoldMap
freed = release empty 0 1

first_reads : answer (clerks false empty one 0 0) 0 (Get 1 1) ≡ (clerks false empty one 1 0, Block (block 1))
unfolding same_name account_of calls_of channel_of count
first_reads = simp (holder-empty) refl

second_reads : answer (clerks false empty one 1 0) 1 (Get 1 1) ≡ (clerks false empty one 1 1, Block (block 1))
unfolding same_name account_of calls_of channel_of count
second_reads = simp (holder-empty) refl

first_writes : answer (clerks false empty one 1 1) 0 (Put 1 1 (block 2)) ≡ (clerks false freed (block 2 ∷ []) 2 1, Done)
unfolding same_name account_of calls_of channel_of count written
first_writes = simp (holder-empty) refl

second_writes : answer (clerks false freed (block 2 ∷ []) 2 1) 1 (Put 1 1 (block 2)) ≡ (clerks false (release freed 1 1) (block 2 ∷ []) 2 2, Done)
unfolding same_name account_of calls_of channel_of count written
second_writes = simp (holder-release, holder-empty) refl

first_is_unsafe : unsafe_in (clerks false empty one 1 1) 3 (entry_for 0 (Put 1 1 (block 2)) Done) ≡ unsafe_at 3 0 ∷ []
unfolding same_name channel_of
first_is_unsafe = simp (holder-empty) refl

second_is_unsafe : unsafe_in (clerks false freed (block 2 ∷ []) 2 1) 4 (entry_for 1 (Put 1 1 (block 2)) Done) ≡ unsafe_at 4 1 ∷ []
unfolding same_name channel_of
second_is_unsafe = simp (holder-release, holder-empty) refl

abbrev lost_update : List Entry
lost_update =
    entry_for 0 (Get 1 1) (Block (block 1)) ∷ entry_for 1 (Get 1 1) (Block (block 1))
    ∷ entry_for 0 (Put 1 1 (block 2)) Done ∷ entry_for 1 (Put 1 1 (block 2)) Done ∷ []

without_update_mode : Legal (clerks false empty one 0 0) lost_update × (unsafe_updates (clerks false empty one 0 0) lost_update ≡ unsafe_at 3 0 ∷ unsafe_at 4 1 ∷ [])
without_update_mode =
    step (clerks false empty one 0 0) (clerks false empty one 1 0) 1 0 (Get 1 1) (Block (block 1)) (drop 1 lost_update) [] (unsafe_at 3 0 ∷ unsafe_at 4 1 ∷ []) (lit< tt) first_reads refl
    (step (clerks false empty one 1 0) (clerks false empty one 1 1) 2 1 (Get 1 1) (Block (block 1)) (drop 2 lost_update) [] (unsafe_at 3 0 ∷ unsafe_at 4 1 ∷ []) (lit< tt) second_reads refl
    (step (clerks false empty one 1 1) (clerks false freed (block 2 ∷ []) 2 1) 3 0 (Put 1 1 (block 2)) Done (drop 3 lost_update) (unsafe_at 3 0 ∷ []) (unsafe_at 4 1 ∷ []) (lit< tt) first_writes first_is_unsafe
    (step (clerks false freed (block 2 ∷ []) 2 1) (clerks false (release freed 1 1) (block 2 ∷ []) 2 2) 4 1 (Put 1 1 (block 2)) Done [] (unsafe_at 4 1 ∷ []) [] (lit< tt) second_writes second_is_unsafe (tt, refl))))

-- IN UPDATE MODE: the second is refused until the first has written, and reads what that wrote

abbrev locked : HoldMap
locked = hold empty 0 1 name 1 1

abbrev unlocked : HoldMap
unlocked = release locked 0 1

abbrev locked_again : HoldMap
locked_again = hold unlocked 1 1 name 1 1

first_locks : answer (clerks true empty one 0 0) 0 (Get 1 1) ≡ (clerks true locked one 1 0, Block (block 1))
unfolding same_name account_of calls_of channel_of count
first_locks = simp (holder-empty) refl

second_is_refused : answer (clerks true locked one 1 0) 1 (Get 1 1) ≡ (clerks true locked one 1 1, Failed 19)
unfolding same_name account_of calls_of channel_of count
second_is_refused = simp (holder-insert) refl

first_updates : answer (clerks true locked one 1 1) 0 (Put 1 1 (block 2)) ≡ (clerks true unlocked (block 2 ∷ []) 2 1, Done)
unfolding same_name account_of calls_of channel_of count written
first_updates = simp (holder-insert) refl

second_locks : answer (clerks true unlocked (block 2 ∷ []) 2 1) 1 (Get 1 1) ≡ (clerks true locked_again (block 2 ∷ []) 2 2, Block (block 2))
unfolding same_name account_of calls_of channel_of count
second_locks = simp (holder-release, holder-insert) refl

second_updates : answer (clerks true locked_again (block 2 ∷ []) 2 2) 1 (Put 1 1 (block 3)) ≡ (clerks true (release locked_again 1 1) (block 3 ∷ []) 2 3, Done)
unfolding same_name account_of calls_of channel_of count written
second_updates = simp (holder-insert) refl

first_is_safe : unsafe_in (clerks true locked one 1 1) 3 (entry_for 0 (Put 1 1 (block 2)) Done) ≡ []
unfolding same_name channel_of
first_is_safe = simp (holder-insert) refl

second_is_safe : unsafe_in (clerks true locked_again (block 2 ∷ []) 2 2) 5 (entry_for 1 (Put 1 1 (block 3)) Done) ≡ []
unfolding same_name channel_of
second_is_safe = simp (holder-insert) refl

abbrev kept_update : List Entry
kept_update =
    entry_for 0 (Get 1 1) (Block (block 1)) ∷ entry_for 1 (Get 1 1) (Failed 19)
    ∷ entry_for 0 (Put 1 1 (block 2)) Done ∷ entry_for 1 (Get 1 1) (Block (block 2))
    ∷ entry_for 1 (Put 1 1 (block 3)) Done ∷ []

in_update_mode : Legal (clerks true empty one 0 0) kept_update × (unsafe_updates (clerks true empty one 0 0) kept_update ≡ [])
in_update_mode =
    step (clerks true empty one 0 0) (clerks true locked one 1 0) 1 0 (Get 1 1) (Block (block 1)) (drop 1 kept_update) [] [] (lit< tt) first_locks refl
    (step (clerks true locked one 1 0) (clerks true locked one 1 1) 2 1 (Get 1 1) (Failed 19) (drop 2 kept_update) [] [] (lit< tt) second_is_refused refl
    (step (clerks true locked one 1 1) (clerks true unlocked (block 2 ∷ []) 2 1) 3 0 (Put 1 1 (block 2)) Done (drop 3 kept_update) [] [] (lit< tt) first_updates first_is_safe
    (step (clerks true unlocked (block 2 ∷ []) 2 1) (clerks true locked_again (block 2 ∷ []) 2 2) 4 1 (Get 1 1) (Block (block 2)) (drop 4 kept_update) [] [] (lit< tt) second_locks refl
    (step (clerks true locked_again (block 2 ∷ []) 2 2) (clerks true (release locked_again 1 1) (block 3 ∷ []) 2 3) 5 1 (Put 1 1 (block 3)) Done [] [] [] (lit< tt) second_updates second_is_safe (tt, refl)))))

-- The printer, computed on examples: who gets it, and which print jobs a history has.
use Rattle.std.proofs.Common.{◌≡◌, ℕ, List, [], ◌∷◌, replicate, refl, None}
use Rattle.std.specs.Prelude.{codes}
use Rattle.monitor_calls.specs.declared.calls.Entry.{Entry}
use Rattle.monitor_calls.specs.declared.calls.Request.{Request}
use Rattle.monitor_calls.specs.declared.calls.Request.TheVariants.{Login, Logout, Tick, Assign, Deassign, OpenPrinter, Print, ClosePrinter}
use Rattle.monitor_calls.specs.declared.calls.Reply.TheVariants.{Done, Failed, Expired}
use Rattle.monitor_model.specs.Jobs.{account_of, calls_of, log_in, count, end_job}
use Rattle.monitor_model.specs.State.{State, opening}
use Rattle.monitor_model.specs.History.{entry_for}
use Rattle.monitor_model.specs.Listings.{printed, listings, joined}
use Rattle.monitor_model.proofs.FileRows.{owner, fellow, entry_with, with_file, replies}

abbrev start : State
start = with_file 8 60 []

free_at_first : (opening (entry_with owner 100 ∷ []) 8 [] 2).printer ≡ None
free_at_first = refl

-- WHO GETS IT

-- one job has it assigned, then the other opens it
one_after_the_other : replies start ((0, Login owner (codes "DEMO")) ∷ (1, Login fellow (codes "DEMO")) ∷ (0, Assign) ∷ (1, OpenPrinter) ∷ (0, Deassign) ∷ (1, OpenPrinter) ∷ (1, OpenPrinter) ∷ []) ≡
    Done ∷ Done ∷ Done ∷ Failed 8 ∷ Done ∷ Done ∷ Failed 3 ∷ []
unfolding account_of calls_of log_in count
one_after_the_other = refl

-- each refusal of the table entries
refused : replies start ((0, Login owner (codes "DEMO")) ∷ (1, Login fellow (codes "DEMO")) ∷ (0, Deassign) ∷ (0, Print []) ∷ (0, ClosePrinter) ∷ (0, OpenPrinter) ∷ (0, Deassign) ∷ (0, Print (replicate 512 1)) ∷ (0, Print (replicate 513 1)) ∷ (1, Assign) ∷ (1, OpenPrinter) ∷ (1, Deassign) ∷ (1, Print []) ∷ (1, ClosePrinter) ∷ []) ≡
    Done ∷ Done ∷ Failed 9 ∷ Failed 9 ∷ Failed 9 ∷ Done ∷ Failed 3 ∷ Done ∷ Failed 31 ∷ Failed 8 ∷ Failed 8 ∷ Failed 9 ∷ Failed 9 ∷ Failed 9 ∷ []
unfolding account_of calls_of log_in count
refused = refl

-- a print job leaves it free
free_behind_a_listing : replies start ((0, Login owner (codes "DEMO")) ∷ (1, Login fellow (codes "DEMO")) ∷ (0, OpenPrinter) ∷ (0, ClosePrinter) ∷ (1, Assign) ∷ []) ≡
    Done ∷ Done ∷ Done ∷ Done ∷ Done ∷ []
unfolding account_of calls_of log_in count
free_behind_a_listing = refl

-- if it is assigned, before or during the print job, it stays so until the end of its job
assigned_behind_a_listing : replies start ((0, Login owner (codes "DEMO")) ∷ (1, Login fellow (codes "DEMO")) ∷ (0, OpenPrinter) ∷ (0, Assign) ∷ (0, ClosePrinter) ∷ (1, Assign) ∷ (0, Logout) ∷ (1, Assign) ∷ []) ≡
    Done ∷ Done ∷ Done ∷ Done ∷ Done ∷ Failed 8 ∷ Done ∷ Done ∷ []
unfolding account_of calls_of log_in count end_job
assigned_behind_a_listing = refl

-- the last call of a job frees it too
free_behind_the_last_call : replies (record start { accounts = entry_with owner 2 ∷ entry_with fellow 100 ∷ [] }) ((0, Login owner (codes "DEMO")) ∷ (1, Login fellow (codes "DEMO")) ∷ (0, OpenPrinter) ∷ (0, Tick) ∷ (1, OpenPrinter) ∷ []) ≡
    Done ∷ Done ∷ Done ∷ Expired ∷ Done ∷ []
unfolding account_of calls_of log_in count end_job
free_behind_the_last_call = refl

-- PRINT JOBS

abbrev line : List ℕ → Request
line text = Print text

-- two print jobs of one job, and one of another; what was refused is no part of them, and the last
-- goes on
abbrev history : List Entry
history =
    entry_for 0 OpenPrinter Done
    ∷ entry_for 0 (line (codes "A")) Done
    ∷ entry_for 1 OpenPrinter (Failed 8)
    ∷ entry_for 0 (line (replicate 513 1)) (Failed 31)
    ∷ entry_for 0 (line (codes "B")) Done
    ∷ entry_for 0 ClosePrinter Done
    ∷ entry_for 0 (line (codes "C")) (Failed 9)
    ∷ entry_for 1 OpenPrinter Done
    ∷ entry_for 1 (line (codes "D")) Done
    ∷ entry_for 1 Logout Done
    ∷ entry_for 0 OpenPrinter Done
    ∷ entry_for 1 ClosePrinter (Failed 9)
    ∷ entry_for 0 (line (codes "E")) Done
    ∷ []

three_listings : listings history ≡ (0, codes "AB") ∷ (1, codes "D") ∷ (0, codes "E") ∷ []
three_listings = refl

all_printed : printed history ≡ codes "ABDE"
all_printed = refl

all_joined : joined (listings history) ≡ codes "ABDE"
all_joined = refl

-- an empty print job counts as one; Expired ends one
empty_listings : listings (entry_for 0 OpenPrinter Done ∷ entry_for 0 Tick Expired ∷ entry_for 1 OpenPrinter Done ∷ []) ≡ (0, []) ∷ (1, []) ∷ []
empty_listings = refl

-- Examples of which reply fits which request.
use Rattle.std.proofs.Common.{◌≡◌, ℕ, true, false, List, [], refl, replicate}
use Rattle.monitor_calls.specs.declared.names.Account.{Account}
use Rattle.monitor_calls.specs.declared.calls.Request.TheVariants.{Logout, Get, Put, GetRecord, PutRecord, Receive, Tick, Assign, Print, Status}
use Rattle.monitor_calls.specs.declared.calls.Reply.TheVariants.{Done, Block, Record, Message, State, Failed, Expired}
use Rattle.job_model.specs.Asking.{fits, counts_as}

abbrev so_many : ℕ → List (List ℕ)
so_many count = replicate count []

abbrev caller : Account
caller = record { project = 100; programmer = 5 }

-- RECORDS: from 1 page to as many as were asked, of blocks that a disk can have

record_of_one : fits (GetRecord 1 1 3) (Record (so_many 1)) ≡ true
record_of_one = refl

record_whole : fits (GetRecord 1 16382 3) (Record (so_many 3)) ≡ true
record_whole = refl

record_empty : fits (GetRecord 1 1 3) (Record (so_many 0)) ≡ false
record_empty = refl

record_too_long : fits (GetRecord 1 1 2) (Record (so_many 3)) ≡ false
record_too_long = refl

record_from_0 : fits (GetRecord 1 0 3) (Record (so_many 1)) ≡ false
record_from_0 = refl

record_past_any_disk : fits (GetRecord 1 16383 3) (Record (so_many 3)) ≡ false
record_past_any_disk = refl

-- a record that ends with the disk is shorter
record_at_the_end : fits (GetRecord 1 16383 3) (Record (so_many 2)) ≡ true
record_at_the_end = refl

-- neither a block to the one nor a record to the other
block_to_a_record : fits (GetRecord 1 1 1) (Block []) ≡ false
block_to_a_record = refl

record_to_a_block : fits (Get 1 1) (Record (so_many 1)) ≡ false
record_to_a_block = refl

done_to_a_record : fits (GetRecord 1 1 1) Done ≡ false
done_to_a_record = refl

writing_whole : fits (PutRecord 1 16382 (so_many 3)) Done ≡ true
writing_whole = refl

writing_past_any_disk : fits (PutRecord 1 16383 (so_many 3)) Done ≡ false
writing_past_any_disk = refl

writing_from_0 : fits (PutRecord 1 0 (so_many 1)) Done ≡ false
writing_from_0 = refl

writing_a_block : fits (Put 1 16385 []) Done ≡ false
writing_a_block = refl

-- THE PRINTER: Done and refusals

printed : fits (Print []) Done ≡ true
printed = refl

refused_the_printer : fits Assign (Failed 8) ≡ true
refused_the_printer = refl

-- THE OTHER BOUNDS

no_error : fits Assign (Failed 71) ≡ false
no_error = refl

refused_tick : fits Tick (Failed 5) ≡ false
refused_tick = refl

message_of_a_job : fits Receive (Message 62 caller []) ≡ true
message_of_a_job = refl

message_of_no_job : fits Receive (Message 63 caller []) ≡ false
message_of_no_job = refl

so_many_calls : fits Status (State 0 caller 16384) ≡ true
so_many_calls = refl

too_many_calls : fits Status (State 0 caller 16385) ≡ false
too_many_calls = refl

-- WHAT DOES NOT FIT

ends_the_job : counts_as (GetRecord 1 1 3) Done ≡ Expired
ends_the_job = refl

ends_a_logout : counts_as Logout Expired ≡ Done
ends_a_logout = refl

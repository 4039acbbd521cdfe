-- The places of the entries of two jobs, computed.
use Rattle.std.proofs.Common.{◌≡◌, List, [], ◌∷◌, refl}
use Rattle.monitor_calls.specs.declared.calls.Entry.{Entry}
use Rattle.monitor_calls.specs.declared.calls.Request.TheVariants.{Tick}
use Rattle.monitor_calls.specs.declared.calls.Reply.TheVariants.{Done}
use Rattle.monitor_model.specs.History.{entry_for}
use Rattle.history_replay.specs.Disputes.{entry_position}

-- the entries of jobs 1, 0, 0, 1 and 2
abbrev five : List Entry
five = entry_for 1 Tick Done ∷ entry_for 0 Tick Done ∷ entry_for 0 Tick Done ∷ entry_for 1 Tick Done ∷ entry_for 2 Tick Done ∷ []

first_of_each : (entry_position 0 0 five ≡ 1) × (entry_position 1 0 five ≡ 0) × (entry_position 2 0 five ≡ 4)
first_of_each = (refl, refl, refl)

second_of_each : (entry_position 0 1 five ≡ 2) × (entry_position 1 1 five ≡ 3) × (entry_position 2 1 five ≡ 5)
second_of_each = (refl, refl, refl)

none_is_behind : (entry_position 3 0 five ≡ 5) × (entry_position 0 2 five ≡ 5) × (entry_position 0 0 [] ≡ 0)
none_is_behind = (refl, refl, refl)

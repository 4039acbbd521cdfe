-- What a gate, the seat of a job and the spare seat are to a contract, and how passes change as
-- seats are split off and joined.
use Rattle.std.specs.Prelude.{◌+◌, List, [], ◌∷◌, ◌++◌, length, nat_lt, if◌then◌else◌}
use Rattle.atomic_table.specs.Seated.{TableId}
use Rattle.monitor_calls.specs.declared.calls.Entry.{Entry}
use Rattle.monitor_model.specs.State.{State}
use Rattle.monitor_gate.specs.declared.views.Pass.{Pass}
use Rattle.monitor_gate.specs.declared.views.SparePass.{SparePass}

-- which gate it is, and the state that its monitor had when it was made
pub record GateValue : Type 0 where
  pub gate : TableId
  pub opening : State

-- the gate that the seat belongs to, and the seat's pass
pub record SeatValue : Type 0 where
  pub gate : TableId
  pub pass : Pass

pub record SpareValue : Type 0 where
  pub gate : TableId
  pub pass : SparePass

abbrev pub gate_value : TableId → State → GateValue
gate_value gate opening = record { gate = gate; opening = opening }

abbrev pub seat_value : TableId → Pass → SeatValue
seat_value gate pass = record { gate = gate; pass = pass }

abbrev pub spare_value : TableId → SparePass → SpareValue
spare_value gate pass = record { gate = gate; pass = pass }

-- the spare pass of a new gate
abbrev pub first_pass : State → SparePass
first_pass opening = record { opening = opening; made = 0; seen = []; ended = [] }

-- the spare pass after a split: one more was made
abbrev pub after_split : SparePass → SparePass
after_split spare = record { opening = spare.opening; made = spare.made + 1; seen = spare.seen; ended = spare.ended }

-- the pass that is split off: it is of the next job, it has seen what the spare one has, and it has
-- made no calls
abbrev pub split_off : SparePass → Pass
split_off spare = record { opening = spare.opening; job = spare.made; seen = spare.seen; mine = [] }

abbrev pub longer : List Entry → List Entry → List Entry
longer seen seen' = if nat_lt (length seen) (length seen') then seen' else seen

-- the spare pass after a join: it keeps the ended pass, and has seen the longer of what both have
abbrev pub after_join : SparePass → Pass → SparePass
after_join spare pass = record {
  opening = spare.opening;
  made = spare.made;
  seen = longer spare.seen pass.seen;
  ended = spare.ended ++ pass ∷ [];
}

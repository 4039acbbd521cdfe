use Rattle.std.proofs.Common.{◌≡◌, take}
use Rattle.monitor_model.specs.History.{after, Legal}
use Rattle.history_replay.proofs.answers.after_history.Given as goal

-- the entries so far are answered so, and the monitor is in the state after them
abbrev pub invariant-loop-place : goal.invariant-loop-place
invariant-loop-place l = record {
  legal : Legal l.initial.monitor (take l.place l.history);
  state : l.monitor ≡ after l.initial.monitor (take l.place l.history);
}

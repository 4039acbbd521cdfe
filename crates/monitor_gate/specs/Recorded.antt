-- What an answer does to a monitor and its history.
use Rattle.std.specs.Prelude.{◌≡◌, ℕ, [], ◌∷◌, ◌++◌}
use Rattle.monitor_calls.specs.declared.calls.Request.{Request}
use Rattle.monitor_calls.specs.declared.calls.Reply.{Reply}
use Rattle.monitor_calls.specs.Proper.{IsProperEntry}
use Rattle.monitor_model.specs.Answer.{next, reply}
use Rattle.monitor_model.specs.History.{entry_for}
use Rattle.monitor_gate.specs.declared.recorded.RecordedMonitor.{RecordedMonitor}

-- the monitor answered once, and the history has the entry
pub record Answered (job : ℕ) (request : Request) (answer : Reply) (old new : RecordedMonitor) : Type 0 where
  pub reply_is : answer ≡ reply old.monitor job request
  pub state : new.monitor ≡ next old.monitor job request
  pub items : new.history.items ≡ old.history.items ++ entry_for job request answer ∷ []
  pub proper : IsProperEntry (entry_for job request answer)

pub record IsSame (old new : RecordedMonitor) : Type 0 where
  pub state : new.monitor ≡ old.monitor
  pub items : new.history.items ≡ old.history.items

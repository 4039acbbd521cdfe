-- One history: what the seat that made a call on a gate learns, and what is true of the whole
-- history at the end.
use Rattle.std.specs.Prelude.{◌≡◌, ℕ, ◌<◌, ◌≤◌, List, [], ◌∷◌, ◌++◌}
use mathlib.Core.Option.{some}
use lib.ListN.{get_elem?}
use Rattle.monitor_calls.specs.declared.calls.Entry.{Entry}
use Rattle.monitor_calls.specs.declared.calls.Request.{Request}
use Rattle.monitor_calls.specs.declared.calls.Reply.{Reply}
use Rattle.monitor_calls.specs.Proper.{Proper}
use Rattle.monitor_model.specs.State.{State}
use Rattle.monitor_model.specs.Answer.{reply}
use Rattle.monitor_model.specs.History.{entry_for, after, Legal, part_of}
use Rattle.monitor_gate.specs.declared.views.Pass.{Pass}
use Rattle.monitor_gate.specs.declared.views.SparePass.{SparePass}

-- the history begins with what was seen of it
abbrev pub StartsWith : List Entry → List Entry → Type 0
StartsWith history seen = (more : List Entry) × (history ≡ seen ++ more)

-- A monitor that began in this state makes this history. Each reply is its answer in the state at
-- that place, and each number and string is in the range of its type.
pub record IsHistory (opening : State) (history : List Entry) : Type 0 where
  pub legal : Legal opening history
  pub proper : Proper history

-- the pass after a call that found this history
abbrev pub after_call : Pass → List Entry → Request → Reply → Pass
after_call pass found request answer = record {
  opening = pass.opening;
  job = pass.job;
  seen = found ++ entry_for pass.job request answer ∷ [];
  mine = pass.mine ++ (request, answer) ∷ [];
}

-- The call found a history that begins with what the pass had seen. The reply is the monitor's in
-- the state after that history, and the call is the next entry, of the history and of the pass
pub record Asked (pass : Pass) (request : Request) (answer : Reply) (pass' : Pass) : Type 0 where
  pub found : List Entry
  pub seen : StartsWith found pass.seen
  pub is_history : IsHistory pass.opening (found ++ entry_for pass.job request answer ∷ [])
  pub reply_is : answer ≡ reply (after pass.opening found) pass.job request
  pub pass_is : pass' ≡ after_call pass found request answer

-- the history begins with what the pass has seen, and the pass has all pairs of its job
pub record IsPassOf (history : List Entry) (pass : Pass) : Type 0 where
  pub seen : StartsWith history pass.seen
  pub mine : part_of pass.job history ≡ pass.mine

-- the pass of this job is among these
abbrev pub Among : List Pass → ℕ → Type 0
Among passes job = (k : ℕ) × (pass : Pass) × (get_elem? passes k ≡ some pass) × (pass.job ≡ job)

-- The history of a gate at its end, by its spare pass. Each seat that was split off has its pass
-- among the ended ones, and no other job has an entry
pub record OneHistory (spare : SparePass) (history : List Entry) : Type 0 where
  pub is_history : IsHistory spare.opening history
  pub seen : StartsWith history spare.seen
  pub every : (job : ℕ) → job < spare.made → Among spare.ended job
  pub passes : (k : ℕ) (pass : Pass) → get_elem? spare.ended k ≡ some pass → IsPassOf history pass
  pub no_others : (job : ℕ) → spare.made ≤ job → part_of job history ≡ []

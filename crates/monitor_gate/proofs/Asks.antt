-- What a pass with the turn knows, once the monitor in its hands has answered.
use Rattle.std.proofs.Common.{◌≡◌, ◌<◌, List, [], ◌∷◌, ◌++◌, Some, None, length, refl, sym, ap, ◌∙◌, subst}
use Rattle.atomic_table.specs.Table.{rest}
use Rattle.monitor_calls.specs.declared.calls.Entry.{Entry}
use Rattle.monitor_calls.specs.declared.calls.Request.{Request}
use Rattle.monitor_calls.specs.declared.calls.Reply.{Reply}
use Rattle.monitor_calls.specs.Pairs.{Pair}
use Rattle.monitor_model.specs.State.{State}
use Rattle.monitor_model.specs.Answer.{next, reply}
use Rattle.monitor_model.specs.History.{entry_for, part_of}
use Rattle.monitor_model.proofs.Histories.{after_push, jobs_after, part_push}
use Rattle.monitor_gate.specs.declared.recorded.RecordedMonitor.{RecordedMonitor}
use Rattle.monitor_gate.specs.declared.views.Pass.{Pass}
use Rattle.monitor_gate.specs.declared.views.Knows.TheVariants.{Asks, HasTurn}
use Rattle.monitor_gate.specs.OneHistory.{IsHistory, Asked}
use Rattle.monitor_gate.specs.Recorded.{Answered}
use Rattle.monitor_gate.specs.Turns.{Hand, Records, Found, grown, pass_of, history_in}
use Rattle.monitor_gate.proofs.Histories.{is_history_push}

-- the monitor is put back into the slot
pub put_in : (p : Pass) (found : List Entry) (kept : RecordedMonitor) (hand hand' : Hand) → hand ≡ (HasTurn p found, (0, None) ∷ []) → hand' ≡ (hand.0, (0, Some kept) ∷ rest hand.1) → hand' ≡ (HasTurn p found, (0, Some kept) ∷ [])
put_in p found kept hand hand' was is = is ∙ ap (λ (x : Hand). (x.0, (0, Some kept) ∷ rest x.1)) was

-- the pass's job is one of the monitor's
pub job_there : (p : Pass) (kept : RecordedMonitor) → Found p kept → p.job < length kept.monitor.jobs
job_there p kept found =
    subst (λ n. p.job < n) (sym (ap (λ (m : State). length m.jobs) found.state ∙ jobs_after p.opening kept.history.items)) found.is_job

module _ (p : Pass) (kept new : RecordedMonitor) (request : Request) (answer : Reply) where
  pub history_after : Found p kept → Answered p.job request answer kept new → IsHistory p.opening (kept.history.items ++ entry_for p.job request answer ∷ [])
  history_after found did =
      is_history_push p.opening kept.history.items (entry_for p.job request answer) found.is_history (record {
        is_job = subst (λ (m : State). p.job < length m.jobs) found.state (job_there p kept found);
        reply_is = did.reply_is ∙ ap (λ (m : State). reply m p.job request) found.state;
      }) did.proper

  pub records_after : Found p kept → Answered p.job request answer kept new → Records p.opening (kept.history.items ++ entry_for p.job request answer ∷ []) new
  records_after found did = record {
    items = did.items;
    state = did.state ∙ ap (λ (m : State). next m p.job request) found.state ∙ sym (after_push p.opening kept.history.items (entry_for p.job request answer));
  }

  pub asked : (held last : Hand) → Found p kept → Answered p.job request answer kept new → held ≡ (HasTurn p kept.history.items, (0, Some new) ∷ []) → last ≡ (Asks (grown (pass_of held.0) (history_in held.1)), []) → Asked p request answer (pass_of last.0)
  asked held last found did has is =
      let entry = entry_for p.job request answer in
      let mine : part_of p.job (kept.history.items ++ entry ∷ []) ≡ p.mine ++ (request, answer) ∷ [] =
      part_push p.job kept.history.items entry refl ∙ ap (λ (pairs : List Pair). pairs ++ (request, answer) ∷ []) found.part.mine in
      record {
        found = kept.history.items;
        seen = found.part.seen;
        is_history = history_after found did;
        reply_is = did.reply_is ∙ ap (λ (m : State). reply m p.job request) found.state;
        pass_is = ap (λ (x : Hand). pass_of x.0) is ∙ ap (λ (x : Hand). grown (pass_of x.0) (history_in x.1)) has ∙ ap (grown p) did.items
            ∙ (λ i. record { opening = p.opening; job = p.job; seen = kept.history.items ++ entry ∷ []; mine = mine i });
      }

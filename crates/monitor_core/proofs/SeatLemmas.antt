-- What stays true of a seat whose history grows by an entry of its job.
use Rattle.std.proofs.Common.{◌≡◌, ◌<◌, [], ◌∷◌, ◌++◌, length, refl, sym, ap, ◌∙◌, subst}
use Rattle.monitor_calls.specs.declared.calls.Request.{Request}
use Rattle.monitor_calls.specs.declared.calls.Reply.{Reply}
use Rattle.monitor_calls.specs.Proper.{IsProperEntry}
use Rattle.monitor_model.specs.State.{State}
use Rattle.monitor_model.specs.Answer.{next, reply}
use Rattle.monitor_model.specs.History.{entry_for}
use Rattle.monitor_model.proofs.Histories.{jobs_after, after_push, legal_push, proper_push, all_of_push}
use Rattle.monitor_core.specs.Plain.{Plain, IsKept}

-- the job is one of the monitor's
pub job_there : (seat : Plain) (m : State) → IsKept seat m → seat.job < length m.jobs
job_there seat m kept =
    subst (λ n. seat.job < n) (sym (ap (λ (s : State). length s.jobs) kept.state ∙ jobs_after seat.opening seat.history)) kept.job_in

abbrev pub grown : Plain → Request → Reply → Plain
grown seat request answer =
    record seat { history = seat.history ++ entry_for seat.job request answer ∷ [] }

pub kept_push : (seat : Plain) (m new : State) (request : Request) (answer : Reply) → IsKept seat m → answer ≡ reply m seat.job request → new ≡ next m seat.job request → IsProperEntry (entry_for seat.job request answer) → IsKept (grown seat request answer) new
kept_push seat m new request answer kept is_reply is_next proper =
    let entry = entry_for seat.job request answer in
    record {
      job_in = kept.job_in;
      state = is_next ∙ ap (λ s. next s seat.job request) kept.state ∙ sym (after_push seat.opening seat.history entry);
      legal = legal_push seat.opening seat.history entry kept.legal (record {
        is_job = subst (λ (s : State). seat.job < length s.jobs) kept.state (job_there seat m kept);
        reply_is = is_reply ∙ ap (λ s. reply s seat.job request) kept.state;
      });
      proper = proper_push seat.history entry kept.proper proper;
      all_of = all_of_push seat.job seat.history entry kept.all_of refl;
    }

-- A history that is legal up to a place.
use Rattle.std.proofs.Common.{◌≡◌, ℕ, zero, suc, ◌+◌, ◌<◌, List, [], ◌∷◌, ◌++◌, length, take, drop, Some, sym, ap, ◌∙◌, subst, arith}
use Rattle.std.specs.Prelude.{slice_get}
use Rattle.std.proofs.lemmas.List.{take-append-drop, length-take-le, take_more}
use Rattle.std.proofs.lemmas.Option.{slice_get_within, get_or_from_slice_get, none-some, same_Some}
use Rattle.monitor_calls.specs.declared.calls.Entry.{Entry}
use Rattle.monitor_model.specs.State.{State}
use Rattle.monitor_model.specs.Answer.{next}
use Rattle.monitor_model.specs.History.{after, IsAnswered, Legal}
use Rattle.monitor_model.proofs.GoodLaw.{jobs_next}
use Rattle.monitor_model.proofs.Histories.{after_push, legal_push}
use Rattle.history_replay.specs.Disputes.{WrongReply}
use Rattle.history_replay.specs.Lists.{AreOfJobs}
use Rattle.history_replay.proofs.Positions.{drop_item}

-- the entries of a legal history are of the monitor's jobs
pub legal_jobs : (m : State) (history : List Entry) → Legal m history → AreOfJobs (length m.jobs) history
legal_jobs m [] legal k entry is = absurd (none-some entry is)
legal_jobs m (first ∷ history) legal zero entry is =
    subst (λ (e : Entry). e.job < length m.jobs) (same_Some first entry is) legal.0.is_job
legal_jobs m (first ∷ history) legal (suc k) entry is =
    subst (λ n. entry.job < n) (jobs_next m first.job first.request) (legal_jobs (next m first.job first.request) history legal.1 k entry is)

module _ (m : State) (history : List Entry) (place : ℕ) (entry : Entry) (is : slice_get history place ≡ Some entry) where
  taken_more : take (place + 1) history ≡ take place history ++ entry ∷ []
  taken_more =
      take_more history place entry (slice_get_within history place entry is) ∙ ap (λ (e : Entry). take place history ++ e ∷ []) (get_or_from_slice_get history place entry entry is)

  pub legal_more : Legal m (take place history) → IsAnswered (after m (take place history)) entry → Legal m (take (place + 1) history)
  legal_more legal answered = subst (Legal m) (sym taken_more) (legal_push m (take place history) entry legal answered)

  pub after_more : after m (take (place + 1) history) ≡ next (after m (take place history)) entry.job entry.request
  after_more = ap (after m) taken_more ∙ after_push m (take place history) entry

  pub wrong_here : Legal m (take place history) → (IsAnswered (after m (take place history)) entry → ⊥) → WrongReply m history place
  wrong_here legal wrong = record {
    before = take place history;
    entry = entry;
    behind = drop (suc place) history;
    split = sym (take-append-drop place history) ∙ ap (λ l. take place history ++ l) (drop_item history place entry is);
    place_is = sym (length-take-le place history (let within = slice_get_within history place entry is in omega arith));
    legal = legal;
    wrong = wrong;
  }

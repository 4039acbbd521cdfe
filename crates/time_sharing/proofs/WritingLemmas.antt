-- Each job of a run is that of a terminal, which has a name.
use Rattle.std.proofs.Common.{◌≡◌, ℕ, List, [], ◌∷◌, length, sym, ap, ◌∙◌, arith}
use Rattle.std.proofs.lemmas.List.{length-map, length-replicate}
use Rattle.monitor_calls.specs.declared.calls.Entry.{Entry}
use Rattle.monitor_model.specs.declared.entries.JobEntry.{JobEntry}
use Rattle.monitor_model.specs.Jobs.{nobody}
use Rattle.monitor_model.specs.State.{State}
use Rattle.monitor_model.specs.Answer.{next}
use Rattle.monitor_model.specs.History.{Legal}
use Rattle.monitor_model.proofs.GoodLaw.{jobs_next}
use Rattle.print_spool.specs.Printed.{AreNamed}
use Rattle.deck_model.specs.Deck as model
use Rattle.time_sharing.specs.Runs.{IsRun, names_in}

all_named : (names : List (List ℕ)) (m : State) (history : List Entry) → length m.jobs ≡ length names → Legal m history → AreNamed names history
all_named names m [] as_many legal = tt
all_named names m (entry ∷ entries) as_many (answered, legal) =
    (omega (arith, answered.is_job, as_many), all_named names (next m entry.job entry.request) entries (jobs_next m entry.job entry.request ∙ as_many) legal)

-- each job of a run is that of one of the names
pub run_named : (deck : model.Deck) (names : List (List ℕ)) (screens : List (List ℕ)) (history : List Entry) → names ≡ names_in deck → IsRun deck history screens → AreNamed names history
run_named deck names screens history are run =
    all_named names _ history (length-replicate {A = JobEntry} _ nobody ∙ sym (length-map deck.terminals (λ (terminal : model.Terminal). terminal.name)) ∙ ap length (sym are)) run.legal

-- there is a screen for each of the names
pub as_many_screens : (deck : model.Deck) (names : List (List ℕ)) (screens : List (List ℕ)) (history : List Entry) → names ≡ names_in deck → IsRun deck history screens → length screens ≡ length names
as_many_screens deck names screens history are run = run.talks.as_many ∙ sym (length-map deck.terminals (λ (terminal : model.Terminal). terminal.name)) ∙ ap length (sym are)

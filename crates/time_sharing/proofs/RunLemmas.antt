-- What each job of a run did is the session of the terminal at its place.
use Rattle.std.proofs.Common.{◌≡◌, ℕ, suc, zero, ◌+◌, List, [], ◌∷◌, length, map, Some, Ok, Err, refl, sym, ap, subst, ◌∙◌, add-zero, arith}
use Rattle.std.specs.Prelude.{slice_get, Option, None, Result, true, IfOk, IfSome}
use Rattle.std.proofs.lemmas.List.{length-map, length-replicate}
use Rattle.monitor_calls.specs.declared.calls.Entry.{Entry}
use Rattle.monitor_calls.specs.declared.files.FileEntry.{FileEntry}
use Rattle.monitor_calls.specs.Volumes.{is_good_volume}
use Rattle.monitor_calls.specs.Pairs.{Pair, requests, replies}
use Rattle.monitor_calls.specs.Typing.{all_typed}
use Rattle.monitor_model.specs.declared.entries.JobEntry.{JobEntry}
use Rattle.monitor_model.specs.Jobs.{nobody}
use Rattle.monitor_model.specs.State as monitor
use Rattle.monitor_model.specs.History.{part_of}
use Rattle.terminal_runner.specs.Runs as runner
use Rattle.terminal_runner.specs.Runs.{Did, does_at, leaves, AllDid}
use Rattle.terminal_runner.specs.declared.batch_keyboard.BatchKeyboard.{BatchKeyboard}
use Rattle.terminal_runner.proofs.BatchLemmas.{all_fed}
use Rattle.session_model.specs.Talk.{IsTalk}
use Rattle.history_replay.specs.Disputes.{each_does}
use Rattle.deck_model.specs.Deck as model
use Rattle.deck_model.specs.Deck.{IsDeck}
use Rattle.deck_reader.specs.declared.decks.Deck.{Deck}
use Rattle.deck_reader.specs.declared.decks.Terminal.{Terminal}
use Rattle.deck_reader.specs.Seen.{deck_of, terminal_of}
use Rattle.terminal_runner.specs.Keyboards.{lines_of, taken_of}
use Rattle.time_sharing.specs.Sessions.{session_does, job_lines, typed_keys}
use Rattle.time_sharing.specs.declared.runs.TerminalSession.{TerminalSession}
use Rattle.time_sharing.specs.Runs.{Talks, opening_of, AllTalk, IsRun}

-- the screen at a place is what the job of that number did
did_at : (does : ℕ → List Pair → List ℕ → Type 0) (history : List Entry) (from : ℕ) (screens : List (List ℕ)) (j : ℕ) (screen : List ℕ) → AllDid does history from screens → slice_get screens j ≡ Some screen → does (from + j) (part_of (from + j) history) screen
did_at does history from [] j screen all at = absurd (cc)
did_at does history from (first ∷ screens) zero screen all at =
    let same : first ≡ screen = (cc) in
    let here : ℕ × List ℕ → Type 0 = λ x. does x.0 (part_of x.0 history) x.1 in
    subst here (λ i. (sym (add-zero from) i, same i)) all.0
did_at does history from (first ∷ screens) (suc j) screen all at =
    let here : ℕ → Type 0 = λ job. does job (part_of job history) screen in
    let same : suc from + j ≡ from + suc j = omega arith in
    subst here same (did_at does history (suc from) screens j screen all.1 at)

abbrev pub Job : Type 0
Job = TerminalSession × BatchKeyboard

-- what a job may do, whatever keyboard it leaves
abbrev pub job_does : Job → List Pair → List ℕ → Type 0
job_does job pairs screen = leaves lines_of taken_of session_does job pairs screen

-- what a session did is that of the key lines that its keyboard had
session_talk : (job : Job) (lines : List (List ℕ)) (pairs : List Pair) (screen : List ℕ) → job_lines job ≡ lines → job_does job pairs screen → Talks (all_typed lines) pairs screen
unfolding Talks
session_talk job lines pairs screen are did =
    let left = did.0 in
    let done = did.1 in
    let typed = all_fed left.taken left.all.value.items lines left.left.items left.over done.events left.left_are left.over_is (ap (λ v. v.items) done.same ∙ are) done.typed in
    subst (λ (made : List Pair). IsTalk (all_typed lines) (replies made) (requests made) screen) done.pairs_are (done.done (all_typed lines) typed)

-- what the session at a place did is that of the terminal's keys
talk_at : (jobs : List Job) (terminals : List Terminal) (j : ℕ) (terminal : model.Terminal) (part : List Pair) (screen : List ℕ) → map job_lines jobs ≡ map typed_keys terminals → slice_get (map terminal_of terminals) j ≡ Some terminal → each_does job_does jobs j part screen
    → Talks (all_typed terminal.keys) part screen
talk_at jobs [] j terminal part screen are at did = absurd (cc)
talk_at [] (first ∷ terminals) j terminal part screen are at did = absurd (cc)
talk_at (job ∷ jobs) (first ∷ terminals) zero terminal part screen are at did =
    let same : terminal_of first ≡ terminal = (cc) in
    let keys : job_lines job ≡ first.keys.items = (cc) in
    session_talk job terminal.keys part screen (keys ∙ ap (λ (t : model.Terminal). t.keys) same) did
talk_at (job ∷ jobs) (first ∷ terminals) (suc j) terminal part screen are at did =
    let others : map job_lines jobs ≡ map typed_keys terminals = (cc) in
    talk_at jobs terminals j terminal part screen others at did

-- a job that left this keyboard left some keyboard
left_some : (jobs : List Job) (lefts : List BatchKeyboard) (j : ℕ) (part : List Pair) (screen : List ℕ) → does_at lines_of taken_of session_does jobs lefts j part screen → each_does job_does jobs j part screen
left_some jobs lefts j part screen = go (slice_get jobs j)
  where
    go : (o : Option Job) → IfSome o (λ job. (left : BatchKeyboard) × (slice_get lefts j ≡ Some left) × Did lines_of taken_of (session_does job.0) job.1 left part screen) → IfSome o (λ job. job_does job part screen)
    go None did = tt
    go (Some job) did = (did.0, did.2)

all_left_some : (jobs : List Job) (lefts : List BatchKeyboard) (history : List Entry) (from : ℕ) (screens : List (List ℕ)) → AllDid (does_at lines_of taken_of session_does jobs lefts) history from screens → AllDid (each_does job_does jobs) history from screens
all_left_some jobs lefts history from [] all = tt
all_left_some jobs lefts history from (screen ∷ screens) all = (left_some jobs lefts from (part_of from history) screen all.0, all_left_some jobs lefts history (suc from) screens all.1)

-- what follows from what is said of an answer that is Ok
pub ok_then : {A E : Type 0} (r : Result A E) {P Q : A → Type 0} → IfOk r P → ((x : A) → P x → Q x) → IfOk r Q
ok_then (Ok x) p then = then x p
ok_then (Err e) p then = tt

pub as_many : (terminals : List Terminal) → length (map terminal_of terminals) ≡ length terminals
as_many [] = refl
as_many (terminal ∷ terminals) = ap suc (as_many terminals)

-- each terminal of the deck has its session
module _ (deck : Deck) (jobs : List Job) (are : map job_lines jobs ≡ map typed_keys deck.terminals.items) where
  -- what the job of a terminal did is its session
  pub did_talk : (j : ℕ) (terminal : model.Terminal) (part : List Pair) (screen : List ℕ) → slice_get (map terminal_of deck.terminals.items) j ≡ Some terminal → each_does job_does jobs j part screen → Talks (all_typed terminal.keys) part screen
  did_talk j terminal part screen at did = talk_at jobs deck.terminals.items j terminal part screen are at did

  pub as_many_jobs : length jobs ≡ length deck.terminals.items
  as_many_jobs = sym (length-map jobs job_lines) ∙ ap length are ∙ length-map deck.terminals.items typed_keys

  pub all_talk : (history : List Entry) (screens : List (List ℕ)) → length screens ≡ length deck.terminals.items → AllDid (each_does job_does jobs) history 0 screens → AllTalk history (map terminal_of deck.terminals.items) screens
  all_talk history screens count all = record {
    as_many = count ∙ sym (as_many deck.terminals.items);
    each = λ j terminal screen is_terminal is_screen.
        let did : each_does job_does jobs (0 + j) (part_of (0 + j) history) screen = did_at (each_does job_does jobs) history 0 screens j screen all is_screen in
        let place : 0 + j ≡ j = omega arith in
        did_talk j terminal (part_of j history) screen is_terminal (subst (λ (job : ℕ). each_does job_does jobs job (part_of job history) screen) place did);
  }

-- the monitor of the deck's volume is in the deck's opening state
pub opening_is : (deck : Deck) (opening : monitor.State) (jobs : ℕ) → opening ≡ monitor.opening deck.volume.accounts.items deck.volume.blocks deck.volume.files.items jobs → jobs ≡ length deck.terminals.items → opening ≡ opening_of (deck_of deck)
opening_is deck opening jobs opened count =
    let many : jobs ≡ length (map terminal_of deck.terminals.items) = count ∙ sym (as_many deck.terminals.items) in
    opened ∙ (λ i. monitor.opening deck.volume.accounts.items deck.volume.blocks deck.volume.files.items (many i))

-- the monitor has as many jobs as there are
pub one_each : (deck : Deck) (jobs : List Job) (opening : monitor.State) (count made : ℕ) → map job_lines jobs ≡ map typed_keys deck.terminals.items → opening ≡ monitor.opening deck.volume.accounts.items deck.volume.blocks deck.volume.files.items count → count ≡ length deck.terminals.items → made ≡ length jobs
    → made ≡ length opening.jobs
one_each deck jobs opening count made are opened count_is many =
    many ∙ as_many_jobs deck jobs are ∙ sym count_is ∙ sym (length-replicate {A = JobEntry} count nobody) ∙ ap (λ (m : monitor.State). length m.jobs) (sym opened)

pub is_run : (deck : Deck) (jobs : List Job) (lefts : List BatchKeyboard) (opening : monitor.State) (count made : ℕ) (screens : List (List ℕ)) (history : List Entry) → map job_lines jobs ≡ map typed_keys deck.terminals.items
    → opening ≡ monitor.opening deck.volume.accounts.items deck.volume.blocks deck.volume.files.items count → count ≡ length deck.terminals.items → made ≡ length jobs → runner.IsRun (does_at lines_of taken_of session_does jobs lefts) opening made screens history → IsRun (deck_of deck) history screens
is_run deck jobs lefts opening count made screens history are opened count_is many run =
    let state = opening_is deck opening count opened count_is in
    let legal = run.is_history.legal in
    record {
      legal = rw state at legal;
      proper = run.is_history.proper;
      talks = all_talk deck jobs are history screens (run.one_each ∙ many ∙ as_many_jobs deck jobs are) (all_left_some jobs lefts history 0 screens run.all_did);
    }

-- the volume of a deck that can be run is good
pub good_volume : (deck : Deck) → IsDeck (deck_of deck) → is_good_volume deck.volume.blocks deck.volume.accounts.items deck.volume.files.items ≡ true
good_volume deck is = is.volume

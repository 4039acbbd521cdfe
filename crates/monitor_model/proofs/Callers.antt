-- Which jobs are logged in after a call.
use Rattle.std.proofs.Common.{◌≡◌, ℕ, List, refl, sym, ◌∙◌, subst, inl, inr, ◌⊎◌, Some, None}
use Rattle.std.specs.Prelude.{Option}
use Rattle.std.proofs.lemmas.Bool.{cases_eq}
use Rattle.monitor_calls.specs.declared.names.Account.{Account}
use Rattle.monitor_calls.specs.declared.calls.Request.{Request}
use Rattle.monitor_model.specs.declared.entries.ChannelEntry.{ChannelEntry}
use Rattle.monitor_model.specs.declared.entries.JobEntry.{JobEntry}
use Rattle.monitor_model.specs.Jobs.{account_of, count, set_channel, end_job}
use Rattle.monitor_model.specs.State.{State}
use Rattle.monitor_model.specs.Answer.{counted, next}
use Rattle.monitor_model.proofs.Tools.{either}
use Rattle.monitor_model.proofs.JobLemmas.{account_of-count, account_of-log_in_other, account_of-end_job_same, account_of-end_job_other, account_of-set_channel}
use Rattle.monitor_model.proofs.Outcomes.{table_is, Outcomes, answer_outcomes}

-- a job that has an account after a call had it before, or is the caller and had none
module _ (m : State) (job : ℕ) (account : Account) where
  abbrev pub Had : List JobEntry → Type 0
  Had jobs =
      (k : ℕ) → account_of jobs k ≡ Some account → (account_of m.jobs k ≡ Some account) ⊎ ((k ≡ job) × (account_of m.jobs k ≡ None))

  had_same : (jobs : List JobEntry) → ((k : ℕ) → account_of jobs k ≡ account_of m.jobs k) → Had jobs
  had_same jobs same k is = inl (sym (same k) ∙ is)

  had_ended : Had (end_job m.jobs job)
  had_ended k is = either (cases_eq k job)
      (λ same. absurd (let clash : None ≡ Some account = sym (account_of-end_job_same m.jobs job) ∙ subst (λ x. account_of (end_job m.jobs job) x ≡ Some account) same is in cc))
      (λ ne. inl (sym (account_of-end_job_other m.jobs job k ne) ∙ is))

  had_counted : Had (count m.jobs job)
  had_counted = had_same _ (account_of-count m.jobs job)

  had_set : (channel : ℕ) (entry : Option ChannelEntry) → Had (set_channel (count m.jobs job) job channel entry)
  had_set channel entry =
      had_same _ (λ k. account_of-set_channel (count m.jobs job) job channel entry k ∙ account_of-count m.jobs job k)

  account_outcomes : Outcomes m job (λ request out. Had out.0.jobs)
  account_outcomes = record {
    turned_away = λ request none. had_same m.jobs (λ k. refl);
    leaves = λ none. had_same m.jobs (λ k. refl);
    logs_in = λ a password none right k is. either (cases_eq k job)
        (λ same. inr (same, subst (λ x. account_of m.jobs x ≡ None) (sym same) none))
        (λ ne. inl (sym (account_of-log_in_other m.jobs job a k ne) ∙ is));
    stops = λ caller some. had_ended;
    expires = λ request caller some. had_ended;
    table = λ caller some more. table_is (counted m job) job caller (λ request out. Had out.0.jobs) (record {
      idle = λ request reply mild goes fine. had_counted;
      posts = λ request reply mild goes fine receivers posting. had_counted;
      prints = λ request mild printer printing. had_counted;
      opens = λ channel name kind update code low free there right. had_set channel _;
      makes = λ channel name kind update code low free none h. had_set channel _;
      remakes = λ channel name kind update code low free there write unopened output. had_set channel _;
      closes = λ channel is. had_set channel None;
      gets = λ channel block is h. had_counted;
      puts = λ channel block page is h. had_counted;
      gets_record = λ channel block count is h. had_counted;
      puts_record = λ channel block pages is h. had_counted;
      unlocks = λ channel is. had_counted;
      kills = λ name h. had_counted;
      renames = λ old new code h. had_counted;
    }) (λ request n mild. had_counted);
  }

  pub had_before : (request : Request) → Had (next m job request).jobs
  had_before request = answer_outcomes m job (λ request out. Had out.0.jobs) account_outcomes request

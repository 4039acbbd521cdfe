-- The rights of each open channel come from the call that opened it.
use Rattle.std.proofs.Common.{◌≡◌, ℕ, Bool, true, false, List, [], ◌∷◌, ◌++◌, refl, sym, ap, ◌∙◌, subst, inl, inr, ◌⊎◌, Some, None}
use Rattle.std.specs.Prelude.{Option, ◌||◌}
use Rattle.std.proofs.lemmas.Bool.{not-false, ne_eqb}
use Rattle.std.proofs.lemmas.List.{append_assoc, append-nil}
use Rattle.monitor_calls.specs.declared.names.Account.{Account}
use Rattle.monitor_calls.specs.declared.files.FileName.{FileName}
use Rattle.monitor_calls.specs.declared.files.OpenKind.{OpenKind}
use Rattle.monitor_calls.specs.declared.calls.Entry.{Entry}
use Rattle.monitor_calls.specs.declared.calls.Request.{Request}
use Rattle.monitor_calls.specs.declared.calls.Request.TheVariants.{Login, Logout, OpenFile, CloseFile, Get, Put, GetRecord, PutRecord, Unlock, Kill, Rename}
use Rattle.monitor_calls.specs.declared.calls.Reply.{Reply}
use Rattle.monitor_calls.specs.declared.calls.Reply.TheVariants.{Done, Opened, Failed, Expired}
use Rattle.monitor_model.specs.declared.entries.ChannelEntry.{ChannelEntry}
use Rattle.monitor_model.specs.declared.entries.JobEntry.{JobEntry}
use Rattle.monitor_model.specs.declared.rights.Right.{Right}
use Rattle.monitor_model.specs.declared.rights.Right.TheVariants.{Read, Write}
use Rattle.monitor_model.specs.Files.{is_file, size_at}
use Rattle.monitor_model.specs.Jobs.{account_of, channel_of, count, set_channel, end_job}
use Rattle.monitor_model.specs.State.{State}
use Rattle.monitor_model.specs.Answer.{may, has_right, counted, next, reply}
use Rattle.monitor_model.specs.Good.{Good}
use Rattle.monitor_model.specs.History.{after, IsAnswered, Legal}
use Rattle.monitor_model.specs.Rights.{ByProtection, ByMaking, ByRemaking, IsOpening, is_close, NoClose, WasOpened}
use Rattle.monitor_model.specs.Laws.{RightsOfOpened, RefusedByRights}
use Rattle.monitor_model.proofs.Tools.{either}
use Rattle.monitor_model.proofs.JobLemmas.{channel_of-log_in, channel_of-count, channel_of-set_channel_other, ended_was, cases_place, set_channel_or, close_channel_or}
use Rattle.monitor_model.proofs.Outcomes.{table_is, Outcomes, answer_outcomes}
use Rattle.monitor_model.proofs.GoodLaw.{all_good}
use Rattle.monitor_model.proofs.Histories.{after-append}
use Rattle.monitor_model.proofs.Refusing.{by_row, row_gives}
use Rattle.monitor_model.proofs.Tracking.{closed_visitor}

-- ONE CALL

-- counting a call changes no rights
pub may-counted : (m : State) (job : ℕ) (caller : Account) (name : FileName) (right : Right) → may (counted m job) caller name right ≡ may m caller name right
unfolding may
may-counted m job caller name right = refl

module _ (m : State) (g : Good m) (job : ℕ) where
  -- a channel that is open after the call was open before and is not closed by it, or the call
  -- opened it
  abbrev pub FromJobs : Request → List JobEntry → Reply → Type 0
  FromJobs request jobs answer =
      (k d : ℕ) (entry : ChannelEntry) → channel_of jobs k d ≡ Some entry → ((channel_of m.jobs k d ≡ Some entry) × (k ≡ job → is_close d request answer ≡ false)) ⊎ ((k ≡ job) × IsOpening m job request answer d entry)

  abbrev Came : Request → State × Reply → Type 0
  Came request out = FromJobs request out.0.jobs out.1

  -- the call leaves the channels
  unchanged : (request : Request) (answer : Reply) → ((d : ℕ) → is_close d request answer ≡ false) → FromJobs request (count m.jobs job) answer
  unchanged request answer never k d entry is =
      inl (sym (channel_of-count m.jobs job k d) ∙ is, λ same. never d)

  -- a job without an account has none
  visited : (request : Request) (jobs : List JobEntry) (answer : Reply) → account_of m.jobs job ≡ None → ((k d : ℕ) → channel_of jobs k d ≡ channel_of m.jobs k d) → FromJobs request jobs answer
  visited request jobs answer none keeps k d entry is =
      let was : channel_of m.jobs k d ≡ Some entry = sym (keeps k d) ∙ is in
      inl (was, λ same. absurd (let clash : None ≡ Some entry = sym (closed_visitor m g job none d) ∙ subst (λ x. channel_of m.jobs x d ≡ Some entry) same was in cc))

  ended_all : (request : Request) (answer : Reply) → FromJobs request (end_job m.jobs job) answer
  ended_all request answer k d entry is =
      let was = ended_was m.jobs job k d entry is in
      inl (was.0, λ same. absurd (was.1 same))

  closed_one : (channel : ℕ) → FromJobs (CloseFile channel) (set_channel (count m.jobs job) job channel None) Done
  closed_one channel k d entry is =
      let was = close_channel_or (count m.jobs job) job channel k d entry is in
      inl (sym (channel_of-count m.jobs job k d) ∙ was.0, λ same. ne_eqb channel d (λ at. was.1 same (sym at)))

  module _ (caller : Account) (some : account_of m.jobs job ≡ Some caller) where
    -- the call opens a channel with this entry, for one of the three causes
    opened_one : (channel : ℕ) (new : ChannelEntry) (kind : OpenKind) (code : Option ℕ) (blocks : ℕ) → ByProtection m caller new ⊎ (ByMaking m caller new ⊎ ByRemaking m caller new) → FromJobs (OpenFile channel new.name kind new.update code) (set_channel (count m.jobs job) job channel (Some new)) (Opened blocks new.read new.write)
    opened_one channel new kind code blocks rights k d entry is =
        either (cases_place k d job channel)
        (λ same. either (set_channel_or (count m.jobs job) job channel new k d entry is)
        (λ one. inr (
          same.0,
          subst (IsOpening m job (OpenFile channel new.name kind new.update code) (Opened blocks new.read new.write) d) one (record {
            caller = caller;
            account = some;
            kind = kind;
            code = code;
            blocks = blocks;
            request_is = λ i. OpenFile (sym same.1 i) new.name kind new.update code;
            reply_is = refl;
            rights = rights;
          }),
        ))
        (λ was. inl (sym (channel_of-count m.jobs job k d) ∙ was, λ _. refl)))
        (λ ne. inl (sym (channel_of-set_channel_other (count m.jobs job) job channel (Some new) k d ne ∙ channel_of-count m.jobs job k d) ∙ is, λ _. refl))

    by_protection : (name : FileName) (update : Bool) → is_file m.files name ≡ true → has_right (counted m job) caller name ≡ true → ByProtection m caller (record { name = name; update = update; read = may (counted m job) caller name Read; write = may (counted m job) caller name Write })
    by_protection name update there right = record {
      is_there = there;
      read = may-counted m job caller name Read;
      write = may-counted m job caller name Write;
      some_right = (λ i. sym (may-counted m job caller name Read) i || sym (may-counted m job caller name Write) i) ∙ right;
    }

  channel_outcomes : Outcomes m job Came
  channel_outcomes = record {
    turned_away = λ request none. visited request m.jobs (Failed 5) none (λ k d. refl);
    leaves = λ none. visited Logout m.jobs Done none (λ k d. refl);
    logs_in = λ account password none right. visited (Login account password) _ Done none (channel_of-log_in m.jobs job account);
    stops = λ caller some. ended_all Logout Done;
    expires = λ request caller some. ended_all request Expired;
    table = λ caller some more. table_is (counted m job) job caller Came (record {
      idle = λ request reply mild goes fine. unchanged request reply mild.no_close;
      posts = λ request reply mild goes fine receivers posting. unchanged request reply mild.no_close;
      prints = λ request mild printer printing. unchanged request Done mild.no_close;
      opens = λ channel name kind update code low free there right. opened_one caller some channel _ kind code (size_at m.files name) (inl (by_protection caller some name update there right));
      makes = λ channel name kind update code low free none h. opened_one caller some channel (record { name = name; update = update; read = true; write = true }) kind code 0 (inr (inl (record { is_new = none; may_make = not-false _ h.1.0; read = refl; write = refl })));
      remakes = λ channel name kind update code low free there write unopened output. opened_one caller some channel (record { name = name; update = update; read = true; write = true }) kind code 0 (inr (inr (record { is_there = there; may_remake = sym (may-counted m job caller name Write) ∙ write; read = refl; write = refl })));
      closes = λ channel is. closed_one channel;
      gets = λ channel block is h. unchanged (Get channel block) _ (λ d. refl);
      puts = λ channel block page is h. unchanged (Put channel block page) Done (λ d. refl);
      gets_record = λ channel block count is h. unchanged (GetRecord channel block count) _ (λ d. refl);
      puts_record = λ channel block pages is h. unchanged (PutRecord channel block pages) Done (λ d. refl);
      unlocks = λ channel is. unchanged (Unlock channel) Done (λ d. refl);
      kills = λ name h. unchanged (Kill name) Done (λ d. refl);
      renames = λ old new code h. unchanged (Rename old new code) Done (λ d. refl);
    }) (λ request n mild. unchanged request (Failed n) mild.no_close);
  }

  pub came : (request : Request) → FromJobs request (next m job request).jobs (reply m job request)
  came request = answer_outcomes m job Came channel_outcomes request

-- ALL CALLS

abbrev AllOpened : State → List Entry → Type 0
AllOpened m past =
    (k d : ℕ) (entry : ChannelEntry) → channel_of (after m past).jobs k d ≡ Some entry → WasOpened m past k d entry

no_close_more : (k d : ℕ) (entries : List Entry) (entry : Entry) → NoClose k d entries → (k ≡ entry.job → is_close d entry.request entry.reply ≡ false) → NoClose k d (entries ++ entry ∷ [])
no_close_more k d [] entry none last = (λ same. last (sym same), tt)
no_close_more k d (first ∷ entries) entry none last =
    (none.0, no_close_more k d entries entry none.1 last)

opened_more : (m : State) (past : List Entry) (entry : Entry) → Good (after m past) → IsAnswered (after m past) entry → AllOpened m past → AllOpened m (past ++ entry ∷ [])
opened_more m past entry g answered all k d at is =
    let s = after m past in
    let now : channel_of (next s entry.job entry.request).jobs k d ≡ Some at = subst (λ x. channel_of x.jobs k d ≡ Some at) (after-append m past (entry ∷ [])) is in
    let step = subst (FromJobs s g entry.job entry.request (next s entry.job entry.request).jobs) (sym answered.reply_is) (came s g entry.job entry.request) in
    either (step k d at now)
    (λ was.
    let old = all k d at was.0 in
    record {
      before = old.before;
      by = old.by;
      between = old.between ++ entry ∷ [];
      is = ap (λ x. x ++ entry ∷ []) old.is ∙ append_assoc old.before (old.by ∷ old.between) (entry ∷ []);
      of_job = old.of_job;
      opening = old.opening;
      no_close = no_close_more k d old.between entry old.no_close was.1;
    })
    (λ new. record {
      before = past;
      by = entry;
      between = [];
      is = refl;
      of_job = sym new.0;
      opening = subst (λ x. IsOpening s x entry.request entry.reply d at) (sym new.0) new.1;
      no_close = tt;
    })

opened_rest : (rest past : List Entry) (m : State) → Good m → Legal (after m past) rest → AllOpened m past → AllOpened m (past ++ rest)
opened_rest [] past m g legal all = subst (AllOpened m) (sym (append-nil past)) all
opened_rest (entry ∷ rest) past m g legal all =
    subst (AllOpened m) (append_assoc past (entry ∷ []) rest)
    (opened_rest rest (past ++ entry ∷ []) m g (subst (λ s. Legal s rest) (sym (after-append m past (entry ∷ []))) legal.1)
    (opened_more m past entry (all_good m past g) legal.0 all))

-- THE LAW

pub rights_of_opened : RightsOfOpened
rights_of_opened m past job channel entry g unopened legal is =
    opened_rest past [] m g legal (λ k d at now. absurd (let clash : None ≡ Some at = sym (unopened.closed k d) ∙ now in cc)) job channel entry is

pub refused_by_rights : RefusedByRights
refused_by_rights m entry answered =
    (by_row 10 m entry refl answered, row_gives 10 m entry answered)

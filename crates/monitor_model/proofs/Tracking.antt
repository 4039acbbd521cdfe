-- Each block that is held is in a span of the channel that holds it.
use Rattle.std.proofs.Common.{◌≡◌, ◌≢◌, ℕ, true, false, cond, List, [], ◌∷◌, ◌++◌, length, refl, sym, ap, ◌∙◌, subst, arith, inl, inr, ◌⊎◌, Some, None}
use Rattle.std.specs.FinMap.{empty}
use Rattle.std.proofs.lemmas.Bool.{true≢false, ne_eqb}
use Rattle.std.proofs.lemmas.List.{append_assoc, append-nil}
use Rattle.monitor_calls.specs.declared.files.FileName.{FileName}
use Rattle.monitor_calls.specs.declared.calls.Entry.{Entry}
use Rattle.monitor_calls.specs.declared.calls.Request.{Request}
use Rattle.monitor_calls.specs.declared.calls.Request.TheVariants.{Login, Logout, OpenFile, CloseFile, Get, Put, GetRecord, PutRecord, Unlock, Kill, Rename}
use Rattle.monitor_calls.specs.declared.calls.Reply.{Reply}
use Rattle.monitor_calls.specs.declared.calls.Reply.TheVariants.{Done, Block, Record, Failed, Expired}
use Rattle.monitor_model.specs.declared.entries.ChannelEntry.{ChannelEntry}
use Rattle.monitor_model.specs.Jobs.{account_of, channel_of, is_open, the_channel, closed}
use Rattle.monitor_model.specs.Holds.{HoldMap, holder, hold, release, release_job}
use Rattle.monitor_model.specs.State.{State}
use Rattle.monitor_model.specs.Answer.{counted, got, page_read, pages_read, answer, next, reply}
use Rattle.monitor_model.specs.Good.{Good}
use Rattle.monitor_model.specs.History.{after, IsAnswered, Legal}
use Rattle.monitor_model.specs.Spans.{is_end, NoEnd, IsAmong, Reads, InSpan}
use Rattle.monitor_model.proofs.Tools.{either, some_of}
use Rattle.monitor_model.proofs.HoldLemmas.{holder-empty, holder_was-release, holder_was-release_job}
use Rattle.monitor_model.proofs.JobLemmas.{channel_of-count, closed_nobody}
use Rattle.monitor_model.proofs.Outcomes.{table_is, Outcomes, answer_outcomes}
use Rattle.monitor_model.proofs.RecordLemmas.{page_among}
use Rattle.monitor_model.proofs.Holding.{held_by}
use Rattle.monitor_model.proofs.GoodLaw.{all_good}
use Rattle.monitor_model.proofs.Histories.{after-append}

-- ONE CALL

-- the call itself took the block
record IsFresh (m : State) (job : ℕ) (request : Request) (answer : Reply) (name : FileName) (block k d : ℕ) : Type 0 where
  by : k ≡ job
  page : List ℕ
  reads : Reads request answer d block page
  entry : ChannelEntry
  is_open : channel_of m.jobs k d ≡ Some entry
  on : entry.name ≡ name
  update : entry.update ≡ true

-- a job that has no account has no channel
pub closed_visitor : (m : State) → Good m → (job : ℕ) → account_of m.jobs job ≡ None → (channel : ℕ) → channel_of m.jobs job channel ≡ None
closed_visitor m g job none channel = closed_nobody m.jobs job (g.jobs.visitors job none) channel

module _ (m : State) (g : Good m) (job : ℕ) where
  -- what is held after the call was held before and is not freed by it, or the call took it
  abbrev From : Request → HoldMap → Reply → Type 0
  From request holds answer =
      (name : FileName) (block k d : ℕ) → holder holds name block ≡ Some (k, d) → ((holder m.holds name block ≡ Some (k, d)) × (k ≡ job → is_end d request answer ≡ false)) ⊎ IsFresh m job request answer name block k d

  abbrev Traced : Request → State × Reply → Type 0
  Traced request out = From request out.0.holds out.1

  unchanged : (request : Request) (answer : Reply) → ((d : ℕ) → is_end d request answer ≡ false) → From request m.holds answer
  unchanged request answer never name block k d is = inl (is, λ same. never d)

  -- a job without an account holds nothing
  visited : (request : Request) (answer : Reply) → account_of m.jobs job ≡ None → From request m.holds answer
  visited request answer none name block k d is =
      let h = (g.holds.held name block k d is).1 in
      inl (is, λ same. absurd (let clash : None ≡ Some h.entry = sym (closed_visitor m g job none d) ∙ subst (λ x. channel_of m.jobs x d ≡ Some h.entry) same h.is_open in cc))

  freed : (request : Request) (answer : Reply) (c : ℕ) → ((d : ℕ) → c ≢ d → is_end d request answer ≡ false) → From request (release m.holds job c) answer
  freed request answer c ends name block k d is =
      let was = holder_was-release m.holds job c name block k d is in
      inl (was.0, λ same. ends d (λ at. was.1 same (sym at)))

  ended_all : (request : Request) (answer : Reply) → From request (release_job m.holds job) answer
  ended_all request answer name block k d is =
      let was = holder_was-release_job m.holds job name block k d is in
      inl (was.0, λ same. absurd (was.1 same))

  -- a read of several blocks
  read_traced : (request : Request) (answer : Reply) (channel first count : ℕ) → is_open (counted m job).jobs job channel ≡ true → ((d : ℕ) → channel ≢ d → is_end d request answer ≡ false) → ((block : ℕ) → IsAmong first count block → (page : List ℕ) × Reads request answer channel block page) → Traced request (got (counted m job) job channel first count, answer)
  read_traced request answer channel first count is ends reads =
      let s = counted m job in
      let at : ChannelEntry = the_channel s.jobs job channel in
      let opened : channel_of m.jobs job channel ≡ Some at = sym (channel_of-count m.jobs job job channel) ∙ some_of (channel_of s.jobs job channel) closed is in
      elim (at.update) as (λ v. at.update ≡ v → From request (cond v (hold m.holds job channel at.name first count) m.holds) answer) [
        | true ↦ λ update name b k d held. either (held_by m.holds job channel at.name first count name b k d held)
            (λ new.
            let page = reads b new.1.1.1 in
            inr (record { by = new.0; page = page.0; reads = subst (λ x. Reads request answer x b page.0) (sym new.1.0) page.1; entry = at; is_open = subst (λ x. channel_of m.jobs x d ≡ Some at) (sym new.0) (subst (λ x. channel_of m.jobs job x ≡ Some at) (sym new.1.0) opened); on = sym new.1.1.0; update = update }))
            (λ was. inl (was.0, λ same. ends d (λ this. was.1 same (sym this))))
        | false ↦ λ update name b k d held. inl (
          held,
          λ same. ends d (λ this.
              let h = (g.holds.held name b k d held).1 in
              let there : channel_of m.jobs job channel ≡ Some h.entry = subst (λ x. channel_of m.jobs x channel ≡ Some h.entry) same (subst (λ x. channel_of m.jobs k x ≡ Some h.entry) (sym this) h.is_open) in
              let both : Some at ≡ Some h.entry = sym opened ∙ there in
              let one : at ≡ h.entry = cc in
              true≢false (sym h.update ∙ sym (ap (λ x. x.update) one) ∙ update)),
        )
      ] refl

  one_block : (first block : ℕ) → IsAmong first 1 block → first ≡ block
  one_block first block among = omega (arith, among.0, among.1)

  hold_outcomes : Outcomes m job Traced
  hold_outcomes = record {
    turned_away = λ request none. visited request (Failed 5) none;
    leaves = λ none. visited Logout Done none;
    logs_in = λ account password none right. visited (Login account password) Done none;
    stops = λ caller some. ended_all Logout Done;
    expires = λ request caller some. ended_all request Expired;
    table = λ caller some more. table_is (counted m job) job caller Traced (record {
      idle = λ request reply mild goes fine. unchanged request reply mild.no_end;
      posts = λ request reply mild goes fine receivers posting. unchanged request reply mild.no_end;
      prints = λ request mild printer printing. unchanged request Done mild.no_end;
      opens = λ channel name kind update code low free there right. unchanged (OpenFile channel name kind update code) _ (λ d. refl);
      makes = λ channel name kind update code low free none h. unchanged (OpenFile channel name kind update code) _ (λ d. refl);
      remakes = λ channel name kind update code low free there write unopened output. unchanged (OpenFile channel name kind update code) _ (λ d. refl);
      closes = λ channel is. freed (CloseFile channel) Done channel (λ d ne. ne_eqb channel d ne);
      gets = λ channel block is h.
          let page = page_read (counted m job) job channel block in
          read_traced (Get channel block) (Block page) channel block 1 is (λ d ne. ne_eqb channel d ne) (λ b among. (page, (refl, (one_block block b among, refl))));
      puts = λ channel block page is h. freed (Put channel block page) Done channel (λ d ne. ne_eqb channel d ne);
      gets_record = λ channel block count is h.
          let pages = pages_read (counted m job) job channel block count in
          read_traced (GetRecord channel block count) (Record pages) channel block (length pages) is (λ d ne. ne_eqb channel d ne) (λ b among.
          let page = page_among pages block b among.0 among.1 in
          (page.0, (refl, (among.0, page.1))));
      puts_record = λ channel block pages is h. freed (PutRecord channel block pages) Done channel (λ d ne. ne_eqb channel d ne);
      unlocks = λ channel is. freed (Unlock channel) Done channel (λ d ne. ne_eqb channel d ne);
      kills = λ name h. unchanged (Kill name) Done (λ d. refl);
      renames = λ old new code h. unchanged (Rename old new code) Done (λ d. refl);
    }) (λ request n mild. unchanged request (Failed n) mild.no_end);
  }

  traced : (request : Request) → From request (next m job request).holds (reply m job request)
  traced request = answer_outcomes m job Traced hold_outcomes request

-- ALL CALLS

-- each block that is held after the history is in a span of its channel
abbrev pub AllTracked : State → List Entry → Type 0
AllTracked m past =
    (name : FileName) (block k d : ℕ) → holder (after m past).holds name block ≡ Some (k, d) → (page : List ℕ) × InSpan m past k d name block page

no_end_more : (k d : ℕ) (entries : List Entry) (entry : Entry) → NoEnd k d entries → (k ≡ entry.job → is_end d entry.request entry.reply ≡ false) → NoEnd k d (entries ++ entry ∷ [])
no_end_more k d [] entry none last = (λ same. last (sym same), tt)
no_end_more k d (first ∷ entries) entry none last =
    (none.0, no_end_more k d entries entry none.1 last)

module _ (m : State) (past : List Entry) (entry : Entry) where
  pub span_more : (k d : ℕ) (name : FileName) (block : ℕ) (page : List ℕ) → InSpan m past k d name block page → (k ≡ entry.job → is_end d entry.request entry.reply ≡ false) → InSpan m (past ++ entry ∷ []) k d name block page
  span_more k d name block page s last = record {
    before = s.before;
    by = s.by;
    between = s.between ++ entry ∷ [];
    is = ap (λ x. x ++ entry ∷ []) s.is ∙ append_assoc s.before (s.by ∷ s.between) (entry ∷ []);
    of_job = s.of_job;
    reads = s.reads;
    opened = s.opened;
    is_open = s.is_open;
    on = s.on;
    update = s.update;
    no_end = no_end_more k d s.between entry s.no_end last;
  }

  span_new : (k d : ℕ) (name : FileName) (block : ℕ) → (f : IsFresh (after m past) entry.job entry.request entry.reply name block k d) → InSpan m (past ++ entry ∷ []) k d name block f.page
  span_new k d name block f = record {
    before = past;
    by = entry;
    between = [];
    is = refl;
    of_job = sym f.by;
    reads = f.reads;
    opened = f.entry;
    is_open = f.is_open;
    on = f.on;
    update = f.update;
    no_end = tt;
  }

  tracked_more : Good (after m past) → IsAnswered (after m past) entry → AllTracked m past → AllTracked m (past ++ entry ∷ [])
  tracked_more g answered all name block k d held =
      let now : holder (next (after m past) entry.job entry.request).holds name block ≡ Some (k, d) = subst (λ s. holder s.holds name block ≡ Some (k, d)) (after-append m past (entry ∷ [])) held in
      let step = subst (From (after m past) g entry.job entry.request (next (after m past) entry.job entry.request).holds) (sym answered.reply_is) (traced (after m past) g entry.job entry.request) in
      either (step name block k d now)
      (λ was. let old = all name block k d was.0 in (old.0, span_more k d name block old.0 old.1 was.1))
      (λ f. (f.page, span_new k d name block f))

tracked_rest : (rest past : List Entry) (m : State) → Good m → Legal (after m past) rest → AllTracked m past → AllTracked m (past ++ rest)
tracked_rest [] past m g legal all = subst (AllTracked m) (sym (append-nil past)) all
tracked_rest (entry ∷ rest) past m g legal all =
    subst (AllTracked m) (append_assoc past (entry ∷ []) rest)
    (tracked_rest rest (past ++ entry ∷ []) m g (subst (λ s. Legal s rest) (sym (after-append m past (entry ∷ []))) legal.1)
    (tracked_more m past entry (all_good m past g) legal.0 all))

pub tracked : (m : State) (past : List Entry) → Good m → m.holds ≡ empty → Legal m past → AllTracked m past
tracked m past g none legal =
    tracked_rest past [] m g legal (λ name block k d held.
    let pair : ℕ × ℕ = (k, d) in
    absurd (let clash : None ≡ Some pair = sym (holder-empty name block) ∙ subst (λ h. holder h name block ≡ Some (k, d)) none held in cc))

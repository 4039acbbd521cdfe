-- A safe update loses nothing, and safe updates of a block are a chain.
use Rattle.std.proofs.Common.{◌≡◌, ◌≢◌, ℕ, ◌-◌, ◌≤◌, ◌<◌, ◌==◌, zero, suc, true, false, cond, List, [], ◌∷◌, ◌++◌, refl, sym, ap, ◌∙◌, subst, arith, slice_get, Some, None}
use Rattle.std.specs.Prelude.{Option, not, ◌&&◌, ◌||◌, is_some, unwrap_or, length}
use Rattle.std.specs.FinMap.{empty}
use Rattle.std.proofs.lemmas.Bool.{true≢false, and_parts, and_from, or_parts, eqb-true, eq-eqb, le-leb}
use Rattle.std.proofs.lemmas.List.{append_assoc}
use Rattle.monitor_calls.specs.declared.files.FileName.{FileName}
use Rattle.monitor_calls.specs.declared.calls.Entry.{Entry}
use Rattle.monitor_calls.specs.declared.calls.Request.{Request}
use Rattle.monitor_calls.specs.declared.calls.Request.TheVariants.{OpenFile, Put, PutRecord}
use Rattle.monitor_calls.specs.declared.calls.Reply.{Reply}
use Rattle.monitor_calls.specs.declared.calls.Reply.TheVariants.{Done, Opened}
use Rattle.monitor_calls.specs.FileNames.{same_name}
use Rattle.monitor_calls.proofs.FileNameLemmas.{same_name-self, same_name-false, cases_name}
use Rattle.monitor_model.specs.declared.entries.ChannelEntry.{ChannelEntry}
use Rattle.monitor_model.specs.Files.{File, AreApart, the_file, page_of, page_at, empty_file, remove, renamed, rename, put_all}
use Rattle.monitor_model.specs.Jobs.{channel_of, is_on, the_channel, closed}
use Rattle.monitor_model.specs.Holds.{holder, is_channel, is_held}
use Rattle.monitor_model.specs.State.{State}
use Rattle.monitor_model.specs.Answer.{is_record, counted, next, reply}
use Rattle.monitor_model.specs.Good.{Good, IsHolding}
use Rattle.monitor_model.specs.History.{after, IsAnswered, Legal}
use Rattle.monitor_model.specs.Laws.{NobodyWritesBetween, WritesOverWhatItRead, SafeUpdatesAreAChain, SafeIfHeld}
use Rattle.monitor_model.specs.Spans.{is_end, NoEnd, channel_in, InSpan}
use Rattle.monitor_model.specs.Updates.{page_in_put, page_written, NoWriting, IsSafeUpdate, takes_away, Stays, AreSafe, at_end, untouched, updated, IsChain, last_page, holds_block}
use Rattle.monitor_model.proofs.Tools.{either, by_test}
use Rattle.monitor_model.proofs.FileLemmas.{file_at-make_new, removed_gone}
use Rattle.monitor_model.proofs.PageLemmas.{page-make, page-remove, page-put}
use Rattle.monitor_model.proofs.JobLemmas.{channel_of-count}
use Rattle.monitor_model.proofs.RecordLemmas.{above_zero}
use Rattle.monitor_model.proofs.Outcomes.{table_is, Outcomes, answer_outcomes}
use Rattle.monitor_model.proofs.Holding.{is_held_at}
use Rattle.monitor_model.proofs.GoodLaw.{good_after, all_good}
use Rattle.monitor_model.proofs.Histories.{after_push, legal_first, legal_rest}
use Rattle.monitor_model.proofs.SpanHolds.{held_after, span_holds}
use Rattle.monitor_model.proofs.Tracking.{tracked}
use Rattle.monitor_model.proofs.Writings.{put_ends, writing}

-- THE TWO PARTS OF A WRITE

-- a write goes through a channel that is open on the file, and its block is one of the request
record IsWriting (m : State) (entry : Entry) (name : FileName) (block : ℕ) (page : List ℕ) : Type 0 where
  on : is_on name (channel_of m.jobs entry.job (channel_in entry.request)) ≡ true
  page_is : page_in_put entry.request entry.reply block ≡ Some page

is_writing : (m : State) (entry : Entry) (name : FileName) (block : ℕ) (page : List ℕ) → page_written m entry name block ≡ Some page → IsWriting m entry name block page
is_writing m entry name block page e = by_test (is_on name (channel_of m.jobs entry.job (channel_in entry.request)))
    (λ on. record { on = on; page_is = ap (λ b. cond b (page_in_put entry.request entry.reply block) None) (sym on) ∙ e })
    (λ off. absurd (let clash : None ≡ Some page = ap (λ b. cond b (page_in_put entry.request entry.reply block) None) (sym off) ∙ e in cc))

-- what it does, in a good state
wrote : (m : State) → Good m → (entry : Entry) → IsAnswered m entry → (name : FileName) (block : ℕ) (page : List ℕ) → page_written m entry name block ≡ Some page → (is_held m.holds entry.job (channel_in entry.request) name block ≡ false) × (page_at (next m entry.job entry.request).files name block ≡ Some page)
wrote m g entry answered name block page e =
    let w = is_writing m entry name block page e in
    writing m entry.job g entry.request name block page w.on (subst (λ r. page_in_put entry.request r block ≡ Some page) answered.reply_is w.page_is)

-- NOBODY WRITES BETWEEN

module _ (k d : ℕ) (name : FileName) (block : ℕ) (page : List ℕ) where
  -- while a channel holds a block and does not release it, no call writes the block
  no_writing : (m : State) → Good m → (entry : Entry) → IsAnswered m entry → (entry.job ≡ k → is_end d entry.request entry.reply ≡ false) → IsHolding m k d name block page → page_written m entry name block ≡ None
  no_writing m g entry answered stays h = by_page (page_written m entry name block) refl where
    by_page : (o : Option (List ℕ)) → page_written m entry name block ≡ o → o ≡ None
    by_page None e = refl
    by_page (Some new) e =
        let free = (wrote m g entry answered name block new e).0 in
        let ended = put_ends entry.request entry.reply block new (is_writing m entry name block new e).page_is in
        absurd (true≢false (sym (is_held_at m.holds entry.job (channel_in entry.request) name block k d h.holds
        (λ same at. true≢false (sym ended ∙ subst (λ c. is_end c entry.request entry.reply ≡ false) at (stays (sym same))))) ∙ free))

  none_along : (entries : List Entry) (m : State) → Good m → Legal m entries → NoEnd k d entries → IsHolding m k d name block page → NoWriting m entries name block
  none_along [] m g legal none h = tt
  none_along (entry ∷ entries) m g legal none h =
      let stays : k ≡ entry.job → is_end d entry.request (reply m entry.job entry.request) ≡ false = λ same. subst (λ r. is_end d entry.request r ≡ false) legal.0.reply_is (none.0 (sym same)) in (
        no_writing m g entry legal.0 none.0 h,
        none_along entries (next m entry.job entry.request) (good_after m entry.job entry.request g) legal.1 none.1 (held_after m entry.job entry.request k d name block page stays h),
      )

-- the span right after the read that began it
begun : {m : State} {past : List Entry} {job channel : ℕ} {name : FileName} {block : ℕ} {page : List ℕ} → (s : InSpan m past job channel name block page) → InSpan m (s.before ++ s.by ∷ []) job channel name block page
begun s =
    record {
      before = s.before;
      by = s.by;
      between = [];
      is = refl;
      of_job = s.of_job;
      reads = s.reads;
      opened = s.opened;
      is_open = s.is_open;
      on = s.on;
      update = s.update;
      no_end = tt;
    }

pub nobody_writes_between : NobodyWritesBetween
nobody_writes_between m past entry name block old new g none legal update =
    let s = update.span in
    let front = s.before ++ s.by ∷ [] in
    let whole : Legal m (front ++ s.between) = subst (Legal m) (s.is ∙ sym (append_assoc s.before (s.by ∷ []) s.between)) legal in
    none_along entry.job (channel_in entry.request) name block old s.between (after m front) (all_good m front g) (legal_rest m front s.between whole) s.no_end
    (span_holds m front entry.job (channel_in entry.request) name block old (legal_first m front s.between whole) (begun s))

pub writes_over_what_it_read : WritesOverWhatItRead
writes_over_what_it_read m past entry name block old new g none legal update =
    (span_holds m past entry.job (channel_in entry.request) name block old legal update.span).page_is

-- A BLOCK THAT NOBODY WRITES STAYS

-- and also if a file gets another code under its own name
page_of-renamed : (file : File) (name : FileName) (code block : ℕ) → page_of (renamed file name code) block ≡ page_of file block
page_of-renamed file name code zero = refl
page_of-renamed file name code (suc block) = refl

page-rename_same : (files : List File) (name : FileName) (code block : ℕ) (page : List ℕ) → AreApart files → page_at files name block ≡ Some page → page_at (rename files name name code) name block ≡ Some page
page-rename_same files name code block page apart is =
    let new : File = renamed (the_file files name) name code in
    ap (λ o. page_of (unwrap_or o (empty_file name 0)) block)
    (file_at-make_new (remove files name) new name (removed_gone files name apart) ∙ ap (λ b. cond b (Some new) None) (same_name-self name))
    ∙ page_of-renamed (the_file files name) name code block ∙ is

-- the pages of a record are others
page-put_all : (pages : List (List ℕ)) (files : List File) (at : FileName) (first : ℕ) (name : FileName) (block : ℕ) (page : List ℕ) → 0 < first → (name ≡ at → first ≤ block → slice_get pages (block - first) ≡ None) → page_at files name block ≡ Some page → page_at (put_all files at first pages) name block ≡ Some page
page-put_all [] files at first name block page some other is = is
page-put_all (bytes ∷ pages) files at first name block page some other is =
    let later : name ≡ at → suc first ≤ block → slice_get pages (block - suc first) ≡ None = λ same above.
    let more : block - first ≡ suc (block - suc first) = omega (arith, above) in
    ap (slice_get (bytes ∷ pages)) (sym more) ∙ other same (omega (arith, above)) in
    let not_here : name ≡ at → block ≢ first = λ same this.
    let zeroth : block - first ≡ 0 = omega (arith, this) in
    let clash : Some bytes ≡ None = ap (slice_get (bytes ∷ pages)) (sym zeroth) ∙ other same (omega (arith, this)) in
    cc in
    page-put (put_all files at (suc first) pages) name block page (page-put_all pages files at (suc first) name block page (omega arith) later is) at first bytes not_here some

module _ (m : State) (g : Good m) (job : ℕ) (name : FileName) (block : ℕ) (page : List ℕ) (is : page_at m.files name block ≡ Some page) where
  abbrev Kept : Request → State × Reply → Type 0
  Kept request out =
      takes_away name request out.1 ≡ false
      → cond (is_on name (channel_of m.jobs job (channel_in request))) (page_in_put request out.1 block) None ≡ None
      → page_at out.0.files name block ≡ Some page

  -- a channel that is open is on the file of its entry
  on_file : (channel : ℕ) → is_some (channel_of (counted m job).jobs job channel) ≡ true → name ≡ (the_channel (counted m job).jobs job channel).name → is_on name (channel_of m.jobs job channel) ≡ true
  on_file channel opened same =
      let there : Option ChannelEntry = channel_of (counted m job).jobs job channel in
      ap (is_on name) (sym (channel_of-count m.jobs job job channel)) ∙ by_entry there opened same where
        by_entry : (o : Option ChannelEntry) → is_some o ≡ true → name ≡ (unwrap_or o closed).name → is_on name o ≡ true
        by_entry None opened same = absurd (cc)
        by_entry (Some entry) opened same = ap (λ n. same_name n name) (sym same) ∙ same_name-self name

  kept_outcomes : Outcomes m job Kept
  kept_outcomes = record {
    turned_away = λ request none stays free. is;
    leaves = λ none stays free. is;
    logs_in = λ account password none right stays free. is;
    stops = λ caller some stays free. is;
    expires = λ request caller some stays free. is;
    table = λ caller some more. table_is (counted m job) job caller Kept (record {
      idle = λ request reply mild goes fine stays free. is;
      posts = λ request reply mild goes fine receivers posting stays free. is;
      prints = λ request mild printer printing stays free. is;
      opens = λ channel at kind update code low free there right stays no. is;
      makes = λ channel at kind update code low free none h stays no. page-make m.files name block page is _;
      remakes = λ channel at kind update code low free there write unopened output stays no.
          let gone : same_name at name ≡ false = subst (λ k. takes_away name (OpenFile channel at k update code) (Opened 0 true true) ≡ false) output stays in
          page-make (remove m.files at) name block page (page-remove m.files name block page is at (λ same. true≢false (sym (same_name-self name) ∙ subst (λ n. same_name n name ≡ false) (sym same) gone))) _;
      closes = λ channel is_there stays free. is;
      gets = λ channel at is_there h stays free. is;
      puts = λ channel first bytes opened h stays free.
          let at = (the_channel (counted m job).jobs job channel).name in
          page-put m.files name block page is at first bytes
          (λ same this. let clash : Some bytes ≡ None = ap (λ b. cond b (Some bytes) None) (sym (eq-eqb first block (sym this))) ∙ ap (λ b. cond b (page_in_put (Put channel first bytes) Done block) None) (sym (on_file channel opened same)) ∙ free in cc)
          (above_zero first h.1.0);
      gets_record = λ channel first count opened h stays free. is;
      puts_record = λ channel first pages opened h stays free.
          let at = (the_channel (counted m job).jobs job channel).name in
          page-put_all pages m.files at first name block page (above_zero first (first_there first pages h.1.0))
          (λ same above. ap (λ b. cond b (slice_get pages (block - first)) None) (sym (le-leb first block above)) ∙ ap (λ b. cond b (page_in_put (PutRecord channel first pages) Done block) None) (sym (on_file channel opened same)) ∙ free)
          is;
      unlocks = λ channel opened stays free. is;
      kills = λ gone h stays free. page-remove m.files name block page is gone (λ same. true≢false (sym (same_name-self name) ∙ subst (λ n. same_name n name ≡ false) (sym same) stays));
      renames = λ old new code h stays free. renamed_kept old new code stays;
    }) (λ request n mild stays free. is);
  } where
    first_there : (first : ℕ) (pages : List (List ℕ)) → (first == 0 || not (is_record (length pages))) ≡ false → (first == 0) ≡ false
    first_there first pages h = (or_parts (first == 0) (not (is_record (length pages))) h).0

    renamed_kept : (old new : FileName) (code : Option ℕ) → (same_name old name && not (same_name new name)) ≡ false → page_at (rename m.files old new (unwrap_or code (the_file m.files old).code)) name block ≡ Some page
    renamed_kept old new code stays = either (cases_name old name)
        (λ same. either (cases_name new name)
        (λ also. subst (λ n. page_at (rename m.files n new (unwrap_or code (the_file m.files n).code)) name block ≡ Some page) (sym same)
        (subst (λ n. page_at (rename m.files name n (unwrap_or code (the_file m.files name).code)) name block ≡ Some page) (sym also)
        (page-rename_same m.files name _ block page g.files.apart is)))
        (λ other. absurd (true≢false (sym (and_from (same_name old name) (not (same_name new name)) (subst (λ n. same_name n name ≡ true) (sym same) (same_name-self name)) (ap not (same_name-false new name other))) ∙ stays))))
        (λ other. page-make (remove m.files old) name block page (page-remove m.files name block page is old (λ same. other (sym same))) _)

  stays_after : (entry : Entry) → entry.job ≡ job → IsAnswered m entry → takes_away name entry.request entry.reply ≡ false → page_written m entry name block ≡ None → page_at (next m entry.job entry.request).files name block ≡ Some page
  stays_after entry by answered stays free =
      subst (λ j. page_at (next m j entry.request).files name block ≡ Some page) (sym by)
      (answer_outcomes m job Kept kept_outcomes entry.request
      (subst (λ j. takes_away name entry.request (reply m j entry.request) ≡ false) by (subst (λ r. takes_away name entry.request r ≡ false) answered.reply_is stays))
      (subst (λ j. cond (is_on name (channel_of m.jobs j (channel_in entry.request))) (page_in_put entry.request (reply m j entry.request) block) None ≡ None) by
      (subst (λ r. cond (is_on name (channel_of m.jobs entry.job (channel_in entry.request))) (page_in_put entry.request r block) None ≡ None) answered.reply_is free)))

-- THE CHAIN

module _ (m : State) (g : Good m) (none : m.holds ≡ empty) (name : FileName) (block : ℕ) where
  -- from any place of the history on
  chain_on : (past rest : List Entry) (all : List (List ℕ × List ℕ)) (page : List ℕ) → Legal m (past ++ rest) → Stays name rest → page_at (after m past).files name block ≡ Some page → AreSafe m name block past rest all → IsChain page all × (page_at (after (after m past) rest).files name block ≡ Some (last_page page all))
  chain_on past [] all page legal stays is at_end = (tt, is)
  chain_on past (entry ∷ rest) all page legal stays is (untouched free safe) =
      let here = legal_rest m past (entry ∷ rest) legal in
      let kept = stays_after (after m past) (all_good m past g) entry.job name block page is entry refl here.0 stays.0 free in
      let at : after m (past ++ entry ∷ []) ≡ next (after m past) entry.job entry.request = after_push m past entry in
      let whole = subst (Legal m) (sym (append_assoc past (entry ∷ []) rest)) legal in
      let later = chain_on (past ++ entry ∷ []) rest all page whole stays.1 (subst (λ s. page_at s.files name block ≡ Some page) (sym at) kept) safe in
      (later.0, subst (λ s. page_at (after s rest).files name block ≡ Some (last_page page all)) at later.1)
  chain_on past (entry ∷ rest) all page legal stays is (updated {old = old} {new = new} {more = more} update safe) =
      let here = legal_rest m past (entry ∷ rest) legal in
      let read = writes_over_what_it_read m past entry name block old new g none (legal_first m past (entry ∷ rest) legal) update in
      let same : old ≡ page = (let both : Some old ≡ Some page = sym read ∙ is in cc) in
      let there = (wrote (after m past) (all_good m past g) entry here.0 name block new update.writes).1 in
      let at : after m (past ++ entry ∷ []) ≡ next (after m past) entry.job entry.request = after_push m past entry in
      let whole = subst (Legal m) (sym (append_assoc past (entry ∷ []) rest)) legal in
      let later = chain_on (past ++ entry ∷ []) rest more new whole stays.1 (subst (λ s. page_at s.files name block ≡ Some new) (sym at) there) safe in
      ((same, later.0), subst (λ s. page_at (after s rest).files name block ≡ Some (last_page new more)) at later.1)

pub safe_updates_are_a_chain : SafeUpdatesAreAChain
safe_updates_are_a_chain m history name block page all g none legal stays is safe =
    chain_on m g none name block [] history all page legal stays is safe

-- WHO HOLDS

-- a channel is itself
is_channel-true : (job channel : ℕ) (o : Option (ℕ × ℕ)) → is_channel job channel o ≡ true → o ≡ Some (job, channel)
is_channel-true job channel None e = absurd (cc)
is_channel-true job channel (Some p) e =
    let both = and_parts (p.0 == job) (p.1 == channel) e in
    ap Some (λ i. (eqb-true p.0 job both.0 i, eqb-true p.1 channel both.1 i))

pub safe_if_held : SafeIfHeld
safe_if_held m past entry name block new g none legal writes = (held, safe) where
  held : holds_block (after m past) entry name block ≡ true → (old : List ℕ) × IsSafeUpdate m past entry name block old new
  held e =
      let t = tracked m past g none legal name block entry.job (channel_in entry.request) (is_channel-true entry.job (channel_in entry.request) (holder (after m past).holds name block) e) in
      (t.0, record { span = t.1; writes = writes })

  safe : (old : List ℕ) × IsSafeUpdate m past entry name block old new → holds_block (after m past) entry name block ≡ true
  safe update =
      let h = span_holds m past entry.job (channel_in entry.request) name block update.0 legal update.1.span in
      ap (is_channel entry.job (channel_in entry.request)) h.holds
      ∙ and_from (entry.job == entry.job) (channel_in entry.request == channel_in entry.request) (eq-eqb entry.job entry.job refl) (eq-eqb (channel_in entry.request) (channel_in entry.request) refl)

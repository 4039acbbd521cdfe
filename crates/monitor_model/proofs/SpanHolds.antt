-- Along a span the channel holds the block, and the block's bytes are those that were read.
use Rattle.std.proofs.Common.{◌≡◌, ℕ, true, false, cond, List, [], ◌∷◌, length, refl, sym, ap, ◌∙◌, subst, arith, Some}
use Rattle.std.proofs.lemmas.Bool.{true≢false, not-false, eq-eqb}
use Rattle.monitor_calls.specs.declared.files.FileName.{FileName}
use Rattle.monitor_calls.specs.declared.calls.Entry.{Entry}
use Rattle.monitor_calls.specs.declared.calls.Request.{Request}
use Rattle.monitor_calls.specs.declared.calls.Request.TheVariants.{Get, GetRecord}
use Rattle.monitor_calls.specs.declared.calls.Reply.{Reply}
use Rattle.monitor_calls.specs.declared.calls.Reply.TheVariants.{Block, Record, Failed, Expired}
use Rattle.monitor_model.specs.declared.entries.ChannelEntry.{ChannelEntry}
use Rattle.monitor_model.specs.Files.{the_file, page_at}
use Rattle.monitor_model.specs.Jobs.{channel_of, is_open, the_channel, closed}
use Rattle.monitor_model.specs.Holds.{holder, hold, release}
use Rattle.monitor_model.specs.State.{State}
use Rattle.monitor_model.specs.Answer.{to_get, to_get_record, got, page_read, pages_read, counted, next, reply}
use Rattle.monitor_model.specs.Good.{IsHolding}
use Rattle.monitor_model.specs.History.{after, Legal}
use Rattle.monitor_model.specs.Spans.{is_end, NoEnd, IsAmong, Reads, InSpan}
use Rattle.monitor_model.proofs.Tools.{some_of}
use Rattle.monitor_model.proofs.HoldLemmas.{holder-add_in}
use Rattle.monitor_model.proofs.JobLemmas.{channel_of-count}
use Rattle.monitor_model.proofs.RecordLemmas.{page_in, among_page, block_above}
use Rattle.monitor_model.proofs.Outcomes.{NoneApply, IsMild, table_is, Outcomes, answer_outcomes}
use Rattle.monitor_model.proofs.Moves.{answer_keeps}
use Rattle.monitor_model.proofs.Holding.{covers}
use Rattle.monitor_model.proofs.Histories.{after-append, legal_rest}

-- THE READ THAT BEGINS IT

-- what is known of a call by which a page was read, in the state s that has counted it
record IsGot (s : State) (job channel block : ℕ) (page : List ℕ) (new : State) : Type 0 where
  first : ℕ
  count : ℕ
  among : IsAmong first count block
  is_open : is_open s.jobs job channel ≡ true
  read : (the_channel s.jobs job channel).read ≡ true
  page_is : page_at s.files (the_channel s.jobs job channel).name block ≡ Some page
  new_is : new ≡ got s job channel first count

-- a read ends what the channel held
reads_end : (request : Request) (answer : Reply) (channel block : ℕ) (page : List ℕ) → Reads request answer channel block page → is_end channel request answer ≡ true
reads_end (Get at first) (Block read) channel block page r = eq-eqb at channel r.0
reads_end (GetRecord at first count) (Record pages) channel block page r = eq-eqb at channel r.0
reads_end request answer channel block page r = absurd r

reads_failed : (request : Request) (n channel block : ℕ) (page : List ℕ) → Reads request (Failed n) channel block page → ⊥
reads_failed (Get at first) n channel block page r = r
reads_failed (GetRecord at first count) n channel block page r = r
reads_failed request n channel block page r = r

reads_expired : (request : Request) (channel block : ℕ) (page : List ℕ) → Reads request Expired channel block page → ⊥
reads_expired (Get at first) channel block page r = r
reads_expired (GetRecord at first count) channel block page r = r
reads_expired request channel block page r = r

module _ (s : State) (job : ℕ) where
  got_block : (channel first : ℕ) → is_open s.jobs job channel ≡ true → NoneApply (to_get s job channel first) → (c b : ℕ) (page : List ℕ) → Reads (Get channel first) (Block (page_read s job channel first)) c b page → IsGot s job c b page (got s job channel first 1)
  got_block channel first is h c b page r =
      let at : ChannelEntry = the_channel s.jobs job channel in
      subst (λ x. IsGot s job x b page (got s job channel first 1)) r.0
      (subst (λ x. IsGot s job channel x page (got s job channel first 1)) r.1.0
      (record {
        first = first;
        count = 1;
        among = (omega arith, omega arith);
        is_open = is;
        read = not-false _ h.0;
        page_is = some_of (page_at s.files at.name first) [] (not-false _ h.1.0) ∙ ap Some r.1.1;
        new_is = refl;
      }))

  got_record : (channel first count : ℕ) → is_open s.jobs job channel ≡ true → NoneApply (to_get_record s job channel first count) → (c b : ℕ) (page : List ℕ) → Reads (GetRecord channel first count) (Record (pages_read s job channel first count)) c b page → IsGot s job c b page (got s job channel first (length (pages_read s job channel first count)))
  got_record channel first count is h c b page r =
      let file = the_file s.files (the_channel s.jobs job channel).name in
      let pages = pages_read s job channel first count in
      subst (λ x. IsGot s job x b page (got s job channel first (length pages))) r.0
      (record {
        first = first;
        count = length pages;
        among = (r.1.0, among_page pages first b page r.1.0 r.1.1);
        is_open = is;
        read = not-false _ h.0;
        page_is = page_in file first count b page (block_above file first (not-false _ h.1.1.0)) r.1.0 r.1.1;
        new_is = refl;
      })

module _ (m : State) (job : ℕ) where
  abbrev Got : Request → State × Reply → Type 0
  Got request out =
      (channel block : ℕ) (page : List ℕ) → Reads request out.1 channel block page → IsGot (counted m job) job channel block page out.0

  by_mild : (request : Request) (out : State × Reply) → IsMild request out.1 → Got request out
  by_mild request out mild c b page r =
      absurd (true≢false (sym (reads_end request out.1 c b page r) ∙ mild.no_end c))

  get_outcomes : Outcomes m job Got
  get_outcomes = record {
    turned_away = λ request none c b page r. absurd (reads_failed request 5 c b page r);
    leaves = λ none c b page r. absurd r;
    logs_in = λ account password none right c b page r. absurd r;
    stops = λ caller some c b page r. absurd r;
    expires = λ request caller some c b page r. absurd (reads_expired request c b page r);
    table = λ caller some more. table_is (counted m job) job caller Got (record {
      idle = λ request reply mild goes fine. by_mild request _ mild;
      posts = λ request reply mild goes fine receivers posting. by_mild request _ mild;
      prints = λ request mild printer printing. by_mild request _ mild;
      opens = λ channel name kind update code low free there right c b page r. absurd r;
      makes = λ channel name kind update code low free none h c b page r. absurd r;
      remakes = λ channel name kind update code low free there write unopened output c b page r. absurd r;
      closes = λ channel is c b page r. absurd r;
      gets = λ channel block is h. got_block (counted m job) job channel block is h;
      puts = λ channel block bytes is h c b page r. absurd r;
      gets_record = λ channel block count is h. got_record (counted m job) job channel block count is h;
      puts_record = λ channel block pages is h c b page r. absurd r;
      unlocks = λ channel is c b page r. absurd r;
      kills = λ name h c b page r. absurd r;
      renames = λ old new code h c b page r. absurd r;
    }) (λ request n mild. by_mild request _ mild);
  }

  -- a read goes through a channel that is open
  pub reading_is_open : (request : Request) (channel block : ℕ) (page : List ℕ) → Reads request (reply m job request) channel block page → (entry : ChannelEntry) × (channel_of m.jobs job channel ≡ Some entry)
  reading_is_open request channel block page r =
      let g : IsGot (counted m job) job channel block page (next m job request) = answer_outcomes m job Got get_outcomes request channel block page r in
      let s = counted m job in
      (the_channel s.jobs job channel, sym (channel_of-count m.jobs job job channel) ∙ some_of (channel_of s.jobs job channel) closed g.is_open)

  -- after a read through a channel for update, the channel holds the block
  holding_from_reading : (request : Request) (channel block : ℕ) (page : List ℕ) (entry : ChannelEntry) (name : FileName) → channel_of m.jobs job channel ≡ Some entry → entry.name ≡ name → entry.update ≡ true → Reads request (reply m job request) channel block page → IsHolding (next m job request) job channel name block page
  holding_from_reading request channel block page entry name is_open on update r =
      let g : IsGot (counted m job) job channel block page (next m job request) = answer_outcomes m job Got get_outcomes request channel block page r in
      let s = counted m job in
      let at : ChannelEntry = the_channel s.jobs job channel in
      let opened : channel_of s.jobs job channel ≡ Some at = some_of (channel_of s.jobs job channel) closed g.is_open in
      let both : Some at ≡ Some entry = sym opened ∙ channel_of-count m.jobs job job channel ∙ is_open in
      let same : at ≡ entry = cc in
      let updates : at.update ≡ true = ap (λ x. x.update) same ∙ update in
      subst (λ s. IsHolding s job channel name block page) (sym g.new_is)
      (subst (λ n. IsHolding (got s job channel g.first g.count) job channel n block page) (ap (λ x. x.name) same ∙ on)
      (record {
        holds = ap (λ b. holder (cond b (hold s.holds job channel at.name g.first g.count) s.holds) at.name block) updates ∙ holder-add_in g.count (release s.holds job channel) job channel at.name g.first block g.among.0 g.among.1;
        entry = at;
        is_open = opened;
        on = refl;
        update = updates;
        read = g.read;
        page_is = g.page_is;
      }))

-- FROM CALL TO CALL

-- what a channel holds, it still holds after a call that does not free it
pub held_after : (m : State) (job : ℕ) (request : Request) (k d : ℕ) (name : FileName) (block : ℕ) (page : List ℕ) → (k ≡ job → is_end d request (reply m job request) ≡ false) → IsHolding m k d name block page → IsHolding (next m job request) k d name block page
held_after m job request k d name block page stays h =
    let F : ℕ → Type 0 = λ c. is_end c request (reply m job request) ≡ true in
    answer_keeps job (λ s. IsHolding s k d name block page) m request
    (covers job k d name block page F (λ c ends same at. true≢false (sym (subst (λ x. is_end x request (reply m job request) ≡ true) (sym at) ends) ∙ stays same))) h

held_along : (entries : List Entry) (m : State) (k d : ℕ) (name : FileName) (block : ℕ) (page : List ℕ) → Legal m entries → NoEnd k d entries → IsHolding m k d name block page → IsHolding (after m entries) k d name block page
held_along [] m k d name block page legal none h = h
held_along (entry ∷ entries) m k d name block page legal none h =
    let stays : k ≡ entry.job → is_end d entry.request (reply m entry.job entry.request) ≡ false = λ same. subst (λ r. is_end d entry.request r ≡ false) legal.0.reply_is (none.0 (sym same)) in
    held_along entries (next m entry.job entry.request) k d name block page legal.1 none.1 (held_after m entry.job entry.request k d name block page stays h)

pub span_holds : (m : State) (past : List Entry) (job channel : ℕ) (name : FileName) (block : ℕ) (page : List ℕ) → Legal m past → InSpan m past job channel name block page → IsHolding (after m past) job channel name block page
span_holds m past job channel name block page legal s =
    let by = s.by in
    let from : State = after m s.before in
    let rest : Legal from (by ∷ s.between) = legal_rest m s.before (by ∷ s.between) (subst (Legal m) s.is legal) in
    let opened : channel_of from.jobs by.job channel ≡ Some s.opened = subst (λ k. channel_of from.jobs k channel ≡ Some s.opened) (sym s.of_job) s.is_open in
    let reads = subst (λ r. Reads by.request r channel block page) rest.0.reply_is s.reads in
    let got = holding_from_reading from by.job by.request channel block page s.opened name opened s.on s.update reads in
    subst (λ x. IsHolding x job channel name block page) (sym (ap (after m) s.is ∙ after-append m s.before (by ∷ s.between)))
    (held_along s.between (next from by.job by.request) job channel name block page rest.1 s.no_end (subst (λ k. IsHolding (next from by.job by.request) k channel name block page) s.of_job got))

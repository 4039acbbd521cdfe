-- Jobs that count in a block: their writings are safe updates, and none is lost.
use Rattle.std.proofs.Common.{◌≡◌, ℕ, ◌==◌, Bool, true, false, cond, List, [], ◌∷◌, ◌++◌, length, map, refl, sym, ap, ◌∙◌, subst, inl, inr, ◌⊎◌, Some, None}
use Rattle.std.specs.Prelude.{Option, filter}
use Rattle.std.specs.List.{AllByRecursion}
use Rattle.std.specs.Fn.{iterate}
use Rattle.std.proofs.lemmas.Bool.{true≢false, eqb-true, eq-eqb}
use Rattle.std.proofs.lemmas.List.{append_assoc}
use Rattle.monitor_calls.specs.declared.files.OpenKind.TheVariants.{Output}
use Rattle.monitor_calls.specs.declared.calls.Entry.{Entry}
use Rattle.monitor_calls.specs.declared.calls.Request.{Request}
use Rattle.monitor_calls.specs.declared.calls.Request.TheVariants.{OpenFile, Get, Put, GetRecord, PutRecord, Kill, Rename}
use Rattle.monitor_calls.specs.declared.calls.Reply.{Reply}
use Rattle.monitor_calls.specs.declared.calls.Reply.TheVariants.{Done, Block}
use Rattle.monitor_calls.specs.FileNames.{same_name}
use Rattle.monitor_calls.specs.Pairs.{Pair}
use Rattle.monitor_calls.proofs.FileNameLemmas.{same_name-self}
use Rattle.monitor_model.specs.declared.entries.ChannelEntry.{ChannelEntry}
use Rattle.monitor_model.specs.Jobs.{channel_of, is_on}
use Rattle.monitor_model.specs.State.{State}
use Rattle.monitor_model.specs.Answer.{next}
use Rattle.monitor_model.specs.Good.{Good}
use Rattle.monitor_model.specs.History.{after, IsAnswered, Legal, pair_in, part_of}
use Rattle.monitor_model.specs.Spans.{is_end, channel_in, Reads, InSpan}
use Rattle.monitor_model.specs.Updates.{page_in_put, page_written, takes_away, Stays, IsSafeUpdate, AreSafe, at_end, untouched, updated, IsChain, last_page}
use Rattle.monitor_model.specs.Counters.{Counting, page_kept, MayCount, Counts, with_page, pages_put, IsCounted}
use Rattle.monitor_model.specs.Laws.{SafeUpdatesCount, CountersAreSafe}
use Rattle.monitor_model.proofs.Tools.{either, by_test}
use Rattle.monitor_model.proofs.GoodLaw.{all_good}
use Rattle.monitor_model.proofs.Histories.{after_push, legal_first, legal_rest}
use Rattle.monitor_model.proofs.SpanHolds.{reading_is_open, span_holds}
use Rattle.monitor_model.proofs.Tracking.{span_more}
use Rattle.monitor_model.proofs.Opened.{came}
use Rattle.monitor_model.proofs.Updating.{safe_updates_are_a_chain}

-- THE NUMBER AT THE END OF A CHAIN

module _ (number : List ℕ → ℕ) (step : ℕ → ℕ) where
  count_last : (updates : List (List ℕ × List ℕ)) (page : List ℕ) → IsChain page updates → AllByRecursion (λ (u : List ℕ × List ℕ). number u.1 ≡ step (number u.0)) updates → number (last_page page updates) ≡ iterate step (length updates) (number page)
  count_last [] page chain steps = refl
  count_last (u ∷ updates) page chain steps =
      count_last updates u.1 chain.1 steps.1 ∙ ap (iterate step (length updates)) (steps.0 ∙ ap (λ p. step (number p)) chain.0)

pub safe_updates_count : SafeUpdatesCount
safe_updates_count m history name block page updates number step g none legal stays is safe steps =
    let chain = safe_updates_are_a_chain m history name block page updates g none legal stays is safe in
    (last_page page updates, chain.1, count_last number step updates page chain.0 steps)

-- ONE REQUEST

module _ (c : Counting) where
  -- it writes a page over the one that was kept
  record IsNext (kept : Option (List ℕ)) (request : Request) (answer : Reply) : Type 0 where
    page : List ℕ
    old : List ℕ
    writes : page_in_put request answer c.block ≡ Some page
    kept_is : kept ≡ Some old
    channel_is : channel_in request ≡ c.channel
    steps : c.number page ≡ c.step (c.number old)

  writes_or_not : (kept : Option (List ℕ)) (request : Request) (answer : Reply) → MayCount c kept request → (page_in_put request answer c.block ≡ None) ⊎ IsNext kept request answer
  writes_or_not kept (Put channel block page) Done may = inr (record {
    page = page;
    old = may.1.1.0;
    writes = ap (λ b. cond b (Some page) None) (eq-eqb block c.block may.1.0);
    kept_is = may.1.1.1;
    channel_is = may.0;
    steps = may.1.1.2;
  })
  writes_or_not kept (PutRecord channel block pages) answer may = absurd may
  writes_or_not kept request answer may = inl refl

  stays_by : (kept : Option (List ℕ)) (request : Request) (answer : Reply) → MayCount c kept request → takes_away c.name request answer ≡ false
  stays_by kept (OpenFile channel name Output update code) answer may = absurd (may.1.1.0 refl)
  stays_by kept (Kill name) answer may = absurd may
  stays_by kept (Rename old new code) answer may = absurd may
  stays_by kept request answer may = refl

  -- a request by which a page was read
  record IsGet (request : Request) (answer : Reply) : Type 0 where
    channel : ℕ
    block : ℕ
    page : List ℕ
    request_is : request ≡ Get channel block
    reply_is : answer ≡ Block page

  kept_cases : (kept : Option (List ℕ)) (request : Request) (answer : Reply) → IsGet request answer ⊎ (page_kept c.channel kept request answer ≡ cond (is_end c.channel request answer) None kept)
  kept_cases kept (Get channel block) (Block page) = inl (record { channel = channel; block = block; page = page; request_is = refl; reply_is = refl })
  kept_cases kept request answer = inr refl

  -- WHAT IS OPEN

  abbrev AllOpen : State → Type 0
  AllOpen s = (job channel : ℕ) (entry : ChannelEntry) → channel_of s.jobs job channel ≡ Some entry → (entry.name ≡ c.name) × (entry.update ≡ true)

  open_more : (s : State) → Good s → (job : ℕ) (request : Request) (kept : Option (List ℕ)) → MayCount c kept request → AllOpen s → AllOpen (next s job request)
  open_more s g job request kept may all k d at is =
      either (came s g job request k d at is)
      (λ was. all k d at was.0)
      (λ new.
      let may : MayCount c kept (OpenFile d at.name new.1.kind at.update new.1.code) = subst (MayCount c kept) new.1.request_is may in
      (may.1.0, may.1.1.1))

  -- THE HISTORY

  module _ (m : State) (g : Good m) where
    abbrev Spans : List Entry → (ℕ → Option (List ℕ)) → Type 0
    Spans past kept = (job : ℕ) (page : List ℕ) → kept job ≡ Some page → InSpan m past job c.channel c.name c.block page

    abbrev kept_next : Entry → (ℕ → Option (List ℕ)) → ℕ → Option (List ℕ)
    kept_next entry kept job = cond (entry.job == job) (page_kept c.channel (kept job) entry.request entry.reply) (kept job)

    span_own : (past : List Entry) (entry : Entry) (kept : Option (List ℕ)) → IsAnswered (after m past) entry → MayCount c kept entry.request → AllOpen (after m past) → ((page : List ℕ) → kept ≡ Some page → InSpan m past entry.job c.channel c.name c.block page) → (page : List ℕ) → page_kept c.channel kept entry.request entry.reply ≡ Some page → InSpan m (past ++ entry ∷ []) entry.job c.channel c.name c.block page
    span_own past entry kept answered may all span page is = either (kept_cases kept entry.request entry.reply) reads goes_on where
      reads : IsGet entry.request entry.reply → InSpan m (past ++ entry ∷ []) entry.job c.channel c.name c.block page
      reads get =
          let may : MayCount c kept (Get get.channel get.block) = subst (MayCount c kept) get.request_is may in
          let got : Some get.page ≡ Some page = (λ i. page_kept c.channel kept (sym get.request_is i) (sym get.reply_is i)) ∙ is in
          let same : get.page ≡ page = cc in
          let read : Reads entry.request entry.reply c.channel c.block page = subst (λ r. Reads r entry.reply c.channel c.block page) (sym get.request_is) (subst (λ a. Reads (Get get.channel get.block) a c.channel c.block page) (sym get.reply_is) (may.0, (may.1, same))) in
          let opened = reading_is_open (after m past) entry.job entry.request c.channel c.block page (subst (λ a. Reads entry.request a c.channel c.block page) answered.reply_is read) in
          let on = all entry.job c.channel opened.0 opened.1 in
          record {
            before = past;
            by = entry;
            between = [];
            is = refl;
            of_job = refl;
            reads = read;
            opened = opened.0;
            is_open = opened.1;
            on = on.0;
            update = on.1;
            no_end = tt;
          }

      goes_on : page_kept c.channel kept entry.request entry.reply ≡ cond (is_end c.channel entry.request entry.reply) None kept → InSpan m (past ++ entry ∷ []) entry.job c.channel c.name c.block page
      goes_on same = by_test (is_end c.channel entry.request entry.reply)
          (λ ends. absurd (let clash : None ≡ Some page = ap (λ b. cond b None kept) (sym ends) ∙ sym same ∙ is in cc))
          (λ stays.
          let still : kept ≡ Some page = ap (λ b. cond b None kept) (sym stays) ∙ sym same ∙ is in
          span_more m past entry entry.job c.channel c.name c.block page (span page still) (λ _. stays))

    spans_more : (past : List Entry) (entry : Entry) (kept : ℕ → Option (List ℕ)) → IsAnswered (after m past) entry → MayCount c (kept entry.job) entry.request → AllOpen (after m past) → Spans past kept → Spans (past ++ entry ∷ []) (kept_next entry kept)
    spans_more past entry kept answered may all spans job page is = by_test (entry.job == job) own other where
      own : (entry.job == job) ≡ true → InSpan m (past ++ entry ∷ []) job c.channel c.name c.block page
      own t =
          let same : entry.job ≡ job = eqb-true entry.job job t in
          let after_it : page_kept c.channel (kept job) entry.request entry.reply ≡ Some page = ap (λ b. cond b (page_kept c.channel (kept job) entry.request entry.reply) (kept job)) (sym t) ∙ is in
          subst (λ j. InSpan m (past ++ entry ∷ []) j c.channel c.name c.block page) same
          (span_own past entry (kept entry.job) answered may all (spans entry.job) page
          (ap (λ j. page_kept c.channel (kept j) entry.request entry.reply) same ∙ after_it))

      other : (entry.job == job) ≡ false → InSpan m (past ++ entry ∷ []) job c.channel c.name c.block page
      other f =
          let still : kept job ≡ Some page = ap (λ b. cond b (page_kept c.channel (kept job) entry.request entry.reply) (kept job)) (sym f) ∙ is in
          span_more m past entry job c.channel c.name c.block page (spans job page still)
          (λ same. absurd (true≢false (sym (eq-eqb entry.job job (sym same)) ∙ f)))

    none_written : (s : State) (entry : Entry) → page_in_put entry.request entry.reply c.block ≡ None → page_written s entry c.name c.block ≡ None
    none_written s entry e = by_test (is_on c.name (channel_of s.jobs entry.job (channel_in entry.request)))
        (λ on. ap (λ b. cond b (page_in_put entry.request entry.reply c.block) None) on ∙ e)
        (λ off. ap (λ b. cond b (page_in_put entry.request entry.reply c.block) None) off)

    is_safe : (past : List Entry) (entry : Entry) (kept : Option (List ℕ)) → Legal m past → ((page : List ℕ) → kept ≡ Some page → InSpan m past entry.job c.channel c.name c.block page) → (n : IsNext kept entry.request entry.reply) → IsSafeUpdate m past entry c.name c.block n.old n.page
    is_safe past entry kept legal span n =
        let s = span n.old n.kept_is in
        let h = span_holds m past entry.job c.channel c.name c.block n.old legal s in
        let on : is_on c.name (channel_of (after m past).jobs entry.job (channel_in entry.request)) ≡ true =
        ap (λ d. is_on c.name (channel_of (after m past).jobs entry.job d)) n.channel_is ∙ ap (is_on c.name) h.is_open ∙ ap (λ a. same_name a c.name) h.on ∙ same_name-self c.name in
        record {
          span = subst (λ d. InSpan m past entry.job d c.name c.block n.old) (sym n.channel_is) s;
          writes = ap (λ b. cond b (page_in_put entry.request entry.reply c.block) None) on ∙ n.writes;
        }

    -- the claim for what comes after a part of the history
    record CountedOn (past rest : List Entry) : Type 0 where
      updates : List (List ℕ × List ℕ)
      safe : AreSafe m c.name c.block past rest updates
      steps : AllByRecursion (λ (u : List ℕ × List ℕ). c.number u.1 ≡ c.step (c.number u.0)) updates
      pages : map (λ (u : List ℕ × List ℕ). u.1) updates ≡ pages_put c.block rest
      stays : Stays c.name rest

    counted_more : (past rest : List Entry) (entry : Entry) (kept : Option (List ℕ)) → Legal m past → MayCount c kept entry.request → ((page : List ℕ) → kept ≡ Some page → InSpan m past entry.job c.channel c.name c.block page) → CountedOn (past ++ entry ∷ []) rest → CountedOn past (entry ∷ rest)
    counted_more past rest entry kept legal may span later =
        either (writes_or_not kept entry.request entry.reply may)
        (λ none. record {
          updates = later.updates;
          safe = untouched (none_written (after m past) entry none) later.safe;
          steps = later.steps;
          pages = later.pages ∙ ap (λ o. with_page o (pages_put c.block rest)) (sym none);
          stays = (stays_by kept entry.request entry.reply may, later.stays);
        })
        (λ n. record {
          updates = (n.old, n.page) ∷ later.updates;
          safe = updated (is_safe past entry kept legal span n) later.safe;
          steps = (n.steps, later.steps);
          pages = ap (λ pages. n.page ∷ pages) later.pages ∙ ap (λ o. with_page o (pages_put c.block rest)) (sym n.writes);
          stays = (stays_by kept entry.request entry.reply may, later.stays);
        })

    abbrev AllCount : (ℕ → Option (List ℕ)) → List Entry → Type 0
    AllCount kept rest = (job : ℕ) → Counts c (kept job) (part_of job rest)

    -- a job's part, by whether the first entry is its own
    abbrev part_by : ℕ → Entry → List Entry → Bool → List Pair
    part_by job entry rest own = map pair_in (cond own (entry ∷ filter (λ e. e.job == job) rest) (filter (λ e. e.job == job) rest))

    may_ask : (kept : ℕ → Option (List ℕ)) (entry : Entry) (rest : List Entry) → AllCount kept (entry ∷ rest) → MayCount c (kept entry.job) entry.request
    may_ask kept entry rest counts =
        let own : Counts c (kept entry.job) (part_by entry.job entry rest true) = subst (λ b. Counts c (kept entry.job) (part_by entry.job entry rest b)) (eq-eqb entry.job entry.job refl) (counts entry.job) in
        own.0

    count_rest : (kept : ℕ → Option (List ℕ)) (entry : Entry) (rest : List Entry) → AllCount kept (entry ∷ rest) → AllCount (kept_next entry kept) rest
    count_rest kept entry rest counts job = by_test (entry.job == job)
        (λ t.
        let own : Counts c (kept job) (part_by job entry rest true) = subst (λ b. Counts c (kept job) (part_by job entry rest b)) t (counts job) in
        subst (λ b. Counts c (cond b (page_kept c.channel (kept job) entry.request entry.reply) (kept job)) (part_of job rest)) (sym t) own.1)
        (λ f.
        let others : Counts c (kept job) (part_by job entry rest false) = subst (λ b. Counts c (kept job) (part_by job entry rest b)) f (counts job) in
        subst (λ b. Counts c (cond b (page_kept c.channel (kept job) entry.request entry.reply) (kept job)) (part_of job rest)) (sym f) others)

    counted_on : (past rest : List Entry) (kept : ℕ → Option (List ℕ)) → Legal m (past ++ rest) → AllOpen (after m past) → Spans past kept → AllCount kept rest → CountedOn past rest
    counted_on past [] kept legal all spans counts = record { updates = []; safe = at_end; steps = tt; pages = refl; stays = tt }
    counted_on past (entry ∷ rest) kept legal all spans counts =
        let first = legal_first m past (entry ∷ rest) legal in
        let here = (legal_rest m past (entry ∷ rest) legal).0 in
        let may = may_ask kept entry rest counts in
        let whole = subst (Legal m) (sym (append_assoc past (entry ∷ []) rest)) legal in
        let later_open = subst AllOpen (sym (after_push m past entry)) (open_more (after m past) (all_good m past g) entry.job entry.request (kept entry.job) may all) in
        counted_more past rest entry (kept entry.job) first may (spans entry.job)
        (counted_on (past ++ entry ∷ []) rest (kept_next entry kept) whole later_open (spans_more past entry kept here may all spans) (count_rest kept entry rest counts))

pub counters_are_safe : CountersAreSafe
counters_are_safe m history c g unopened legal counts =
    let on = counted_on c m g [] history (λ _. None) legal
    (λ job channel entry is. absurd (let clash : None ≡ Some entry = sym (unopened.closed job channel) ∙ is in cc))
    (λ job page is. absurd (let clash : None ≡ Some page = is in cc))
    counts in
    record { updates = on.updates; safe = on.safe; steps = on.steps; pages = on.pages; stays = on.stays }

-- What a call that writes a block does: its channel may, and then the block has the page.
use Rattle.std.proofs.Common.{◌≡◌, ◌≢◌, ℕ, ◌-◌, ◌≤◌, ◌<◌, ◌==◌, zero, suc, true, false, cond, List, [], ◌∷◌, ◌++◌, length, replicate, slice_get, refl, sym, ap, ◌∙◌, subst, arith, set, ◌⊎◌, inl, inr, Some, None, length-set, get_or-set_same}
use Rattle.std.specs.Prelude.{Option, not, nat_le, unwrap_or}
use Rattle.std.proofs.lemmas.Bool.{true≢false, eqb-true, eq-eqb, leb-true, or_parts, cases_eq}
use Rattle.std.proofs.lemmas.List.{length-append, length-replicate}
use Rattle.std.proofs.lemmas.Option.{slice_get-get_or}
use Rattle.monitor_calls.specs.declared.files.FileName.{FileName}
use Rattle.monitor_calls.specs.declared.calls.Request.{Request}
use Rattle.monitor_calls.specs.declared.calls.Request.TheVariants.{Put, PutRecord}
use Rattle.monitor_calls.specs.declared.calls.Reply.{Reply}
use Rattle.monitor_calls.specs.declared.calls.Reply.TheVariants.{Done, Failed, Expired}
use Rattle.monitor_calls.specs.Pages.{zeros}
use Rattle.monitor_calls.proofs.FileNameLemmas.{same_name-true}
use Rattle.monitor_model.specs.declared.entries.ChannelEntry.{ChannelEntry}
use Rattle.monitor_model.specs.Files.{File, is_file, the_file, page_of, page_at, size, empty_file, written, put, put_all}
use Rattle.monitor_model.specs.Jobs.{channel_of, is_on, is_open, the_channel, closed}
use Rattle.monitor_model.specs.Holds.{is_held}
use Rattle.monitor_model.specs.State.{State}
use Rattle.monitor_model.specs.Answer.{is_record, counted, to_put, to_put_record, written_by, next, reply}
use Rattle.monitor_model.specs.Good.{Good}
use Rattle.monitor_model.specs.Spans.{is_end, channel_in}
use Rattle.monitor_model.specs.Updates.{page_in_put}
use Rattle.monitor_model.proofs.Tools.{by_test}
use Rattle.monitor_model.proofs.FileLemmas.{file_there, file_at-replace_same}
use Rattle.monitor_model.proofs.PageLemmas.{written_name, page-put}
use Rattle.monitor_model.proofs.JobLemmas.{channel_of-count}
use Rattle.monitor_model.proofs.RecordLemmas.{above_zero, none_held, among_page, is_file-put_all}
use Rattle.monitor_model.proofs.Outcomes.{NoneApply, IsMild, table_is, Outcomes, answer_outcomes}

-- THE PAGE

-- the block that was written has the page
page_of-written : (file : File) (block : ℕ) (page : List ℕ) → 0 < block → page_of (written file block page) block ≡ Some page
unfolding written
page_of-written file zero page some = absurd (omega (arith, some))
page_of-written file (suc at) page some =
    let pages : List (List ℕ) = file.pages ++ replicate (suc at - size file) zeros in
    let lt : at < length pages = omega (arith, length-append file.pages (replicate (suc at - size file) zeros), length-replicate (suc at - size file) zeros) in
    let same : suc at - 1 ≡ at = omega arith in
    ap (λ i. slice_get (set pages i page) at) same
    ∙ slice_get-get_or (set pages at page) at page (subst (λ n. at < n) (sym (length-set pages at page)) lt)
    ∙ ap Some (get_or-set_same pages at page page lt)

pub page_at-put : (files : List File) (name : FileName) (block : ℕ) (page : List ℕ) → is_file files name ≡ true → 0 < block → page_at (put files name block page) name block ≡ Some page
page_at-put files name block page there some =
    let old = the_file files name in
    ap (λ o. page_of (unwrap_or o (empty_file name 0)) block) (file_at-replace_same files name (written old block page) old (written_name files name block page) (file_there files name there))
    ∙ page_of-written old block page some

-- so have the blocks of a record
pub page_at-put_all : (pages : List (List ℕ)) (files : List File) (name : FileName) (first block : ℕ) (page : List ℕ) → is_file files name ≡ true → 0 < first → first ≤ block → slice_get pages (block - first) ≡ Some page → page_at (put_all files name first pages) name block ≡ Some page
page_at-put_all [] files name first block page there some above is = absurd (cc)
page_at-put_all (bytes ∷ pages) files name first block page there some above is =
    by_place (cases_eq block first) (λ above_first rest. page_at-put_all pages files name (suc first) block page there (omega (arith, some)) above_first rest) where
      by_place : (block ≡ first) ⊎ (block ≢ first) → (suc first ≤ block → slice_get pages (block - suc first) ≡ Some page → page_at (put_all files name (suc first) pages) name block ≡ Some page) → page_at (put_all files name first (bytes ∷ pages)) name block ≡ Some page
      by_place (inl same) later =
          let zeroth : block - first ≡ 0 = omega (arith, same) in
          let one : Some bytes ≡ Some page = ap (slice_get (bytes ∷ pages)) (sym zeroth) ∙ is in
          subst (λ b. page_at (put_all files name first (bytes ∷ pages)) name b ≡ Some page) (sym same)
          (page_at-put (put_all files name (suc first) pages) name first bytes (is_file-put_all name pages files (suc first) name ∙ there) some ∙ one)
      by_place (inr other) later =
          let more : block - first ≡ suc (block - suc first) = omega (arith, above, other) in
          let rest : slice_get pages (block - suc first) ≡ Some page = ap (slice_get (bytes ∷ pages)) (sym more) ∙ is in
          page-put (put_all files name (suc first) pages) name block page (later (omega (arith, above, other)) rest) name first bytes (λ same. other) some

-- THE CALL

-- what is known of a write in the state s that has counted it
record IsPut (s : State) (job channel block : ℕ) (page : List ℕ) (new : State) : Type 0 where
  is_open : is_open s.jobs job channel ≡ true
  free : is_held s.holds job channel (the_channel s.jobs job channel).name block ≡ false
  page_is : is_file s.files (the_channel s.jobs job channel).name ≡ true → page_at new.files (the_channel s.jobs job channel).name block ≡ Some page

-- a write releases what its channel held
pub put_ends : (request : Request) (answer : Reply) (block : ℕ) (page : List ℕ) → page_in_put request answer block ≡ Some page → is_end (channel_in request) request answer ≡ true
put_ends (Put at first bytes) Done block page e = eq-eqb at at refl
put_ends (PutRecord at first pages) Done block page e = eq-eqb at at refl
put_ends request answer block page e = absurd (cc)

put_failed : (request : Request) (n block : ℕ) → page_in_put request (Failed n) block ≡ None
put_failed (Put at first bytes) n block = refl
put_failed request n block = refl

put_expired : (request : Request) (block : ℕ) → page_in_put request Expired block ≡ None
put_expired (Put at first bytes) block = refl
put_expired request block = refl

module _ (m : State) (job : ℕ) where
  abbrev Written : Request → State × Reply → Type 0
  Written request out =
      (block : ℕ) (page : List ℕ) → page_in_put request out.1 block ≡ Some page → IsPut (counted m job) job (channel_in request) block page out.0

  nothing : (request : Request) (out : State × Reply) → ((block : ℕ) → page_in_put request out.1 block ≡ None) → Written request out
  nothing request out none block page e =
      absurd (let clash : None ≡ Some page = sym (none block) ∙ e in cc)

  by_mild : (request : Request) (out : State × Reply) → IsMild request out.1 → Written request out
  by_mild request out mild block page e =
      absurd (true≢false (sym (put_ends request out.1 block page e) ∙ mild.no_end (channel_in request)))

  put_block : (channel first : ℕ) (bytes : List ℕ) → is_open (counted m job).jobs job channel ≡ true → NoneApply (to_put (counted m job) job channel first) → Written (Put channel first bytes) (written_by (counted m job) job channel first (bytes ∷ []), Done)
  put_block channel first bytes is h block page e =
      let s : State = counted m job in
      let name = (the_channel s.jobs job channel).name in
      by_test (first == block)
      (λ t.
      let same : first ≡ block = eqb-true first block t in
      let one : Some bytes ≡ Some page = ap (λ b. cond b (Some bytes) None) (sym t) ∙ e in
      subst (λ b. IsPut s job channel b page (written_by s job channel first (bytes ∷ []))) same
      (record { is_open = is; free = h.1.1.0; page_is = λ there. page_at-put s.files name first bytes there (above_zero first h.1.0) ∙ one }))
      (λ f. absurd (let clash : None ≡ Some page = ap (λ b. cond b (Some bytes) None) (sym f) ∙ e in cc))

  put_record : (channel first : ℕ) (pages : List (List ℕ)) → is_open (counted m job).jobs job channel ≡ true → NoneApply (to_put_record (counted m job) job channel first (length pages)) → Written (PutRecord channel first pages) (written_by (counted m job) job channel first pages, Done)
  put_record channel first pages is h block page e =
      let s : State = counted m job in
      let name = (the_channel s.jobs job channel).name in
      by_test (nat_le first block)
      (λ t.
      let above : first ≤ block = leb-true first block t in
      let among : slice_get pages (block - first) ≡ Some page = ap (λ b. cond b (slice_get pages (block - first)) None) (sym t) ∙ e in
      let some : 0 < first = above_zero first (or_parts (first == 0) (not (is_record (length pages))) h.1.0).0 in
      record {
        is_open = is;
        free = none_held s.holds job channel name (length pages) first block h.1.1.0 above (among_page pages first block page above among);
        page_is = λ there. page_at-put_all pages s.files name first block page there some above among;
      })
      (λ f. absurd (let clash : None ≡ Some page = ap (λ b. cond b (slice_get pages (block - first)) None) (sym f) ∙ e in cc))

  writing_outcomes : Outcomes m job Written
  writing_outcomes = record {
    turned_away = λ request none. nothing request (m, Failed 5) (put_failed request 5);
    leaves = λ none block page e. absurd (cc);
    logs_in = λ account password none right block page e. absurd (cc);
    stops = λ caller some block page e. absurd (cc);
    expires = λ request caller some. nothing request _ (put_expired request);
    table = λ caller some more. table_is (counted m job) job caller Written (record {
      idle = λ request reply mild goes fine. by_mild request _ mild;
      posts = λ request reply mild goes fine receivers posting. by_mild request _ mild;
      prints = λ request mild printer printing. by_mild request _ mild;
      opens = λ channel name kind update code low free there right block page e. absurd (cc);
      makes = λ channel name kind update code low free none h block page e. absurd (cc);
      remakes = λ channel name kind update code low free there write unopened output block page e. absurd (cc);
      closes = λ channel is block page e. absurd (cc);
      gets = λ channel first is h block page e. absurd (cc);
      puts = put_block;
      gets_record = λ channel first count is h block page e. absurd (cc);
      puts_record = put_record;
      unlocks = λ channel is block page e. absurd (cc);
      kills = λ name h block page e. absurd (cc);
      renames = λ old new code h block page e. absurd (cc);
    }) (λ request n mild. by_mild request _ mild);
  }

  -- if its channel is open on the file, no other channel holds the block, which then has the page
  pub writing : Good m → (request : Request) (name : FileName) (block : ℕ) (page : List ℕ) → is_on name (channel_of m.jobs job (channel_in request)) ≡ true → page_in_put request (reply m job request) block ≡ Some page → (is_held m.holds job (channel_in request) name block ≡ false) × (page_at (next m job request).files name block ≡ Some page)
  writing g request name block page on e =
      let p : IsPut (counted m job) job (channel_in request) block page (next m job request) = answer_outcomes m job Written writing_outcomes request block page e in
      at_channel (channel_of m.jobs job (channel_in request)) refl on p where
        at_channel : (o : Option ChannelEntry) → channel_of m.jobs job (channel_in request) ≡ o → is_on name o ≡ true → IsPut (counted m job) job (channel_in request) block page (next m job request) → (is_held m.holds job (channel_in request) name block ≡ false) × (page_at (next m job request).files name block ≡ Some page)
        at_channel None none on p = absurd (cc)
        at_channel (Some entry) is on p =
            let same : entry.name ≡ name = same_name-true entry.name name on in
            let there : is_file m.files name ≡ true = subst (λ n. is_file m.files n ≡ true) same (g.jobs.there job (channel_in request) entry is) in
            let found : (the_channel (counted m job).jobs job (channel_in request)).name ≡ name = ap (λ o. (unwrap_or o closed).name) (channel_of-count m.jobs job job (channel_in request) ∙ is) ∙ same in (
              subst (λ n. is_held m.holds job (channel_in request) n block ≡ false) found p.free,
              subst (λ n. is_file m.files n ≡ true → page_at (next m job request).files n block ≡ Some page) found p.page_is there,
            )

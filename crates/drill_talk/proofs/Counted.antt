-- The number in the last page is how many Puts were done.
use Rattle.std.proofs.Common.{◌≡◌, ℕ, zero, suc, ◌+◌, ◌%◌, ◌≤◌, ◌==◌, Bool, true, cond, List, [], ◌∷◌, length, map, refl, sym, ap, subst, ◌∙◌, arith, Option, Some, None}
use Rattle.std.specs.Prelude.{filter}
use Rattle.std.specs.List.{AllByRecursion}
use Rattle.std.specs.Fn.{iterate}
use Rattle.std.proofs.lemmas.Bool.{eqb-true, eq-eqb, cases_lt}
use Rattle.std.proofs.lemmas.List.{length-append, length-map, length-replicate}
use Rattle.monitor_calls.specs.declared.calls.Entry.{Entry}
use Rattle.monitor_calls.specs.declared.calls.Request.{Request}
use Rattle.monitor_calls.specs.declared.calls.Request.TheVariants.{Put, PutRecord}
use Rattle.monitor_calls.specs.declared.calls.Reply.{Reply}
use Rattle.monitor_calls.specs.declared.calls.Reply.TheVariants.{Done}
use Rattle.monitor_calls.specs.FileNames.{same_name}
use Rattle.monitor_calls.specs.Pages.{zeros}
use Rattle.monitor_calls.specs.Pairs.{Pair}
use Rattle.monitor_calls.specs.Proper.{Proper, IsProperReply}
use Rattle.monitor_calls.specs.Volumes.{is_good_volume}
use Rattle.monitor_model.specs.declared.entries.JobEntry.{JobEntry}
use Rattle.monitor_model.specs.Jobs.{nobody}
use Rattle.monitor_model.specs.State.{State}
use Rattle.monitor_model.specs.Answer.{next}
use Rattle.monitor_model.specs.Files.{page_at}
use Rattle.monitor_model.specs.History.{Legal, pair_in, part_of}
use Rattle.monitor_model.specs.Updates.{page_in_put, last_page}
use Rattle.monitor_model.specs.Counters.{Counting, page_kept, MayCount, Counts, with_page}
use Rattle.monitor_model.specs.Counters as counters
use Rattle.monitor_model.specs.Laws.{OpeningIsGood, OpeningIsUnopened, AnswerKeepsJobs, SafeUpdatesAreAChain, SafeUpdatesCount, CountersAreSafe}
use Rattle.monitor_model.proofs.Tools.{either, by_test}
use Rattle.drill_deck.specs.DrillDeck.{drill_entry, drill_file, drill_terminal, drill_terminals}
use Rattle.drill_deck.specs.Tallies.{page_by, with_put, pages_put, counter, last_counter, puts_in}
use Rattle.drill_talk.specs.Laws.{next_number, drill_counting, TalkCounts, drill_opening, NoPutIsLost}

-- A JOB'S PART

-- a job's part, by whether the first entry is its own
abbrev part_by : ℕ → Entry → List Entry → Bool → List Pair
part_by job entry rest own = map pair_in (cond own (entry ∷ filter (λ e. e.job == job) rest) (filter (λ e. e.job == job) rest))

-- what is so of each pair of each part is so of each entry
module _ (P : Pair → Type 0) where
  abbrev All : List Pair → Type 0
  All pairs = AllByRecursion P pairs

  all_entries : (history : List Entry) → ((job : ℕ) → All (part_of job history)) → AllByRecursion (λ (e : Entry). P (pair_in e)) history
  all_entries [] all = tt
  all_entries (e ∷ history) all =
      let own : All (part_by e.job e history true) = subst (λ b. All (part_by e.job e history b)) (eq-eqb e.job e.job refl) (all e.job) in (
        own.0,
        all_entries history (λ job. by_test (e.job == job)
            (λ t. let mine : All (part_by job e history true) = subst (λ b. All (part_by job e history b)) t (all job) in mine.1)
            (λ f. subst (λ b. All (part_by job e history b)) f (all job))),
      )

  -- and the other way round
  each_part : (history : List Entry) → AllByRecursion (λ (e : Entry). P (pair_in e)) history → (job : ℕ) → All (part_of job history)
  each_part [] all job = tt
  each_part (e ∷ history) all job = by_test (e.job == job)
      (λ t. subst (λ b. All (part_by job e history b)) (sym t) (all.0, each_part history all.1 job))
      (λ f. subst (λ b. All (part_by job e history b)) (sym f) (each_part history all.1 job))

-- a job that the monitor does not have has no part
no_part : (keeps : AnswerKeepsJobs) (m : State) (history : List Entry) (job : ℕ) → length m.jobs ≤ job → Legal m history → part_of job history ≡ []
no_part keeps m [] job high legal = refl
no_part keeps m (e ∷ history) job high legal =
    by_test (e.job == job)
    (λ t. absurd (let same = eqb-true e.job job t in let low = legal.0.is_job in omega (arith, same, low, high)))
    (λ f. subst (λ b. part_by job e history b ≡ []) (sym f)
    (no_part keeps (next m e.job e.request) history job (let same = keeps m e.job e.request in omega (arith, same, high)) legal.1))

-- THE PAGES

-- it writes one block at a time, the first
abbrev WritesFirst : Request → Type 0
WritesFirst (Put channel block page) = block ≡ 1
WritesFirst (PutRecord channel block pages) = ⊥
WritesFirst request = Unit {0}

writes_first : (kept : Option (List ℕ)) (request : Request) → MayCount drill_counting kept request → WritesFirst request
writes_first kept (Put channel block page) may = may.1.0
writes_first kept (PutRecord channel block pages) may = absurd may
writes_first kept request may = tt

all_first : (pairs : List Pair) (kept : Option (List ℕ)) → Counts drill_counting kept pairs → AllByRecursion (λ (p : Pair). WritesFirst p.0) pairs
all_first [] kept counts = tt
all_first (p ∷ pairs) kept counts = (writes_first kept p.0 counts.0, all_first pairs (page_kept 1 kept p.0 p.1) counts.1)

same_page : (request : Request) (reply : Reply) → WritesFirst request → page_in_put request reply 1 ≡ page_by request reply
same_page (Put channel block page) Done first = ap (λ b. page_in_put (Put channel b page) Done 1) first
same_page (Put channel block page) reply first = refl
same_page (PutRecord channel block pages) reply first = absurd first
same_page request reply first = refl

same_with : (o : Option (List ℕ)) (pages : List (List ℕ)) → with_page o pages ≡ with_put o pages
same_with None pages = refl
same_with (Some page) pages = refl

same_pages : (history : List Entry) → AllByRecursion (λ (e : Entry). WritesFirst e.request) history → counters.pages_put 1 history ≡ pages_put history
same_pages [] all = refl
same_pages (e ∷ history) all =
    ap (λ o. with_page o (counters.pages_put 1 history)) (same_page e.request e.reply all.0)
    ∙ ap (with_page (page_by e.request e.reply)) (same_pages history all.1)
    ∙ same_with (page_by e.request e.reply) (pages_put history)

-- THE NUMBERS

counted : (n x : ℕ) → iterate next_number n (x % 65536) ≡ (x + n) % 65536
counted zero x = omega arith
counted (suc n) x =
    let step : next_number (x % 65536) ≡ (x + 1) % 65536 = omega arith in
    let sum : x + 1 + n ≡ x + suc n = omega arith in
    ap (iterate next_number n) step ∙ counted n (x + 1) ∙ ap (λ k. k % 65536) sum

counted_all : (n : ℕ) → iterate next_number n 0 ≡ n % 65536
counted_all n = let from_zero : 0 + n ≡ n = omega arith in counted n 0 ∙ ap (λ k. k % 65536) from_zero

last_is : (updates : List (List ℕ × List ℕ)) (page : List ℕ) → last_counter (counter page) (map (λ (u : List ℕ × List ℕ). u.1) updates) ≡ counter (last_page page updates)
last_is [] page = refl
last_is (u ∷ updates) page = last_is updates u.1

-- THE DRILL'S DECK

good : is_good_volume 8 (drill_entry ∷ []) (drill_file ∷ []) ≡ true
good = refl

pub as_many : (jobs : ℕ) → length (drill_terminals jobs) ≡ jobs
as_many zero = refl
as_many (suc jobs) =
    let before = as_many jobs in
    let more = length-append (drill_terminals jobs) (drill_terminal (suc jobs) ∷ []) in
    omega (arith, before, more)

many_jobs : (jobs : ℕ) → length (drill_opening jobs).jobs ≡ jobs
many_jobs jobs = length-replicate {A = JobEntry} (length (drill_terminals jobs)) nobody ∙ as_many jobs

at_first : (jobs : ℕ) → page_at (drill_opening jobs).files drill_counting.name 1 ≡ Some zeros
unfolding same_name
at_first jobs = refl

-- THE LAW

pub no_put_is_lost : OpeningIsGood → OpeningIsUnopened → AnswerKeepsJobs → SafeUpdatesAreAChain → SafeUpdatesCount → CountersAreSafe → TalkCounts → NoPutIsLost
unfolding zeros
no_put_is_lost opens_good opens_closed keeps chains counts are_safe talk_counts jobs history legal proper talks =
    let m = drill_opening jobs in
    let is_good = opens_good (drill_entry ∷ []) 8 (drill_file ∷ []) (length (drill_terminals jobs)) good in
    let unopened = opens_closed (drill_entry ∷ []) 8 (drill_file ∷ []) (length (drill_terminals jobs)) in
    let each : (job : ℕ) → Counts drill_counting None (part_of job history) = λ job. either (cases_lt job jobs)
    (λ low. let told = talks job low in talk_counts (part_of job history) told.0 (each_part (λ p. IsProperReply p.1) history (replied history proper) job) told.1)
    (λ high. let none = no_part keeps m history job (let many = many_jobs jobs in omega (arith, many, high)) legal in
    subst (Counts drill_counting None) (sym none) tt)
    in
    let is = are_safe m history drill_counting is_good unopened legal each in
    let chain = chains m history drill_counting.name 1 zeros is.updates is_good unopened.free legal is.stays (at_first jobs) is.safe in
    let last = counts m history drill_counting.name 1 zeros is.updates counter next_number is_good unopened.free legal is.stays (at_first jobs) is.safe is.steps in
    let one : Some last.0 ≡ Some (last_page zeros is.updates) = sym last.1 ∙ chain.1 in
    let same : last.0 ≡ last_page zeros is.updates = cc in
    let firsts = all_entries (λ p. WritesFirst p.0) history (λ job. all_first (part_of job history) None (each job)) in
    let pages = is.pages ∙ same_pages history firsts in
    let puts : length is.updates ≡ puts_in history = sym (length-map is.updates (λ (u : List ℕ × List ℕ). u.1)) ∙ ap length pages in
    ap (last_counter 0) (sym pages) ∙ last_is is.updates zeros ∙ ap counter (sym same) ∙ last.2
    ∙ counted_all (length is.updates) ∙ ap (λ n. n % 65536) puts
  where
    replied : (history : List Entry) → Proper history → AllByRecursion (λ (e : Entry). IsProperReply e.reply) history
    replied [] proper = tt
    replied (e ∷ history) proper = (proper.0.1.1, replied history proper.1)

-- The laws of the printer: a print job belongs to one job, a job that prints has begun one, and
-- error 8 comes exactly if another job has the printer.
use Rattle.std.proofs.Common.{◌≡◌, ℕ, true, false, List, [], ◌∷◌, ◌++◌, refl, sym, ap, ◌∙◌, subst, Some}
use Rattle.std.proofs.lemmas.Bool.{true≢false}
use Rattle.std.proofs.lemmas.List.{append_assoc, append-nil}
use Rattle.monitor_calls.specs.declared.names.Account.{Account}
use Rattle.monitor_calls.specs.declared.calls.Entry.{Entry}
use Rattle.monitor_calls.specs.declared.calls.Request.{Request}
use Rattle.monitor_calls.specs.declared.calls.Request.TheVariants.{Assign, OpenPrinter}
use Rattle.monitor_calls.specs.Requests.{is_logout}
use Rattle.monitor_model.specs.Printing.{is_anothers, is_printing}
use Rattle.monitor_model.specs.Refusals.{refusal}
use Rattle.monitor_model.specs.State.{State}
use Rattle.monitor_model.specs.Answer.{refusals, counted, is_last, next}
use Rattle.monitor_model.specs.Good.{Good}
use Rattle.monitor_model.specs.History.{after, IsAnswered, Legal}
use Rattle.monitor_model.specs.Listings.{is_finish, NoFinish, InListing, wants_printer}
use Rattle.monitor_model.specs.Laws.{PrintsAlone, PrintsInListing, RefusedByPrinter}
use Rattle.monitor_model.proofs.Tools.{either, by_test}
use Rattle.monitor_model.proofs.GoodLaw.{all_good}
use Rattle.monitor_model.proofs.Histories.{after-append, after_push, legal_first, legal_rest}
use Rattle.monitor_model.proofs.Refusing.{by_row, row_gives, last_expires, first_held, stopped_at}
use Rattle.monitor_model.proofs.PrinterCalls.{goes_on, came_from, stopped, begun, had_begun, not_done}

-- A JOB WHOSE PRINT JOB GOES ON PRINTS

along : (history : List Entry) (m : State) (k : ℕ) → Legal m history → NoFinish k history → is_printing m.printer k ≡ true → is_printing (after m history).printer k ≡ true
along [] m k legal goes prints = prints
along (entry ∷ history) m k legal goes prints =
    along history (next m entry.job entry.request) k legal.1 goes.1 (goes_on m entry legal.0 k prints goes.0)

listing_prints : (m : State) (past : List Entry) (job : ℕ) → Legal m past → InListing past job → is_printing (after m past).printer job ≡ true
listing_prints m past job legal l =
    let s = after m l.before in
    let here = legal_rest m l.before (l.by ∷ l.between) (subst (Legal m) l.is legal) in
    let began = subst (λ j. is_printing (next s l.by.job l.by.request).printer j ≡ true) l.of_job (begun s l.by here.0 l.begins l.is_done) in
    let now = along l.between (next s l.by.job l.by.request) job here.1 l.no_finish began in
    subst (λ x. is_printing x.printer job ≡ true) (sym (ap (after m) l.is ∙ after-append m l.before (l.by ∷ l.between))) now

pub prints_alone : PrintsAlone
prints_alone m past entry job legal listing other uses =
    let before = legal_first m past (entry ∷ []) legal in
    let answered = (legal_rest m past (entry ∷ []) legal).0 in
    not_done (after m past) entry answered job (listing_prints m past job before listing) other uses

-- A JOB THAT PRINTS HAS A PRINT JOB THAT GOES ON

abbrev AllListed : State → List Entry → Type 0
AllListed m past = (k : ℕ) → is_printing (after m past).printer k ≡ true → InListing past k

no_finish_push : (k : ℕ) (entries : List Entry) (entry : Entry) → NoFinish k entries → (entry.job ≡ k → is_finish entry.request entry.reply ≡ false) → NoFinish k (entries ++ entry ∷ [])
no_finish_push k [] entry none goes = (goes, tt)
no_finish_push k (first ∷ entries) entry none goes = (none.0, no_finish_push k entries entry none.1 goes)

module _ (m : State) (past : List Entry) (entry : Entry) (answered : IsAnswered (after m past) entry) where
  abbrev s : State
  s = after m past

  abbrev new : State
  new = next s entry.job entry.request

  -- the print job of a job goes on after the entry if the job prints after it
  listing_goes : Good s → (k : ℕ) → is_printing new.printer k ≡ true → InListing past k → InListing (past ++ entry ∷ []) k
  listing_goes g k now l =
      let goes : entry.job ≡ k → is_finish entry.request entry.reply ≡ false = λ same. by_test (is_finish entry.request entry.reply)
      (λ ends. absurd (true≢false (sym now ∙ subst (λ j. is_printing new.printer j ≡ false) same (stopped s entry answered g ends))))
      (λ goes. goes) in
      record {
        before = l.before;
        by = l.by;
        between = l.between ++ entry ∷ [];
        is = ap (λ x. x ++ entry ∷ []) l.is ∙ append_assoc l.before (l.by ∷ l.between) (entry ∷ []);
        of_job = l.of_job;
        begins = l.begins;
        is_done = l.is_done;
        no_finish = no_finish_push k l.between entry l.no_finish goes;
      }

  listed_push : Good s → AllListed m past → AllListed m (past ++ entry ∷ [])
  listed_push g all k prints =
      let now : is_printing new.printer k ≡ true = subst (λ x. is_printing x.printer k ≡ true) (after_push m past entry) prints in
      either (came_from s entry answered k now)
      (λ was. listing_goes g k now (all k was))
      (λ begins. record { before = past; by = entry; between = []; is = refl; of_job = begins.0; begins = begins.1.0; is_done = begins.1.1; no_finish = tt })

listed_on : (rest past : List Entry) (m : State) → Good m → Legal (after m past) rest → AllListed m past → AllListed m (past ++ rest)
listed_on [] past m g legal all = subst (AllListed m) (sym (append-nil past)) all
listed_on (entry ∷ rest) past m g legal all =
    subst (AllListed m) (append_assoc past (entry ∷ []) rest)
    (listed_on rest (past ++ entry ∷ []) m g (subst (λ s. Legal s rest) (sym (after_push m past entry)) legal.1)
    (listed_push m past entry legal.0 (all_good m past g) all))

pub prints_in_listing : PrintsInListing
prints_in_listing m past entry text g free legal asked told =
    let before = legal_first m past (entry ∷ []) legal in
    let answered = (legal_rest m past (entry ∷ []) legal).0 in
    listed_on past [] m g before (λ k prints. absurd (true≢false (sym prints ∙ ap (λ p. is_printing p k) free))) entry.job
    (had_begun (after m past) entry answered text asked told)

-- 8 COMES EXACTLY IF ANOTHER JOB HAS IT

from_8 : (m : State) (job : ℕ) (caller : Account) (request : Request) → wants_printer request ≡ true → refusal (refusals (counted m job) job caller request) ≡ Some 8 → is_anothers m.printer job ≡ true
from_8 m job caller Assign wants row = stopped_at 8 (is_anothers m.printer job) 8 [] refl row
from_8 m job caller OpenPrinter wants row = stopped_at 8 (is_anothers m.printer job) 8 ((is_printing m.printer job, 3) ∷ []) refl row
from_8 m job caller request wants row = absurd (cc)

to_8 : (m : State) (job : ℕ) (caller : Account) (request : Request) → wants_printer request ≡ true → is_anothers m.printer job ≡ true → (is_logout request ≡ false) × (refusal (refusals (counted m job) job caller request) ≡ Some 8)
to_8 m job caller Assign wants anothers = (refl, first_held [] [] (is_anothers m.printer job) 8 tt anothers)
to_8 m job caller OpenPrinter wants anothers = (refl, first_held [] ((is_printing m.printer job, 3) ∷ []) (is_anothers m.printer job) 8 tt anothers)
to_8 m job caller request wants anothers = absurd (cc)

pub refused_by_printer : RefusedByPrinter
refused_by_printer m entry caller answered some wants lives = (
  λ refused. let by = by_row 8 m entry refl answered refused in from_8 m entry.job by.caller entry.request wants by.row,
  λ anothers.
      let row = to_8 m entry.job caller entry.request wants anothers in
      row_gives 8 m entry answered (record {
        caller = caller;
        account = some;
        stays = row.0;
        not_last = by_test (is_last m entry.job caller) (λ last. absurd (lives (last_expires m entry caller answered some row.0 last))) (λ more. more);
        row = row.1;
      }),
)

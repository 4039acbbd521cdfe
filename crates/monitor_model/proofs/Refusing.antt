-- The table entry of a call decides its refusal: the number is that of the first test that holds.
use Rattle.std.proofs.Common.{◌≡◌, ◌≢◌, ℕ, ◌==◌, Bool, true, false, cond, List, [], ◌∷◌, ◌++◌, refl, sym, ap, ◌∙◌, subst, Some}
use Rattle.std.specs.Prelude.{◌||◌}
use Rattle.std.proofs.lemmas.Bool.{eqb-false, or_parts}
use Rattle.monitor_calls.specs.declared.names.Account.{Account}
use Rattle.monitor_calls.specs.declared.calls.Entry.{Entry}
use Rattle.monitor_calls.specs.declared.calls.Request.{Request}
use Rattle.monitor_calls.specs.declared.calls.Reply.{Reply}
use Rattle.monitor_calls.specs.declared.calls.Reply.TheVariants.{Done, Failed, Expired}
use Rattle.monitor_calls.specs.Requests.{is_logout}
use Rattle.monitor_model.specs.Jobs.{account_of}
use Rattle.monitor_model.specs.Refusals.{refusal}
use Rattle.monitor_model.specs.State.{State}
use Rattle.monitor_model.specs.Answer.{attempt, refusals, done, answer_table, counted, ended, is_last, answer_by}
use Rattle.monitor_model.specs.History.{entry_for, IsAnswered}
use Rattle.monitor_model.specs.Rights.{IsRefusedWith}
use Rattle.monitor_model.proofs.Outcomes.{NoneApply, done_is, answer_outcomes}

-- ONE TABLE ENTRY

pub fails : (n : ℕ) (m : State) (tests : List (Bool × ℕ)) (done : State × Reply) → refusal tests ≡ Some n → (attempt m tests done).1 ≡ Failed n
fails n m [] done e = absurd (cc)
fails n m (test ∷ tests) done e =
    elim (test.0) as (λ v. cond v (Some test.1) (refusal tests) ≡ Some n → (cond v (m, Failed test.1) (attempt m tests done)).1 ≡ Failed n) [
      | true ↦ λ e. let same : test.1 ≡ n = cc in ap Failed same
      | false ↦ λ e. fails n m tests done e
    ] e

pub failed : (n : ℕ) (m : State) (tests : List (Bool × ℕ)) (done : State × Reply) → (NoneApply tests → done.1 ≢ Failed n) → (attempt m tests done).1 ≡ Failed n → refusal tests ≡ Some n
failed n m [] done other e = absurd (other tt e)
failed n m (test ∷ tests) done other e =
    elim (test.0) as (λ v. test.0 ≡ v → (cond v (m, Failed test.1) (attempt m tests done)).1 ≡ Failed n → cond v (Some test.1) (refusal tests) ≡ Some n) [
      | true ↦ λ is e. let same : test.1 ≡ n = cc in ap Some same
      | false ↦ λ is e. failed n m tests done (λ rest. other (is, rest)) e
    ] refl e

-- the first test that holds, after others that do not
pub first_held : (tests rest : List (Bool × ℕ)) (test : Bool) (k : ℕ) → NoneApply tests → test ≡ true → refusal (tests ++ (test, k) ∷ rest) ≡ Some k
first_held [] rest test k none is = ap (λ b. cond b (Some k) (refusal rest)) is
first_held (other ∷ tests) rest test k none is =
    ap (λ b. cond b (Some other.1) (refusal (tests ++ (test, k) ∷ rest))) none.0 ∙ first_held tests rest test k none.1 is

-- two numbers make two refusals
pub apart_numbers : (n k : ℕ) → (n == k) ≡ false → (let r : Reply = Failed n in r) ≢ Failed k
apart_numbers n k e same = eqb-false n k e (cc)

-- whether one of the tests has this number
abbrev pub has_number : ℕ → List (Bool × ℕ) → Bool
has_number n [] = false
has_number n (test ∷ tests) = test.1 == n || has_number n tests

pub never_refused : {X : Type 0} (n : ℕ) (tests : List (Bool × ℕ)) → has_number n tests ≡ false → refusal tests ≡ Some n → X
never_refused n [] none e = absurd (cc)
never_refused {X = X} n (test ∷ tests) none e =
    let parts = or_parts (test.1 == n) (has_number n tests) none in
    elim (test.0) as (λ v. cond v (Some test.1) (refusal tests) ≡ Some n → X) [
      | true ↦ λ e. let same : test.1 ≡ n = cc in absurd (eqb-false test.1 n parts.0 same)
      | false ↦ λ e. never_refused n tests parts.1 e
    ] e

-- a test with another number did not hold
pub passed_over : (n : ℕ) (test : Bool) (k : ℕ) (tests : List (Bool × ℕ)) → (k == n) ≡ false → refusal ((test, k) ∷ tests) ≡ Some n → (test ≡ false) × (refusal tests ≡ Some n)
passed_over n test k tests other e =
    elim (test) as (λ v. cond v (Some k) (refusal tests) ≡ Some n → (v ≡ false) × (refusal tests ≡ Some n)) [
      | true ↦ λ e. let same : k ≡ n = cc in absurd (eqb-false k n other same)
      | false ↦ λ e. (refl, e)
    ] e

-- the one test with the number did
pub stopped_at : (n : ℕ) (test : Bool) (k : ℕ) (tests : List (Bool × ℕ)) → has_number n tests ≡ false → refusal ((test, k) ∷ tests) ≡ Some n → test ≡ true
stopped_at n test k tests none e =
    elim (test) as (λ v. cond v (Some k) (refusal tests) ≡ Some n → v ≡ true) [
      | true ↦ λ e. refl
      | false ↦ λ e. never_refused n tests none e
    ] e

-- EVERY CALL

-- what is done is no refusal
done_is_none : (s : State) (job : ℕ) (caller : Account) (n : ℕ) (request : Request) → is_logout request ≡ false → NoneApply (refusals s job caller request) → (done s job caller request).1 ≢ Failed n
done_is_none s job caller n =
    done_is s job caller (λ request out. out.1 ≢ Failed n) (record {
      idle = λ request reply mild goes fine. fine n;
      posts = λ request reply mild goes fine receivers posting. fine n;
      prints = λ request mild printer printing e. cc;
      opens = λ channel name kind update code low free there right e. cc;
      makes = λ channel name kind update code low free none h e. cc;
      remakes = λ channel name kind update code low free there write unopened output e. cc;
      closes = λ channel is e. cc;
      gets = λ channel block is h e. cc;
      puts = λ channel block page is h e. cc;
      gets_record = λ channel block count is h e. cc;
      puts_record = λ channel block pages is h e. cc;
      unlocks = λ channel is e. cc;
      kills = λ name h e. cc;
      renames = λ old new code h e. cc;
    })

abbrev RefusedBy : ℕ → State → ℕ → Request → State × Reply → Type 0
RefusedBy n m job request out = out.1 ≡ Failed n → IsRefusedWith n m (entry_for job request out.1)

-- a refusal with a number other than 5 comes from the table entry
pub by_row : (n : ℕ) (m : State) (entry : Entry) → (5 == n) ≡ false → IsAnswered m entry → entry.reply ≡ Failed n → IsRefusedWith n m entry
by_row n m entry other answered is =
    subst (λ r. IsRefusedWith n m (entry_for entry.job entry.request r)) (sym answered.reply_is)
    (answer_outcomes m entry.job (RefusedBy n m entry.job) (record {
      turned_away = λ request none e. absurd (apart_numbers 5 n other e);
      leaves = λ none e. absurd (cc);
      logs_in = λ account password none right e. absurd (cc);
      stops = λ caller some e. absurd (cc);
      expires = λ request caller some e. absurd (cc);
      table = λ caller some more request stays e. record {
        caller = caller;
        account = some;
        stays = stays;
        not_last = more;
        row = failed n (counted m entry.job) (refusals (counted m entry.job) entry.job caller request) (done (counted m entry.job) entry.job caller request) (done_is_none (counted m entry.job) entry.job caller n request stays) e;
      };
    }) entry.request (sym answered.reply_is ∙ is))

-- a call of a job that has an account
answered_by : (m : State) (entry : Entry) (caller : Account) → IsAnswered m entry → account_of m.jobs entry.job ≡ Some caller → is_logout entry.request ≡ false → entry.reply ≡ (cond (is_last m entry.job caller) (ended m entry.job, Expired) (answer_table (counted m entry.job) entry.job caller entry.request)).1
answered_by m entry caller answered some stays =
    let limited = cond (is_last m entry.job caller) (ended m entry.job, Expired) (answer_table (counted m entry.job) entry.job caller entry.request) in
    answered.reply_is
    ∙ ap (λ o. (answer_by o m entry.job entry.request).1) some
    ∙ ap (λ b. (cond b (ended m entry.job, Done) limited).1) stays

-- the last call ends the job
pub last_expires : (m : State) (entry : Entry) (caller : Account) → IsAnswered m entry → account_of m.jobs entry.job ≡ Some caller → is_logout entry.request ≡ false → is_last m entry.job caller ≡ true → entry.reply ≡ Expired
last_expires m entry caller answered some stays last =
    answered_by m entry caller answered some stays
    ∙ ap (λ b. (cond b (ended m entry.job, Expired) (answer_table (counted m entry.job) entry.job caller entry.request)).1) last

-- a refusal comes exactly if the table entry gives it
pub row_gives : (n : ℕ) (m : State) (entry : Entry) → IsAnswered m entry → IsRefusedWith n m entry → entry.reply ≡ Failed n
row_gives n m entry answered r =
    let s = counted m entry.job in
    answered_by m entry r.caller answered r.account r.stays
    ∙ ap (λ b. (cond b (ended m entry.job, Expired) (answer_table s entry.job r.caller entry.request)).1) r.not_last
    ∙ fails n s (refusals s entry.job r.caller entry.request) (done s entry.job r.caller entry.request) r.row

-- Jobs that did their parts, one after another, and the first that departs.
use Rattle.std.proofs.Common.{◌≡◌, ℕ, zero, suc, ◌+◌, ◌<◌, List, [], ◌∷◌, ◌++◌, length, Ok, Err, Some, refl, sym, ap, ◌∙◌, subst, arith}
use Rattle.std.specs.Prelude.{slice_get, Option, Result, IfSome}
use Rattle.std.proofs.lemmas.List.{length_push}
use Rattle.basic_values.specs.declared.failures.Trouble.{Trouble}
use Rattle.basic_values.specs.declared.failures.Trouble.TheVariants as trouble
use Rattle.monitor_calls.specs.declared.calls.Entry.{Entry}
use Rattle.monitor_calls.specs.Pairs.{Pair}
use Rattle.monitor_calls.specs.declared.events.Event.{Event}
use Rattle.monitor_calls.specs.Pairs.{pairs_of}
use Rattle.monitor_calls.specs.Typing.{Typing, Open, AreTyped}
use Rattle.monitor_model.specs.History.{part_of}
use Rattle.terminal_runner.specs.Runs.{AreUnused, Did, AllDid}
use Rattle.history_replay.specs.declared.disputes.Dispute.{Dispute}
use Rattle.history_replay.specs.declared.disputes.Dispute.TheVariants as dispute
use Rattle.history_replay.specs.Disputes.{each_does, entry_position, Departs}
use Rattle.history_replay.specs.Lists.{Listed, part, heard, lister, EndsSeat, JobDeparts, JobRan, FirstRan, JobsRan}

module _ (does : ℕ → List Pair → List ℕ → Type 0) (history : List Entry) where
  did_push : (from job : ℕ) (screens : List (List ℕ)) (screen : List ℕ) → job ≡ from + length screens → AllDid does history from screens → does job (part_of job history) screen → AllDid does history from (screens ++ screen ∷ [])
  did_push from job [] screen is did this =
      (subst (λ j. does j (part_of j history) screen) (let same : job ≡ from = omega arith in same) this, tt)
  did_push from job (first ∷ screens) screen is did this =
      (did.0, did_push (suc from) job screens screen (omega arith) did.1 this)

  did_at : (from job k : ℕ) (screens : List (List ℕ)) → job ≡ from + k → k < length screens → AllDid does history from screens → (screen : List ℕ) × does job (part_of job history) screen
  did_at from job k [] is below did = absurd (omega arith)
  did_at from job zero (first ∷ screens) is below did =
      (first, subst (λ j. does j (part_of j history) first) (let same : from ≡ job = omega arith in same) did.0)
  did_at from job (suc k) (first ∷ screens) is below did =
      did_at (suc from) job k screens (omega arith) (omega arith) did.1

  pub ran_more : (job : ℕ) (screens : List (List ℕ)) (screen : List ℕ) → FirstRan does job history screens → does job (part_of job history) screen → FirstRan does (job + 1) history (screens ++ screen ∷ [])
  ran_more job screens screen ran this = record {
    one_each = length_push screens screen ∙ ap (λ n. n + 1) ran.one_each;
    all_did = did_push 0 job screens screen (let many = ran.one_each in omega arith) ran.all_did this;
  }

  -- if a job departs from its part and those before it did theirs, it is the least
  pub ran_err : (jobs job : ℕ) (screens : List (List ℕ)) (error : Trouble Dispute) → job < jobs → FirstRan does job history screens → JobRan does job history (Err error) → JobsRan does jobs history (Err error)
  ran_err jobs job screens (trouble.Refused (dispute.Reply entry)) below ran here = here
  ran_err jobs job screens (trouble.Refused (dispute.Meaning which place position)) below ran here = record {
    is_job = subst (λ j. j < jobs) (sym here.job_is) below;
    earlier = λ j less. did_at 0 j j screens (omega arith) (let many = ran.one_each in let which_is = here.job_is in omega arith) ran.all_did;
    departs = subst (λ j. Departs does j (part_of j history) place) (sym here.job_is) here.departs;
    position_is = here.position_is ∙ ap (λ j. entry_position j place history) (sym here.job_is);
  }
  ran_err jobs job screens trouble.NoMemory below ran here = tt

module _ {B : Type 0} (does : B → List Pair → List ℕ → Type 0) (history : List Entry) where
  body_here : (before behind : List B) (body : B) → slice_get (before ++ body ∷ behind) (length before) ≡ Some body
  body_here [] behind body = refl
  body_here (first ∷ before) behind body = body_here before behind body

  -- what a job did or where it departed, by its own body, is also so by the body at its place
  ran_at : (bodies : List B) (body : B) (job : ℕ) (result : Result (List ℕ) (Trouble Dispute)) → slice_get bodies job ≡ Some body → JobRan (λ own. does body) job history result → JobRan (each_does does bodies) job history result
  ran_at bodies body job (Ok screen) at ran = subst (λ (o : Option B). IfSome o (λ b. does b (part_of job history) screen)) (sym at) ran
  ran_at bodies body job (Err (trouble.Refused (dispute.Reply entry))) at ran = ran
  ran_at bodies body job (Err (trouble.Refused (dispute.Meaning which place position))) at ran =
      let gone = ran.departs in
      record {
        job_is = ran.job_is;
        departs = record {
          pairs = gone.pairs;
          screen = gone.screen;
          done = subst (λ (o : Option B). IfSome o (λ b. does b gone.pairs gone.screen)) (sym at) gone.done;
          common = gone.common;
          within_pairs = gone.within_pairs;
          within_part = gone.within_part;
          differs = gone.differs;
        };
        position_is = ran.position_is;
      }
  ran_at bodies body job (Err trouble.NoMemory) at ran = tt

  -- so it is for the next body of a loop over all of them, if those before it did their parts
  pub next_ran : (all yielded rest left : List B) (body : B) (screens : List (List ℕ)) (job : ℕ) (result : Result (List ℕ) (Trouble Dispute)) → yielded ++ rest ≡ all → rest ≡ body ∷ left → FirstRan (each_does does all) (length yielded) history screens → job ≡ length screens → JobRan (λ own. does body) job history result → JobRan (each_does does all) (length yielded) history result
  next_ran all yielded rest left body screens job result whole step ran count this =
      let here : slice_get all (length yielded) ≡ Some body = subst (λ (l : List B). slice_get l (length yielded) ≡ Some body) (ap (λ (l : List B). yielded ++ l) (sym step) ∙ whole) (body_here yielded left body) in
      ran_at all body (length yielded) result here (subst (λ j. JobRan (λ own. does body) j history result) (count ∙ ran.one_each) this)

-- nothing was typed at the keyboard of the next job
pub unused_next : {B K : Type 0} (keys : K → Typing) (all yielded rest left : List (B × K)) (job : B × K) → yielded ++ rest ≡ all → rest ≡ job ∷ left → AreUnused keys all → keys job.1 ≡ Open
unused_next {B} {K} keys all yielded rest left job whole step are =
    go yielded (subst (λ (l : List (B × K)). AreUnused keys l) (sym (ap (λ (l : List (B × K)). yielded ++ l) (sym step) ∙ whole)) are)
  where
    go : (yielded : List (B × K)) → AreUnused keys (yielded ++ job ∷ left) → keys job.1 ≡ Open
    go [] are = are.0
    go (first ∷ yielded) are = go yielded are.1

-- what a job did over its port
pub port_did : {K W : Type 0} (which : K → W) (keys : K → Typing) (does : List Event → List ℕ → Type 0) (keyboard given used : K) (log events : List Event) (pairs : List Pair) (screen : List ℕ) → given ≡ keyboard → which used ≡ which given → log ≡ events → pairs_of log ≡ pairs → AreTyped (keys used) log → does events screen
    → Did which keys does keyboard used pairs screen
port_did which keys does keyboard given used log events pairs screen was its all pairs_are typed done = record {
  same = its ∙ ap which was;
  events = events;
  pairs_are = ap pairs_of (sym all) ∙ pairs_are;
  typed = subst (λ (es : List Event). AreTyped (keys used) es) all typed;
  done = done;
}

-- what a job did over the entries of a seat is its part of the history, or departs from it
module _ (does : List Pair → List ℕ → Type 0) (history : List Entry) (number : ℕ) (seat : Listed) (who : lister seat ≡ (history, number)) (screen : List ℕ) (did : does (heard seat) screen) where
  pub ran_whole : heard seat ≡ part seat → does (part_of number history) screen
  ran_whole whole = subst (λ (pairs : List Pair). does pairs screen) (whole ∙ ap (λ (l : List Entry × ℕ). part_of l.1 l.0) who) did

  pub ran_else : (why : Dispute) → EndsSeat seat (Some why) → JobRan (λ own. does) number history (Err (trouble.Refused why))
  ran_else (dispute.Reply entry) is = is
  ran_else (dispute.Meaning which place position) is = subst (λ (l : List Entry × ℕ). JobDeparts (λ own. does) l.0 l.1 which place position) who (record {
    job_is = is.job_is;
    departs = record {
      pairs = heard seat;
      screen = screen;
      done = did;
      common = is.part_at.common;
      within_pairs = is.part_at.within_pairs;
      within_part = is.part_at.within_part;
      differs = is.part_at.differs;
    };
    position_is = is.position_is;
  })

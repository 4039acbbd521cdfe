-- What runs have reached, and what is done after chains.
use Rattle.std.proofs.Common.{◌≡◌, ℕ, zero, suc, ◌-◌, ◌<◌, ◌≤◌, List, [], true, false, Option, Some, None, Result, Ok, Err, refl, sym, ap, subst, ◌∙◌, arith, append-nil}
use Rattle.std.specs.Prelude.{IfOk, OnErr}
use Rattle.std.specs.Option.{option_map}
use Rattle.std.specs.Result.{IsErrAnd}
use Rattle.basic_values.specs.declared.failures.NoMemory.{NoMemory}
use Rattle.basic_values.specs.declared.failures.Stop.{Stop}
use Rattle.basic_values.specs.declared.failures.Stop.TheVariants as stop
use Rattle.basic_values.specs.declared.failures.Trouble.{Trouble}
use Rattle.basic_values.specs.declared.failures.Trouble.TheVariants as trouble
use Rattle.grammar_machine.specs.MachineJudge.{judge_of}
use Rattle.monitor_calls.specs.declared.names.Account.{Account}
use Rattle.monitor_calls.specs.declared.events.Event.{Event}
use Rattle.monitor_calls.specs.Pairs.{Grew}
use Rattle.job_model.specs.Act.{Act, Gives, Breaks, Break, Faulted, Halted, Gone, Left, break_over}
use Rattle.job_model.specs.Play.{Clock}
use Rattle.job_model.specs.Follow.{here, Reaches, Follows, answered_by}
use Rattle.job_model.specs.Ends.{at_ends}
use Rattle.job_model.proofs.Ends.{reaches_ends}
use Rattle.basic_tree.specs.ProgramLines.{Lines}
use Rattle.program_model.specs.Program.{Program, Position}
use Rattle.program_model.specs.Job as program
use Rattle.program_model.specs.Job.{Job}
use Rattle.program_model.specs.Control.{Doing}
use Rattle.program_model.specs.Running.{Coming}
use Rattle.program_model.specs.Soundness.{refusal_of}
use Rattle.polish_code.specs.Walk.{Spot}
use Rattle.polish_code.specs.Lowered.{lowered, low_leaving}
use Rattle.basic_eval.specs.declared.exits.Exit.{Exit}
use Rattle.basic_eval.specs.declared.exits.Exit.TheVariants as exit
use Rattle.basic_eval.specs.Acting as acting
use Rattle.basic_eval.specs.Acting.{break_of}
use Rattle.basic_eval.specs.Keeping.{exit_at}
use Rattle.basic_interpreter.specs.Meaning.{Came, went, left_a_body, no_memory, Means}
use Rattle.basic_interpreter.specs.Units.{units_left, SpendsAtChain}
use Rattle.session_model.specs.Serving.{FollowsSession}
use Rattle.session_model.specs.Talk as talk
use Rattle.session_model.specs.Talk.{Step, Runner, Ending, with_job, outlived, run_is_over, reported, in_session, runs_chained, ends_run, line_ended, chains_to, unread, follows_chain, reads_program, program_by}
use Rattle.command_level.specs.declared.session.Session.{Session}
use Rattle.command_level.specs.declared.session.AfterLine.{AfterLine}
use Rattle.command_level.specs.declared.chains.Reached.{Reached}
use Rattle.command_level.specs.declared.chains.Reached.TheVariants as reached
use Rattle.command_level.specs.AfterLines.{goes}
use Rattle.command_level.specs.Seen.{seen}
use Rattle.command_level.specs.Standing.{low_session, StopFits, Serves, run_ends, line_ends}
use Rattle.command_level.specs.Chaining.{IsReached, IsOver, is_chain, run_of, RanIn, LeftRun, ServesRun, Spent}
use Rattle.command_level.proofs.Ends.{ok_map}
use Rattle.command_level.proofs.Lows.{lows, end_low, line_low, end_fits, line_fits}
use Rattle.command_level.proofs.Serving.{serves_same}
use Rattle.command_level.proofs.SessionLemmas.{session_on, above}

-- ENDS

-- an end, by how the next program runs, what an error of the CHAIN leads to, and the session after
-- every other end
abbrev ending : (ℕ → Runner) → (ℕ → ℕ → Job Position → Step Position) → (Break (program.Leaving Position) → Job Position → talk.Session Position) → talk.Session Position → ℕ → Ending
ending run faulted over s most = record { judge = judge_of; run = run most; most = most; faulted = faulted most; over = over; session = s }

-- if a job is gone, so is its session
ended_dies : (most count : ℕ) (p : Program) (s : talk.Session Position) (j : Job Position) → ends_run count (run_of most p s) Gone j ≡ Breaks Gone (with_job j s)
ended_dies most zero p s j = refl
ended_dies most (suc count) p s j = refl

-- after an end that is no chain the session continues
not_chained : (p : Program) (b : Break (program.Leaving Position)) (why : Exit) → break_over (low_leaving p) b ≡ break_of why → is_chain (reached.End why) ≡ false → b ≡ Left program.Chained → ⊥
not_chained p b why way nay is = by_way why (ap (break_over (low_leaving p)) (sym is) ∙ way) nay
  where
    by_way : (why : Exit) → Left program.Chained ≡ break_of why → is_chain (reached.End why) ≡ false → ⊥
    by_way exit.Chained e nay = cc
    by_way (exit.Fault fault) e nay = cc
    by_way (exit.Halt halt) e nay = cc
    by_way exit.Gone e nay = cc
    by_way exit.Ended e nay = cc
    by_way (exit.Stopped spot) e nay = cc
    by_way (exit.StoppedInside home) e nay = cc

pub not_the_chain : (why : Exit) → (why ≡ exit.Chained → ⊥) → is_chain (reached.End why) ≡ false
not_the_chain exit.Chained nay = absurd (nay refl)
not_the_chain (exit.Fault fault) nay = refl
not_the_chain (exit.Halt halt) nay = refl
not_the_chain exit.Gone nay = refl
not_the_chain exit.Ended nay = refl
not_the_chain (exit.Stopped spot) nay = refl
not_the_chain (exit.StoppedInside home) nay = refl

outlived_there : (most count : ℕ) (p : Program) (s : talk.Session Position) (b : Break (program.Leaving Position)) (j : Job Position) → (b ≡ Left program.Chained → ⊥) → ends_run count (run_of most p s) b j ≡ outlived (run_is_over s) s b j
outlived_there most zero p s b j nay = refl
outlived_there most (suc count) p s (Left program.Chained) j nay = absurd (nay refl)
outlived_there most (suc count) p s (Left program.Ended) j nay = refl
outlived_there most (suc count) p s (Left (program.Stopped q)) j nay = refl
outlived_there most (suc count) p s (Left (program.StoppedInside home)) j nay = refl
outlived_there most (suc count) p s (Faulted fault) j nay = refl
outlived_there most (suc count) p s (Halted halt) j nay = refl
outlived_there most (suc count) p s Gone j nay = refl

outlived_line : (most : ℕ) (s : talk.Session Position) (b : Break (program.Leaving Position)) (j : Job Position) → (b ≡ Left program.Chained → ⊥) → line_ended judge_of most s b j ≡ outlived (reported s) s b j
outlived_line most s (Left program.Chained) j nay = absurd (nay refl)
outlived_line most s (Left program.Ended) j nay = refl
outlived_line most s (Left (program.Stopped q)) j nay = refl
outlived_line most s (Left (program.StoppedInside home)) j nay = refl
outlived_line most s (Faulted fault) j nay = refl
outlived_line most s (Halted halt) j nay = refl
outlived_line most s Gone j nay = refl

-- at a chain of the code the program chains
chain_way : (p : Program) (b : Break (program.Leaving Position)) → break_over (low_leaving p) b ≡ Left program.Chained → b ≡ Left program.Chained
chain_way p (Left program.Chained) e = refl
chain_way p (Left program.Ended) e = absurd (cc)
chain_way p (Left (program.Stopped q)) e = absurd (cc)
chain_way p (Left (program.StoppedInside home)) e = absurd (cc)
chain_way p (Faulted fault) e = absurd (cc)
chain_way p (Halted halt) e = absurd (cc)
chain_way p Gone e = absurd (cc)

-- the code does at an end what the definitions do
pub told_low : (session : Session) (why : Exit) (p : Program) (s : talk.Session Position) (b : Break (program.Leaving Position)) (j : Job Position) → low_session p (with_job j s) ≡ seen session → break_over (low_leaving p) b ≡ break_of why
    → lows p (outlived (run_is_over s) s b j) ≡ outlived (run_is_over (seen session)) (seen session) (break_of why) (seen session).job
told_low session why p s b j low way =
    sym (end_low p s b j)
    ∙ ap (λ (w : Break (program.Leaving Spot)). outlived (run_is_over (low_session p (with_job j s))) (low_session p (with_job j s)) w (lowered p j)) way
    ∙ ap (λ (u : talk.Session Spot). outlived (run_is_over u) u (break_of why) u.job) low

pub told_line : (session : Session) (why : Exit) (line p : Program) (s : talk.Session Position) (b : Break (program.Leaving Position)) (j : Job Position) → low_session p (with_job j s) ≡ seen session → break_over (low_leaving line) b ≡ break_of why
    → lows p (outlived (reported s) s b j) ≡ outlived (reported (seen session)) (seen session) (break_of why) (seen session).job
told_line session why line p s b j low way =
    sym (line_low p line s b j)
    ∙ ap (λ (w : Break (program.Leaving Spot)). outlived (reported (low_session p (with_job j s))) (low_session p (with_job j s)) w (lowered p j)) way
    ∙ ap (λ (u : talk.Session Spot). outlived (reported u) u (break_of why) u.job) low

-- UNITS

-- what the loop has left: more than the units, while programs chain
abbrev pub turns_left : Reached → Clock → ℕ
turns_left (reached.End exit.Chained) c = suc (units_left c)
turns_left other c = 0

fewer_behind : (on : Reached) (c d : Clock) → Spent c d on → turns_left on d < suc (units_left c)
fewer_behind (reached.End exit.Chained) c d spent = omega (arith, spent)
fewer_behind (reached.End (exit.Fault fault)) c d spent = omega arith
fewer_behind (reached.End (exit.Halt halt)) c d spent = omega arith
fewer_behind (reached.End exit.Gone) c d spent = omega arith
fewer_behind (reached.End exit.Ended) c d spent = omega arith
fewer_behind (reached.End (exit.Stopped spot)) c d spent = omega arith
fewer_behind (reached.End (exit.StoppedInside home)) c d spent = omega arith
fewer_behind (reached.Over onward) c d spent = omega arith

is_chained : (at : Reached) → is_chain at ≡ true → at ≡ reached.End exit.Chained
is_chained (reached.End exit.Chained) e = refl
is_chained (reached.End (exit.Fault fault)) e = absurd (cc)
is_chained (reached.End (exit.Halt halt)) e = absurd (cc)
is_chained (reached.End exit.Gone) e = absurd (cc)
is_chained (reached.End exit.Ended) e = absurd (cc)
is_chained (reached.End (exit.Stopped spot)) e = absurd (cc)
is_chained (reached.End (exit.StoppedInside home)) e = absurd (cc)
is_chained (reached.Over onward) e = absurd (cc)

pub turns_fewer : (at on : Reached) (c d : Clock) → is_chain at ≡ true → Spent c d on → turns_left on d < turns_left at c
turns_fewer at on c d is spent = subst (λ (at : Reached). turns_left on d < turns_left at c) (sym (is_chained at is)) (fewer_behind on c d spent)

-- what a run says of units
pub ran_spent : (c d : Clock) (end : Result (Unit {0}) (Trouble Exit)) (result : Result Reached NoMemory) → IfOk result (IsReached end) → SpendsAtChain c d end → IfOk result (Spent c d)
ran_spent c d end (Err e) is spends = tt
ran_spent c d (Ok done) (Ok at) is spends = subst (Spent c d) (sym is) tt
ran_spent c d (Err (trouble.Refused why)) (Ok at) is spends = subst (Spent c d) (sym is) (reason why spends)
  where
    reason : (why : Exit) → SpendsAtChain c d (Err (trouble.Refused why)) → Spent c d (reached.End why)
    reason exit.Chained spends = spends
    reason (exit.Fault fault) spends = tt
    reason (exit.Halt halt) spends = tt
    reason exit.Gone spends = tt
    reason exit.Ended spends = tt
    reason (exit.Stopped spot) spends = tt
    reason (exit.StoppedInside home) spends = tt
ran_spent c d (Err trouble.NoMemory) (Ok at) is spends = absurd is

-- if no program ran, no unit was taken
pub over_spent : (c d : Clock) (done : Result AfterLine NoMemory) (result : Result Reached NoMemory) → IsOver done result → IfOk result (Spent c d)
over_spent c d (Ok onward) (Ok at) is = subst (Spent c d) (sym is) tt
over_spent c d (Err e) (Err f) is = tt
over_spent c d (Ok onward) (Err f) is = absurd is
over_spent c d (Err e) (Ok at) is = absurd is

-- A run has come there after this many chains.
pub record Comes {P W : Type 0} (who : P → W) (log : P → List Event) (old new : P) (c d : Clock) (step : ℕ → Step Position) (session : Session) (at : Reached) : Type 0 where
  pub turns : ℕ
  pub run : ServesRun who log old new c d (λ most. most - turns) step session (Ok at)

-- one chain
abbrev pub ChainServes : {P W : Type 0} → (P → W) → (P → List Event) → P → P → Clock → Clock → Session → Session → Result Reached NoMemory → Type 0
ChainServes who log old new c d before behind result = (count : ℕ → ℕ) (p : Program) (s : talk.Session Position) (j : Job Position) → RanIn before p s j
    → ServesRun who log old new c d count (λ most. ends_run (suc (count most)) (run_of most p s) (Left program.Chained) j) behind result

-- A line of immediate mode has come to this end.
pub record LineAt {P W : Type 0} (who : P → W) (log : P → List Event) (old new : P) (c d : Clock) (line p : Program) (s : talk.Session Position) (meaning : ℕ → Doing Coming) (session : Session) (why : Exit) : Type 0 where
  pub b : Break (program.Leaving Position)
  pub j : Job Position
  pub low : low_session p (with_job j s) ≡ seen session
  pub way : break_over (low_leaving line) b ≡ break_of why
  pub follows : FollowsSession who log old new c d (λ most. in_session (line_ended judge_of most s) s (meaning most)) (Some (λ most. line_ended judge_of most s b j))

abbrev step_or : Step Spot → Option (Step Spot) → Step Spot
step_or t (Some m) = m
step_or t None = t

same_step : (m t : Step Spot) → Some m ≡ Some t → m ≡ t
same_step m t e = ap (step_or t) e

-- WHAT A RUN HAS REACHED

module _ {P W : Type 0} {who : P → W} {log : P → List Event} where
  -- the same for an equal tree
  pub run_from : {p q : P} {c d : Clock} {count : ℕ → ℕ} {step step' : ℕ → Step Position} {session : Session} {result : Result Reached NoMemory} → ((most : ℕ) → step most ≡ step' most) → ServesRun who log p q c d count step' session result → ServesRun who log p q c d count step session result
  run_from {p} {q} {c} {d} {count} {step} {step'} {session} {result} same f = subst (λ (step : ℕ → Step Position). ServesRun who log p q c d count step session result) (λ i most. sym (same most) i) f

  -- nothing was asked, and nothing is claimed
  pub run_nothing : {p : P} {c : Clock} {count : ℕ → ℕ} {step : ℕ → Step Position} {session : Session} (e : NoMemory) → ServesRun who log p p c c count step session (Err e)
  run_nothing {p} {c} {count} {step} e = record { left = None; leaves = refl; follows = record { events = []; grew = (refl, sym (append-nil (log p))); bound = 0; reaches = λ most le. (c, step most, here) } }

  pub run_lost : {p : P} {c : Clock} {count : ℕ → ℕ} {step : ℕ → Step Position} {session : Session} (result : Result Reached NoMemory) (IsIt : NoMemory → Type 0) → IsErrAnd result IsIt → ServesRun who log p p c c count step session result
  run_lost (Ok at) IsIt is = absurd is
  run_lost (Err e) IsIt is = run_nothing e

  -- no program ran
  pub run_over : {p q : P} {c d : Clock} (count : ℕ → ℕ) {step : ℕ → Step Position} (session : Session) (done : Result AfterLine NoMemory) (result : Result Reached NoMemory) → IsOver done result → Serves who log p q c d step session done → ServesRun who log p q c d count step session result
  run_over {p} {q} {c} {d} count {step} session (Ok onward) (Ok at) is f = subst (λ (at : Reached). ServesRun who log p q c d count step session (Ok at)) (sym is) (record { left = f.left; leaves = f.leaves; follows = f.follows })
  run_over count session (Err e) (Err g) is f = record { left = f.left; leaves = f.leaves; follows = f.follows }
  run_over count session (Ok onward) (Err g) is f = absurd is
  run_over count session (Err e) (Ok at) is f = absurd is

  -- what was done in a session, and what is done at the end that it reached
  in_session_follows : {p q : P} {c d : Clock} (E : ℕ → Break (program.Leaving Position) → Job Position → Step Position) (s : talk.Session Position) (meaning : ℕ → Doing Coming) (left : Option (Doing Coming)) (events : List Event) (bound : ℕ)
      → ((most : ℕ) (j : Job Position) → E most Gone j ≡ Breaks Gone (with_job j s)) → Grew who log p q events → ((most : ℕ) → bound ≤ most → Reaches c (meaning most) events d left)
      → FollowsSession who log p q c d (λ most. in_session (E most) s (meaning most)) (option_map (λ (m : Doing Coming) most. in_session (E most) s m) left)
  in_session_follows {p} {q} {c} {d} E s meaning left events bound dies grew reaches = record {
    events = events;
    grew = grew;
    bound = bound;
    reaches = λ most le. by_left left most (reaches_ends (λ j. with_job j s) (λ value j. E most (Left program.Ended) j) (E most) (dies most) c d (meaning most) events left (reaches most le));
  }
    where
      by_left : (left : Option (Doing Coming)) (most : ℕ) → Reaches c (in_session (E most) s (meaning most)) events d (option_map (in_session (E most) s) left)
          → Reaches c (in_session (E most) s (meaning most)) events d (option_map (λ (t : ℕ → Step Position). t most) (option_map (λ (m : Doing Coming) most. in_session (E most) s m) left))
      by_left (Some m) most r = r
      by_left None most r = r

  -- a program ran
  pub run_reached : {p q : P} {c d : Clock} (count : ℕ → ℕ) (prog : Program) (s : talk.Session Position) (meaning : ℕ → Doing Coming) (session : Session) (end : Result (Unit {0}) (Trouble Exit)) (result : Result Reached NoMemory)
      → IfOk result (IsReached end) → OnErr result (end ≡ Err trouble.NoMemory)
      → seen session ≡ with_job (acting.seen session.running) (low_session prog s) → prog ≡ program_by judge_of s.lines → refusal_of prog ≡ None → StopFits prog s
      → Means who log p q c d (low_leaving prog) (lowered prog) meaning (acting.seen session.running) end
      → ServesRun who log p q c d count (λ most. runs_chained judge_of most (count most) prog s (meaning most)) session result
  run_reached {p} {q} {c} {d} count prog s meaning session end result ok memory rest same sound fits means =
      by_end end result means.left means.came ok memory (in_session_follows (λ most. ends_run (count most) (run_of most prog s)) s meaning means.left means.events means.bound (λ most j. ended_dies most (count most) prog s j) means.grew means.reaches)
    where
      ran : (j : Job Position) → lowered prog j ≡ acting.seen session.running → RanIn session prog s j
      ran j low = record { low = ap (λ (k : Job Spot). with_job k (low_session prog s)) low ∙ sym rest; here = same; sound = sound; fits = fits }

      to : (at : Reached) (why : Exit) (b : Break (program.Leaving Position)) (j : Job Position) → at ≡ reached.End why → RanIn session prog s j → break_over (low_leaving prog) b ≡ break_of why
          → FollowsSession who log p q c d (λ most. runs_chained judge_of most (count most) prog s (meaning most)) (Some (λ most. ends_run (count most) (run_of most prog s) b j))
          → ServesRun who log p q c d count (λ most. runs_chained judge_of most (count most) prog s (meaning most)) session (Ok at)
      to at why b j is ran way f =
          subst (λ (at : Reached). ServesRun who log p q c d count (λ most. runs_chained judge_of most (count most) prog s (meaning most)) session (Ok at)) (sym is)
          (record { left = Some (λ most. ends_run (count most) (run_of most prog s) b j); leaves = (prog, s, b, j, record { ran = ran; way = way }, refl); follows = f })

      by_end : (end : Result (Unit {0}) (Trouble Exit)) (result : Result Reached NoMemory) (left : Option (Doing Coming)) → Came (low_leaving prog) (lowered prog) end (acting.seen session.running) left
          → IfOk result (IsReached end) → OnErr result (end ≡ Err trouble.NoMemory) → FollowsSession who log p q c d (λ most. runs_chained judge_of most (count most) prog s (meaning most)) (option_map (λ (m : Doing Coming) most. runs_chained judge_of most (count most) prog s m) left) → ServesRun who log p q c d count (λ most. runs_chained judge_of most (count most) prog s (meaning most)) session result
      by_end end (Ok at) left (went {why = b} {j = j} {exit = reason} way low) ok memory f = to at reason b j ok (ran j low) way f
      by_end end (Ok at) left (left_a_body {coming = coming} {j = j} low) ok memory f = to at exit.Ended (Left program.Ended) j ok (ran j low) refl f
      by_end end (Ok at) left no_memory ok memory f = absurd ok
      by_end end (Err e) left (went {exit = reason} way low) ok memory f = absurd (no_reason reason memory)
        where
          no_reason : (reason : Exit) → ◌≡◌ {A = Result (Unit {0}) (Trouble Exit)} (Err (trouble.Refused reason)) (Err trouble.NoMemory) → ⊥
          no_reason reason h = cc
      by_end end (Err e) left (left_a_body low) ok memory f = absurd (no_body memory)
        where
          no_body : ◌≡◌ {A = Result (Unit {0}) (Trouble Exit)} (Ok tt) (Err trouble.NoMemory) → ⊥
          no_body h = cc
      by_end end (Err e) left no_memory ok memory f = record { left = None; leaves = refl; follows = f }

  -- THE READING

  -- what was read, or why it was not: a chain continues with that
  pub chain_follows : {p q : P} {c d : Clock} (run : ℕ → Runner) (faulted : ℕ → ℕ → Job Position → Step Position) (over : Break (program.Leaving Position) → Job Position → talk.Session Position) (s : talk.Session Position) (j : Job Position) (left : Option (Act ⊥ Unit (List ℕ × Lines)))
      → Follows who log p q c d (reads_program judge_of j.account j.destination.name) left
      → FollowsSession who log p q c d (λ most. follows_chain (ending run faulted over s most) j)
      (option_map (λ (t : Act ⊥ Unit (List ℕ × Lines)) most. at_ends (λ _. with_job j s) (λ read _. chains_to judge_of (run most) most read (with_job j s)) (λ why _. unread (ending run faulted over s most) why j) t) left)
  chain_follows {p} {q} {c} {d} run faulted over s j left f = record {
    events = f.events;
    grew = f.grew;
    bound = 0;
    reaches = λ most le. by_left left most (reaches_ends (λ (_ : Unit {0}). with_job j s) (λ read _. chains_to judge_of (run most) most read (with_job j s)) (λ why _. unread (ending run faulted over s most) why j) (λ _. refl) c d (reads_program judge_of j.account j.destination.name) f.events left f.reaches);
  }
    where
      by_left : (left : Option (Act ⊥ Unit (List ℕ × Lines))) (most : ℕ) → Reaches c (follows_chain (ending run faulted over s most) j) f.events d (option_map (λ (t : Act ⊥ Unit (List ℕ × Lines)). at_ends (λ (_ : Unit {0}). with_job j s) (λ read _. chains_to judge_of (run most) most read (with_job j s)) (λ why _. unread (ending run faulted over s most) why j) t) left)
          → Reaches c (follows_chain (ending run faulted over s most) j) f.events d (option_map (λ (t : ℕ → Step Position). t most) (option_map (λ (t : Act ⊥ Unit (List ℕ × Lines)) most. at_ends (λ (_ : Unit {0}). with_job j s) (λ read _. chains_to judge_of (run most) most read (with_job j s)) (λ why _. unread (ending run faulted over s most) why j) t) left))
      by_left (Some t) most r = r
      by_left None most r = r

  -- and what follows it
  pub run_behind : {p q r : P} {c d e : Clock} {count : ℕ → ℕ} {step mid : ℕ → Step Position} {session : Session} {result : Result Reached NoMemory} → FollowsSession who log p q c d step (Some mid) → ServesRun who log q r d e count mid session result → ServesRun who log p r c e count step session result
  run_behind f g = record { left = g.left; leaves = g.leaves; follows = session_on f g.follows }

  pub serves_behind : {p q r : P} {c d e : Clock} {step mid : ℕ → Step Position} {session : Session} {result : Result AfterLine NoMemory} → FollowsSession who log p q c d step (Some mid) → Serves who log q r d e mid session result → Serves who log p r c e step session result
  serves_behind f g = record { left = g.left; leaves = g.leaves; follows = session_on f g.follows }

  -- THE LOOP

  pub comes_first : {p : P} {c : Clock} (session : Session) (at : Reached) (left : ℕ → Step Position) → LeftRun (λ most. most) session (Ok at) (Some left) → Comes who log p p c c left session at
  comes_first {p} {c} session at left h = record {
    turns = 0;
    run = record {
      left = Some left;
      leaves = subst (λ (count : ℕ → ℕ). LeftRun count session (Ok at) (Some left)) (λ i most. none_less most i) h;
      follows = record { events = []; grew = (refl, sym (append-nil (log p))); bound = 0; reaches = λ most le. here };
    };
  }
    where
      none_less : (most : ℕ) → most ≡ most - 0
      none_less most = omega arith

  -- after one more
  comes_run : {p q r : P} {c d e : Clock} {step : ℕ → Step Position} (old new : Session) (at : Reached) (result : Result Reached NoMemory) → is_chain at ≡ true → (f : Comes who log p q c d step old at) → ChainServes who log q r d e old new result
      → ServesRun who log p r c e (λ most. most - suc f.turns) step new result
  comes_run {p} {q} {r} {c} {d} {e} {step} old new at result is f chain = go (subst (λ (at : Reached). ServesRun who log p q c d (λ most. most - f.turns) step old (Ok at)) (is_chained at is) f.run)
    where
      one_less : (most : ℕ) → suc f.turns ≤ most → most - f.turns ≡ suc (most - suc f.turns)
      one_less most le = omega (arith, le)

      go : ServesRun who log p q c d (λ most. most - f.turns) step old (Ok (reached.End exit.Chained)) → ServesRun who log p r c e (λ most. most - suc f.turns) step new result
      go run =
          let l = run.leaves in
          let g = chain (λ most. most - suc f.turns) l.0 l.1 l.3 l.4.ran in
          let first = subst (λ (left : Option (ℕ → Step Position)). FollowsSession who log p q c d step left) l.5 run.follows in
          record {
            left = g.left;
            leaves = g.leaves;
            follows = session_on first (above (suc f.turns) (λ most le. ap (λ (n : ℕ). ends_run n (run_of most l.0 l.1) l.2 l.3) (one_less most le) ∙ ap (λ (b : Break (program.Leaving Position)). ends_run (suc (most - suc f.turns)) (run_of most l.0 l.1) b l.3) (chain_way l.0 l.2 l.4.way)) g.follows);
          }

  pub comes_on : {p q r : P} {c d e : Clock} {step : ℕ → Step Position} (old new : Session) (at on : Reached) → is_chain at ≡ true → Comes who log p q c d step old at → ChainServes who log q r d e old new (Ok on) → Comes who log p r c e step new on
  comes_on old new at on is f chain = record { turns = suc f.turns; run = comes_run old new at (Ok on) is f chain }

  -- memory ran out after one
  pub comes_lost : {p q r : P} {c d e : Clock} {step : ℕ → Step Position} (old new session : Session) (at : Reached) (none : NoMemory) (result : Result AfterLine NoMemory) (IsIt : NoMemory → Type 0) → IsErrAnd result IsIt → is_chain at ≡ true → Comes who log p q c d step old at → ChainServes who log q r d e old new (Err none) → Serves who log p r c e step session result
  comes_lost old new session at none (Ok on) IsIt was is f chain = absurd was
  comes_lost old new session at none (Err other) IsIt was is f chain = let g = comes_run old new at (Err none) is f chain in record { left = g.left; leaves = g.leaves; follows = g.follows }

  -- the last one
  pub comes_end : {p q : P} {c d : Clock} {step : ℕ → Step Position} (old new : Session) (at : Reached) (why : Exit) (result : Result AfterLine NoMemory) → at ≡ reached.End why → is_chain at ≡ false → Comes who log p q c d step old at
      → IfOk result (λ on. outlived (run_is_over (seen old)) (seen old) (break_of why) (seen old).job ≡ goes on (seen new)) → Serves who log p q c d step new result
  comes_end {p} {q} {c} {d} {step} old new at why result is nay f told = go (subst (λ (at : Reached). ServesRun who log p q c d (λ most. most - f.turns) step old (Ok at)) is f.run)
    where
      go : ServesRun who log p q c d (λ most. most - f.turns) step old (Ok (reached.End why)) → Serves who log p q c d step new result
      go run =
          let l = run.leaves in
          let prog = l.0 in
          let s = l.1 in
          let b = l.2 in
          let j = l.3 in
          let ran = l.4.ran in
          let alone = not_chained prog b why l.4.way (ap is_chain (sym is) ∙ nay) in
          let first = subst (λ (left : Option (ℕ → Step Position)). FollowsSession who log p q c d step left) (l.5 ∙ ap Some (λ i most. outlived_there most (most - f.turns) prog s b j alone i)) run.follows in
          serves_behind first (serves_same prog new result (outlived (run_is_over s) s b j) (ok_map result (λ on same. told_low old why prog s b j ran.low l.4.way ∙ same) told) (end_fits prog s b j ran.here ran.sound ran.fits))

  pub comes_over : {p q : P} {c d : Clock} {step : ℕ → Step Position} (old : Session) (at : Reached) (onward : AfterLine) → at ≡ reached.Over onward → Comes who log p q c d step old at → Serves who log p q c d step old (Ok onward)
  comes_over {p} {q} {c} {d} {step} old at onward is f = go (subst (λ (at : Reached). ServesRun who log p q c d (λ most. most - f.turns) step old (Ok at)) is f.run)
    where
      go : ServesRun who log p q c d (λ most. most - f.turns) step old (Ok (reached.Over onward)) → Serves who log p q c d step old (Ok onward)
      go run = record { left = run.left; leaves = run.leaves; follows = run.follows }

  -- A RUN, AND ALL CHAINS AFTER IT

  pub run_on : {p q r : P} {c d e : Clock} {step : ℕ → Step Position} (old new : Session) (at : Reached) (result : Result AfterLine NoMemory) → ServesRun who log p q c d (λ most. most) step old (Ok at)
      → ((left : ℕ → Step Position) → LeftRun (λ most. most) old (Ok at) (Some left) → Serves who log q r d e left new result) → Serves who log p r c e step new result
  run_on {p} {q} {r} {c} {d} {e} {step} old new at result f chains = by_left f.left f.leaves f.follows
    where
      nothing_left : (at : Reached) → LeftRun (λ most. most) old (Ok at) None → ⊥
      nothing_left (reached.End why) h = none_some h.5
        where
          none_some : {t : ℕ → Step Position} → None ≡ Some t → ⊥
          none_some e = cc
      nothing_left (reached.Over onward) h = none_some h.2
        where
          none_some : {t : ℕ → Step Position} → None ≡ Some t → ⊥
          none_some e = cc

      by_left : (left : Option (ℕ → Step Position)) → LeftRun (λ most. most) old (Ok at) left → FollowsSession who log p q c d step left → Serves who log p r c e step new result
      by_left (Some left) leaves follows = serves_behind follows (chains left leaves)
      by_left None leaves follows = absurd (nothing_left at leaves)

  pub run_lost_on : {p q : P} {c d : Clock} {step : ℕ → Step Position} {count : ℕ → ℕ} (old session : Session) (none : NoMemory) (result : Result AfterLine NoMemory) (IsIt : NoMemory → Type 0) → IsErrAnd result IsIt → ServesRun who log p q c d count step old (Err none) → Serves who log p q c d step session result
  run_lost_on old session none (Ok on) IsIt was f = absurd was
  run_lost_on old session none (Err other) IsIt was f = record { left = f.left; leaves = f.leaves; follows = f.follows }

  -- LINES OF IMMEDIATE MODE

  line_follows : {p q : P} {c d : Clock} (s : talk.Session Position) (meaning : ℕ → Doing Coming) (left : Option (Doing Coming)) (events : List Event) (bound : ℕ) → Grew who log p q events → ((most : ℕ) → bound ≤ most → Reaches c (meaning most) events d left)
      → FollowsSession who log p q c d (λ most. in_session (line_ended judge_of most s) s (meaning most)) (option_map (λ (m : Doing Coming) most. in_session (line_ended judge_of most s) s m) left)
  line_follows s meaning left events bound grew reaches = in_session_follows (λ most. line_ended judge_of most s) s meaning left events bound (λ most j. refl) grew reaches

  pub line_at : {p q : P} {c d : Clock} (line prog : Program) (s : talk.Session Position) (meaning : ℕ → Doing Coming) (session : Session) (end : Result (Unit {0}) (Trouble Exit)) (why : Exit) → IsReached end (reached.End why)
      → seen session ≡ with_job (acting.seen session.running) (low_session prog s)
      → Means who log p q c d (low_leaving line) (lowered prog) meaning (acting.seen session.running) end
      → LineAt who log p q c d line prog s meaning session why
  line_at {p} {q} {c} {d} line prog s meaning session end why is rest means = by_end end means.left means.came is (line_follows s meaning means.left means.events means.bound means.grew means.reaches)
    where
      low_at : (j : Job Position) → lowered prog j ≡ acting.seen session.running → low_session prog (with_job j s) ≡ seen session
      low_at j low = ap (λ (k : Job Spot). with_job k (low_session prog s)) low ∙ sym rest

      exit_in : Exit → Reached → Exit
      exit_in w (reached.End why) = why
      exit_in w (reached.Over onward) = w

      by_end : (end : Result (Unit {0}) (Trouble Exit)) (left : Option (Doing Coming)) → Came (low_leaving line) (lowered prog) end (acting.seen session.running) left → IsReached end (reached.End why)
          → FollowsSession who log p q c d (λ most. in_session (line_ended judge_of most s) s (meaning most)) (option_map (λ (m : Doing Coming) most. in_session (line_ended judge_of most s) s m) left) → LineAt who log p q c d line prog s meaning session why
      by_end end left (went {why = b} {j = j} {exit = reason} way low) is f = record { b = b; j = j; low = low_at j low; way = way ∙ ap break_of (sym (ap (exit_in why) is)); follows = f }
      by_end end left (left_a_body {coming = coming} {j = j} low) is f = record { b = Left program.Ended; j = j; low = low_at j low; way = ap break_of (sym (ap (exit_in why) is)); follows = f }
      by_end end left no_memory is f = absurd is

  -- an end that is no chain is reported
  pub line_over : {p q : P} {c d : Clock} (line prog : Program) (s : talk.Session Position) (meaning : ℕ → Doing Coming) (old new : Session) (why : Exit) (result : Result AfterLine NoMemory) → is_chain (reached.End why) ≡ false → StopFits prog s
      → IfOk result (λ on. outlived (reported (seen old)) (seen old) (break_of why) (seen old).job ≡ goes on (seen new))
      → LineAt who log p q c d line prog s meaning old why → Serves who log p q c d (λ most. in_session (line_ended judge_of most s) s (meaning most)) new result
  line_over {p} {q} {c} {d} line prog s meaning old new why result nay fits told f =
      let alone = not_chained line f.b why f.way nay in
      let first = subst (λ (left : Option (ℕ → Step Position)). FollowsSession who log p q c d (λ most. in_session (line_ended judge_of most s) s (meaning most)) left) (ap Some (λ i most. outlived_line most s f.b f.j alone i)) f.follows in
      serves_behind first (serves_same prog new result (outlived (reported s) s f.b f.j) (ok_map result (λ on same. told_line old why line prog s f.b f.j f.low f.way ∙ same) told) (line_fits prog s f.b f.j fits))

  -- a chain continues
  pub line_chains : {p q r : P} {c d e : Clock} (line prog : Program) (s : talk.Session Position) (meaning : ℕ → Doing Coming) (old new : Session) (why : Exit) (result : Result AfterLine NoMemory) → why ≡ exit.Chained
      → ((j : Job Position) → low_session prog (with_job j s) ≡ seen old → Serves who log q r d e (λ most. line_ended judge_of most s (Left program.Chained) j) new result)
      → LineAt who log p q c d line prog s meaning old why → Serves who log p r c e (λ most. in_session (line_ended judge_of most s) s (meaning most)) new result
  line_chains {p} {q} {r} {c} {d} {e} line prog s meaning old new why result is chains f =
      let first = subst (λ (b : Break (program.Leaving Position)). FollowsSession who log p q c d (λ most. in_session (line_ended judge_of most s) s (meaning most)) (Some (λ most. line_ended judge_of most s b f.j))) (chain_way line f.b (f.way ∙ ap break_of is)) f.follows in
      serves_behind first (chains f.j f.low)

  -- memory ran out in it
  pub line_lost : {p q : P} {c d : Clock} (line prog : Program) (s : talk.Session Position) (meaning : ℕ → Doing Coming) (session : Session) (after : Job Spot) (end : Result (Unit {0}) (Trouble Exit)) (e : NoMemory) → end ≡ Err trouble.NoMemory
      → Means who log p q c d (low_leaving line) (lowered prog) meaning after end → Serves who log p q c d (λ most. in_session (line_ended judge_of most s) s (meaning most)) session (Err e)
  line_lost {p} {q} {c} {d} line prog s meaning session after end e is means = by_end end means.left means.came is (line_follows s meaning means.left means.events means.bound means.grew means.reaches)
    where
      by_end : (end : Result (Unit {0}) (Trouble Exit)) (left : Option (Doing Coming)) → Came (low_leaving line) (lowered prog) end after left → end ≡ Err trouble.NoMemory
          → FollowsSession who log p q c d (λ most. in_session (line_ended judge_of most s) s (meaning most)) (option_map (λ (m : Doing Coming) most. in_session (line_ended judge_of most s) s m) left) → Serves who log p q c d (λ most. in_session (line_ended judge_of most s) s (meaning most)) session (Err e)
      by_end end left (went {exit = reason} way low) is f = absurd (no_reason reason is)
        where
          no_reason : (reason : Exit) → ◌≡◌ {A = Result (Unit {0}) (Trouble Exit)} (Err (trouble.Refused reason)) (Err trouble.NoMemory) → ⊥
          no_reason reason h = cc
      by_end end left (left_a_body low) is f = absurd (no_body is)
        where
          no_body : ◌≡◌ {A = Result (Unit {0}) (Trouble Exit)} (Ok tt) (Err trouble.NoMemory) → ⊥
          no_body h = cc
      by_end end left no_memory is f = record { left = None; leaves = refl; follows = f }

  -- IF NO PROGRAM WAS READ

  -- memory ran out there
  unread_lost : {p q : P} {c : Clock} {step : ℕ → Step Position} (new : Session) (done : Result AfterLine NoMemory) → FollowsSession who log p q c c step None → IfOk done (λ on. None ≡ Some (goes on (seen new))) → Serves who log p q c c step new done
  unread_lost new (Ok on) f told = absurd (no_step told)
    where
      no_step : {t : Step Spot} → None ≡ Some t → ⊥
      no_step e = cc
  unread_lost new (Err e) f told = record { left = None; leaves = refl; follows = f }

  -- no program has an error of its own there
  pub chain_broke : {p q : P} {c : Clock} (run : ℕ → Runner) (faulted : ℕ → ℕ → Job Position → Step Position) (old new : Session) (prog : Program) (s : talk.Session Position) (j : Job Position) (e : Stop) (done : Result AfterLine NoMemory) → RanIn old prog s j → ((fault : ℕ) → e ≡ stop.Fault fault → ⊥)
      → Follows who log p q c c (reads_program judge_of j.account j.destination.name) (answered_by (Err e) tt) → IfOk done (λ on. run_ends (exit_at e) (seen old) ≡ Some (goes on (seen new)))
      → Serves who log p q c c (λ most. follows_chain (ending run faulted (run_is_over s) s most) j) new done
  chain_broke run faulted old new prog s j (stop.Fault fault) done ran nay f told = absurd (nay fault refl)
  chain_broke run faulted old new prog s j (stop.Halt halt) done ran nay f told =
      serves_behind (chain_follows run faulted (run_is_over s) s j (Some (Breaks (Halted halt) tt)) f)
      (serves_same prog new done (outlived (run_is_over s) s (Halted halt) j) (ok_map done (λ on e. told_low old (exit.Halt halt) prog s (Halted halt) j ran.low refl ∙ same_step _ _ e) told) (end_fits prog s (Halted halt) j ran.here ran.sound ran.fits))
  chain_broke run faulted old new prog s j stop.Expired done ran nay f told =
      serves_behind (chain_follows run faulted (run_is_over s) s j (Some (Breaks Gone tt)) f)
      (serves_same prog new done (outlived (run_is_over s) s Gone j) (ok_map done (λ on e. told_low old exit.Gone prog s Gone j ran.low refl ∙ same_step _ _ e) told) (end_fits prog s Gone j ran.here ran.sound ran.fits))
  chain_broke run faulted old new prog s j stop.NoMemory done ran nay f told = unread_lost new done (chain_follows run faulted (run_is_over s) s j None f) told

  -- a line reports it
  pub line_broke : {p q : P} {c : Clock} (old new : Session) (prog : Program) (s : talk.Session Position) (j : Job Position) (e : Stop) (done : Result AfterLine NoMemory) → low_session prog (with_job j s) ≡ seen old → StopFits prog s
      → Follows who log p q c c (reads_program judge_of j.account j.destination.name) (answered_by (Err e) tt) → IfOk done (λ on. line_ends (exit_at e) (seen old) ≡ Some (goes on (seen new)))
      → Serves who log p q c c (λ most. line_ended judge_of most s (Left program.Chained) j) new done
  line_broke {p} {q} {c} old new prog s j e done low fits f told = by_stop e f told
    where
      run : ℕ → Runner
      run most = runs_chained judge_of most most

      faulted : ℕ → ℕ → Job Position → Step Position
      faulted most number j = Gives tt (reported s (Faulted number) j)

      shown : (why : Exit) (b : Break (program.Leaving Position)) → break_over (low_leaving prog) b ≡ break_of why → IfOk done (λ on. Some (outlived (reported (seen old)) (seen old) (break_of why) (seen old).job) ≡ Some (goes on (seen new)))
          → Serves who log q q c c (λ most. outlived (reported s) s b j) new done
      shown why b way told = serves_same prog new done (outlived (reported s) s b j) (ok_map done (λ on e. told_line old why prog prog s b j low way ∙ same_step _ _ e) told) (line_fits prog s b j fits)

      by_stop : (e : Stop) → Follows who log p q c c (reads_program judge_of j.account j.destination.name) (answered_by (Err e) tt) → IfOk done (λ on. line_ends (exit_at e) (seen old) ≡ Some (goes on (seen new))) → Serves who log p q c c (λ most. line_ended judge_of most s (Left program.Chained) j) new done
      by_stop (stop.Fault fault) f told = serves_behind (chain_follows run faulted (reported s) s j (Some (Breaks (Faulted fault) tt)) f) (shown (exit.Fault fault) (Faulted fault) refl told)
      by_stop (stop.Halt halt) f told = serves_behind (chain_follows run faulted (reported s) s j (Some (Breaks (Halted halt) tt)) f) (shown (exit.Halt halt) (Halted halt) refl told)
      by_stop stop.Expired f told = serves_behind (chain_follows run faulted (reported s) s j (Some (Breaks Gone tt)) f) (shown exit.Gone Gone refl told)
      by_stop stop.NoMemory f told = unread_lost new done (chain_follows run faulted (reported s) s j None f) told

-- the program that the code names is the one that the session names
pub named_there : (self : Session) (p : Program) (s : talk.Session Position) (j : Job Position) (own : Account) (bytes : List ℕ) → low_session p (with_job j s) ≡ seen self → own ≡ self.running.storage.account → bytes ≡ self.running.destination.name → reads_program judge_of j.account j.destination.name ≡ reads_program judge_of own bytes
named_there self p s j own bytes low account name =
    ap (λ (u : talk.Session Spot). reads_program judge_of u.job.account u.job.destination.name) low
    ∙ ap (λ (account : Account). reads_program judge_of account self.running.destination.name) (sym account)
    ∙ ap (reads_program judge_of own) (sym name)

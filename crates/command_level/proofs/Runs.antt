-- What the calls that run programs do, in the session that the code's represents.
use Rattle.std.proofs.Common.{◌≡◌, ℕ, List, ◌++◌, Option, Some, None, Ok, Err, Result, refl, sym, ap, subst, ◌∙◌}
use Rattle.std.specs.Prelude.{Bool, true, false, IfOk, OnOk}
use Rattle.std.specs.Option.{option_map, OnSome}
use Rattle.std.specs.Result.{IsErrAnd}
use Rattle.basic_values.specs.declared.failures.NoMemory.{NoMemory}
use Rattle.basic_tree.specs.declared.programs.Line.{Line}
use Rattle.grammar_machine.specs.MachineJudge.{judge_of}
use Rattle.monitor_calls.specs.declared.events.Event.{Event}
use Rattle.job_model.specs.Act.{Gives}
use Rattle.job_model.specs.Play.{Clock}
use Rattle.job_model.specs.Follow.{Follows, unless_memory}
use Rattle.job_model.specs.Texts.{line_end}
use Rattle.job_model.proofs.Follows.{follows_from}
use Rattle.monitor_calls.specs.declared.names.Account.{Account}
use Rattle.session_model.specs.Commands.{Command, command_of}
use Rattle.basic_tree.specs.ProgramLines.{Lines}
use Rattle.line_editor.specs.Lines.{AreTrees}
use Rattle.program_model.specs.InMemory.{program_of}
use Rattle.program_model.specs.declared.refusals.LowerRefusal.{LowerRefusal}
use Rattle.program_model.specs.Program.{Program, Position}
use Rattle.program_model.specs.Reports.{Report}
use Rattle.program_model.specs.Job as program
use Rattle.program_model.specs.Job.{Job}
use Rattle.program_model.specs.Storage.{Storage, in_storage}
use Rattle.program_model.specs.FileActs.{shut_act}
use Rattle.program_model.specs.Running.{cleared}
use Rattle.program_model.specs.Soundness.{refusal_of}
use Rattle.polish_code.specs.Walk.{Spot}
use Rattle.polish_code.specs.Lowered.{low_leaving}
use Rattle.session_model.specs.Talk as talk
use Rattle.session_model.specs.Talk.{Step, Runner, says, with_job, with_storage, shut_down, headed, begun, no_line, runs_shut, runs_there, runs_unless, answered, reports, program_by, acts, visitor_acts, user_acts, line_acts, rests}
use Rattle.session_model.specs.Texts.{lowering_report}
use Rattle.basic_interpreter.specs.declared.stops.Stop.{Stop}
use Rattle.basic_interpreter.specs.Stopping.{leaving_of}
use Rattle.command_level.specs.declared.session.Session.{Session}
use Rattle.command_level.specs.declared.session.AfterLine.{AfterLine}
use Rattle.command_level.specs.AfterLines.{goes}
use Rattle.command_level.specs.declared.commands.Command as code
use Rattle.command_level.specs.declared.commands.Command.TheVariants as variant
use Rattle.std.specs.Borrow.{Bor}
use Rattle.command_level.specs.Seen.{seen, command_seen}
use Rattle.command_level.specs.declared.chains.Reached.{Reached}
use Rattle.command_level.specs.Chaining.{ServesRun}
use Rattle.command_level.specs.Standing.{low_session, StopFits, Stands, Serves}
use Rattle.command_level.proofs.FileLemmas.{tried_follows, shut_from, shut_stands}
use Rattle.command_level.proofs.Ends.{ok_map}
use Rattle.command_level.proofs.Lows.{low_cleared, headed_low, said, visitor_low, visitor_fits, rests_low, rests_fits}
use Rattle.command_level.proofs.Serving.{serves_from, serves_nothing, serves_same, serves_rest}
use Rattle.command_level.proofs.Spelled.{trees_program}

-- ANSWERS

pub ok_fact : {T E : Type 0} {Fact : Type 0} (r : Result T E) (value : T) → r ≡ Ok value → OnOk r Fact → Fact
ok_fact {T} {E} {Fact} r value is fact = subst (λ (r : Result T E). OnOk r Fact) is fact

pub serves_lost : {P W : Type 0} {who : P → W} {log : P → List Event} {p : P} {c : Clock} {step : ℕ → Step Position} {session : Session} (result : Result AfterLine NoMemory) (IsIt : NoMemory → Type 0) → IsErrAnd result IsIt → Serves who log p p c c step session result
serves_lost (Ok on) IsIt is = absurd is
serves_lost (Err e) IsIt is = serves_nothing e

-- RUN

-- after its name
pub stands_headed : (old mid : Session) (s : talk.Session Position) (with_name : Bool) (st : Stands old s) → seen mid ≡ headed with_name (seen old) → Stands mid (headed with_name s)
stands_headed old mid s with_name st written = record {
  program = st.program;
  low = sym (headed_low st.program with_name s) ∙ ap (headed with_name) st.low ∙ sym written;
  fits = headed_fits with_name;
}
  where
    headed_fits : (with_name : Bool) → StopFits st.program (headed with_name s)
    headed_fits true = st.fits
    headed_fits false = st.fits

-- the state in which a program begins
module _ (old : Session) (s : talk.Session Position) (st : Stands old s) where
  pub same_text : old.text ≡ s.lines
  same_text = sym (ap (λ (u : talk.Session Spot). u.lines) st.low)

  pub begun_low : (p : Program) (j : Job Spot) → j ≡ cleared p (seen old).job → low_session p (begun p s) ≡ record (seen old) { job = j; stop = None }
  begun_low p j is =
      ap (λ (k : Job Spot). record (low_session st.program s) { job = k; stop = None }) (low_cleared p p st.program s.job)
      ∙ ap (λ (u : talk.Session Spot). record u { job = cleared p u.job; stop = None }) st.low
      ∙ ap (λ (k : Job Spot). record (seen old) { job = k; stop = None }) (sym is)

-- if no STOP is kept, every program fits
pub no_stop_fits : (p : Program) (s : talk.Session Position) → s.stop ≡ None → StopFits p s
no_stop_fits p s none = subst (λ (o : Option (program.Leaving Position)). OnSome o ((p ≡ program_by judge_of s.lines) × (refusal_of p ≡ None))) (sym none) tt

-- the program in memory
pub program_here : (lines text : Lines) (trees : List (ℕ × Line)) → text ≡ lines → AreTrees text trees → program_of trees ≡ program_by judge_of lines
program_here lines text trees same h = trees_program text trees h ∙ ap (program_by judge_of) same

-- and after the state in which a program begins
pub here_behind : (mid : Session) (s : talk.Session Position) (prog : Program) (trees : List (ℕ × Line)) → low_session prog (begun prog s) ≡ seen mid → AreTrees mid.text trees → program_of trees ≡ program_by judge_of s.lines
here_behind mid s prog trees low h = program_here s.lines mid.text trees (sym (ap (λ (u : talk.Session Spot). u.lines) low)) h

module _ {P W : Type 0} {who : P → W} {log : P → List Event} where
  -- after the closing of all channels
  pub run_shut : {p q r : P} {c d : Clock} (count : ℕ → ℕ) (mid behind : Session) (s : talk.Session Position) (st : Stands mid s) (t : Storage) (next : ℕ → talk.Session Position → Step Position) (new : Session) (result : Result Reached NoMemory)
      → Follows who log p q c c (shut_act (in_storage.part (seen mid).job)) (Some (Gives tt t)) → seen behind ≡ with_storage (seen mid) t
      → (Stands behind (with_storage s t) → ServesRun who log q r c d count (λ most. next most (with_storage s t)) new result)
      → ServesRun who log p r c d count (λ most. shut_down (next most) s) new result
  run_shut count mid behind s st t next new result f is g =
      let run = g (shut_stands mid s st t behind is) in
      record { left = run.left; leaves = run.leaves; follows = tried_follows (with_storage s) (λ most _ s. next most s) tt t (shut_from mid s st f) run.follows }

  -- a program that is rejected
  pub serves_refused : {p : P} {c : Clock} (prog : Program) (run : ℕ → Runner) (line : Option ℕ) (s : talk.Session Position) (mid new : Session) (refusal : LowerRefusal) (result : Result AfterLine NoMemory)
      → low_session prog (begun prog s) ≡ seen mid → refusal_of prog ≡ Some refusal
      → IfOk result (λ on. reports (lowering_report refusal) (seen mid) ≡ goes on (seen new))
      → Serves who log p p c c (λ most. runs_shut (run most) prog most line s) new result
  serves_refused prog run line s mid new refusal result low is told =
      serves_from (λ most. ap (λ (o : Option LowerRefusal). runs_unless (run most) o prog most line (begun prog s)) is)
      (serves_same prog new result (reports (lowering_report refusal) (begun prog s)) (ok_map result (λ on same. ap (reports (lowering_report refusal)) low ∙ same) told) tt)

  -- one that cannot begin at a line
  pub serves_nowhere : {p : P} {c : Clock} (prog : Program) (run : ℕ → Runner) (line : Option ℕ) (can : Bool) (s : talk.Session Position) (mid new : Session) (refusal : LowerRefusal) (result : Result AfterLine NoMemory)
      → low_session prog s ≡ seen mid → s.stop ≡ None → can ≡ false → refusal ≡ no_line line
      → IfOk result (λ on. reports (lowering_report refusal) (seen mid) ≡ goes on (seen new))
      → Serves who log p p c c (λ most. runs_there (run most) prog most line can s) new result
  serves_nowhere prog run line can s mid new refusal result low none nay is told =
      serves_from (λ most. ap (λ (can : Bool). runs_there (run most) prog most line can s) nay)
      (serves_same prog new result (reports (lowering_report (no_line line)) s)
      (ok_map result (λ on same. ap (reports (lowering_report (no_line line))) low ∙ ap (λ (refusal : LowerRefusal). reports (lowering_report refusal) (seen mid)) (sym is) ∙ same) told)
      (no_stop_fits prog s none))

  -- a report without a run
  pub serves_report : {p : P} {c : Clock} (old new : Session) (s : talk.Session Position) (st : Stands old s) (report : Report) (result : Result AfterLine NoMemory)
      → IfOk result (λ on. reports report (seen old) ≡ goes on (seen new)) → Serves who log p p c c (λ most. reports report s) new result
  serves_report old new s st report result told =
      serves_same st.program new result (reports report s) (ok_map result (λ on same. ap (reports report) st.low ∙ same) told) st.fits

  -- an answer without a run
  pub serves_answer : {p : P} {c : Clock} (old new : Session) (s : talk.Session Position) (st : Stands old s) (text : List ℕ) (result : Result AfterLine NoMemory)
      → IfOk result (λ on. answered text (seen old) ≡ goes on (seen new)) → Serves who log p p c c (λ most. answered text s) new result
  serves_answer old new s st text result told =
      serves_same st.program new result (answered text s) (ok_map result (λ on same. ap (answered text) st.low ∙ same) told) st.fits

-- what is kept of a STOP: the way in which the program in memory was left, which is not rejected
pub record StopKept (s : talk.Session Position) (st_program : Program) (stop : Stop) : Type 0 where
  pub way : program.Leaving Position
  pub is : s.stop ≡ Some way
  pub low_way : low_leaving st_program way ≡ leaving_of stop
  pub here : st_program ≡ program_by judge_of s.lines
  pub sound : refusal_of st_program ≡ None

kept_by : (s : talk.Session Position) (p : Program) (stop : Stop) (o : Option (program.Leaving Position)) → s.stop ≡ o → option_map (low_leaving p) o ≡ Some (leaving_of stop) → OnSome o ((p ≡ program_by judge_of s.lines) × (refusal_of p ≡ None)) → StopKept s p stop
kept_by s p stop None e f h = absurd (no_some f)
  where
    no_some : None ≡ Some (leaving_of stop) → ⊥
    no_some f = cc
kept_by s p stop (Some way) e f h = record { way = way; is = e; low_way = ap (way_or (leaving_of stop)) f; here = h.0; sound = h.1 }
  where
    way_or : program.Leaving Spot → Option (program.Leaving Spot) → program.Leaving Spot
    way_or d (Some way) = way
    way_or d None = d

pub stop_kept : (old : Session) (s : talk.Session Position) (st : Stands old s) (stop : Stop) → old.stop ≡ Some stop → StopKept s st.program stop
stop_kept old s st stop is = kept_by s st.program stop s.stop refl (ap (λ (u : talk.Session Spot). u.stop) st.low ∙ ap (option_map leaving_of) is) st.fits

pub no_stop : (old : Session) (s : talk.Session Position) (st : Stands old s) → old.stop ≡ None → s.stop ≡ None
no_stop old s st is = none_by s.stop (ap (λ (u : talk.Session Spot). u.stop) st.low ∙ ap (option_map leaving_of) is)
  where
    none_by : (o : Option (program.Leaving Position)) → option_map (low_leaving st.program) o ≡ None → o ≡ None
    none_by None e = refl
    none_by (Some way) e = absurd (cc)

pub not_refused : (p q : Program) (refusal : LowerRefusal) → refusal_of p ≡ None → q ≡ p → refusal_of q ≡ Some refusal → ⊥
not_refused p q refusal sound same refused = none_some (sym sound ∙ ap refusal_of (sym same) ∙ refused)
  where
    none_some : None ≡ Some refusal → ⊥
    none_some e = cc

-- KEY LINES

-- after the echo of a line
pub echoed_stands : (old mid : Session) (s : talk.Session Position) (st : Stands old s) (line bytes screen : List ℕ) → bytes ≡ line → screen ≡ (seen old).job.screen ++ (bytes ++ line_end) → seen mid ≡ with_job (record (seen old).job { screen = screen }) (seen old) → Stands mid (says (line ++ line_end) s)
echoed_stands old mid s st line bytes screen same wrote is = record {
  program = st.program;
  low = ap (says (line ++ line_end)) st.low ∙ ap (λ (bytes : List ℕ). says (bytes ++ line_end) (seen old)) (sym same) ∙ said (seen old) (bytes ++ line_end) screen wrote ∙ sym is;
  fits = st.fits;
}

module _ {P W : Type 0} {who : P → W} {log : P → List Event} where
  -- before the login
  pub serves_visitor : {p q : P} {c : Clock} (mid new : Session) (s : talk.Session Position) (line bytes : List ℕ) (command : Command) (result : Result AfterLine NoMemory) → Stands mid (says (line ++ line_end) s) → s.account ≡ None → command ≡ command_of bytes → bytes ≡ line
      → Follows who log p q c c (visitor_acts command (seen mid)) (unless_memory result (λ on. goes on (seen new)))
      → Serves who log p q c c (λ most. line_acts judge_of most line s) new result
  serves_visitor {p} {q} {c} mid new s line bytes command result st none is same f =
      let t = says (line ++ line_end) s in
      serves_from (λ most. ap (λ (o : Option Account). acts judge_of most o (command_of line) t) none ∙ ap (λ (k : Command). visitor_acts k t) (sym (is ∙ ap command_of same)))
      (serves_rest st.program new result (visitor_acts command t) (follows_from (sym (visitor_low st.program command t) ∙ ap (visitor_acts command) st.low) f) (visitor_fits st.program command t st.fits))

  -- after it
  pub serves_user : {p q : P} {c d : Clock} (new : Session) (s : talk.Session Position) (line bytes : List ℕ) (command : Command) (account : Account) (result : Result AfterLine NoMemory) → s.account ≡ Some account → command ≡ command_of bytes → bytes ≡ line
      → Serves who log p q c d (λ most. user_acts judge_of most account command (says (line ++ line_end) s)) new result
      → Serves who log p q c d (λ most. line_acts judge_of most line s) new result
  serves_user new s line bytes command account result known is same f =
      let t = says (line ++ line_end) s in
      serves_from (λ most. ap (λ (o : Option Account). acts judge_of most o (command_of line) t) known ∙ ap (λ (k : Command). user_acts judge_of most account k t) (sym (is ∙ ap command_of same))) f

  -- what runs no program
  pub serves_other : {p q : P} {c : Clock} (old new : Session) (s : talk.Session Position) (st : Stands old s) (own : Account) (command : Command) (result : Result AfterLine NoMemory) → ((most : ℕ) → user_acts judge_of most own command s ≡ rests judge_of own command s)
      → Follows who log p q c c (rests judge_of own command (seen old)) (unless_memory result (λ on. goes on (seen new)))
      → Serves who log p q c c (λ most. user_acts judge_of most own command s) new result
  serves_other old new s st own command result is f =
      serves_from is
      (serves_rest st.program new result (rests judge_of own command s) (follows_from (sym (rests_low st.program own command s) ∙ ap (rests judge_of own command) st.low) f) (rests_fits st.program own command s st.fits))

-- a command that is none of those that run a program
pub other_rests : (own : Account) (command : code.Command) (most : ℕ) (s : talk.Session Position) → ((w : Bool) → command ≡ variant.Run w → ⊥) → ((b : Bor (List ℕ)) → command ≡ variant.RunFile b → ⊥) → (command ≡ variant.Continue → ⊥) → ((b : Bor (List ℕ)) → command ≡ variant.Immediate b → ⊥)
    → user_acts judge_of most own (command_seen command) s ≡ rests judge_of own (command_seen command) s
other_rests own (variant.Run w) most s h f i k = absurd (h w refl)
other_rests own (variant.RunFile b) most s h f i k = absurd (f b refl)
other_rests own variant.Continue most s h f i k = absurd (i refl)
other_rests own (variant.Immediate b) most s h f i k = absurd (k b refl)
other_rests own command most s h f i k = refl

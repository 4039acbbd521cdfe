-- The units that a run takes if it ends in a chain.
use Rattle.std.proofs.Common.{◌≡◌, ℕ, ◌≤◌, List, [], ◌∷◌, Some, Result, Ok, Err, sym, subst, arith}
use Rattle.basic_values.specs.declared.failures.Stop.{Stop}
use Rattle.basic_values.specs.declared.failures.Stop.TheVariants as stop
use Rattle.basic_values.specs.declared.failures.Trouble.{Trouble}
use Rattle.basic_values.specs.declared.failures.Trouble.TheVariants as trouble
use Rattle.monitor_calls.specs.declared.events.Event.{Event}
use Rattle.job_model.specs.Act.{Breaks, Faulted}
use Rattle.job_model.specs.Play.{Clock}
use Rattle.program_model.specs.declared.values.Frame.{Frame}
use Rattle.program_model.specs.Program.{Program}
use Rattle.program_model.specs.Job.{Job}
use Rattle.program_model.specs.Traps.{handled, caught}
use Rattle.program_model.specs.Running.{dimension_program}
use Rattle.program_model.proofs.ChainLemmas.{SpendsFirst, dimension_spends}
use Rattle.error_trap.specs.declared.trap.Trap.{Trap}
use Rattle.error_trap.specs.declared.trap.Raised.{Raised}
use Rattle.error_trap.specs.declared.trap.Raised.TheVariants.{Handle, Report}
use Rattle.error_trap.specs.Trapping.{raised}
use Rattle.polish_code.specs.Code.{statement_place}
use Rattle.polish_code.specs.Walk.{Spot, Walked, turns_from}
use Rattle.polish_code.specs.Walk as walk
use Rattle.polish_code.specs.Lowered.{coded}
use Rattle.polish_code.proofs.Compile.{from_spends}
use Rattle.basic_eval.specs.declared.exits.Exit.{Exit}
use Rattle.basic_eval.specs.declared.exits.Exit.TheVariants as exit
use Rattle.basic_eval.specs.Acting.{Acts, break_of}
use Rattle.basic_eval.specs.Keeping.{exit_at}
use Rattle.basic_interpreter.specs.Meaning.{RunsCode}
use Rattle.basic_interpreter.specs.Units.{SpendsAtChain}
use Rattle.basic_interpreter.proofs.PathLemmas.{chain_less}

-- a reason that is no chain
pub reason_spends : (A : Type 0) (c d : Clock) (why : Exit) (k : Job Spot) → SpendsFirst {A = A} (Breaks (break_of why) k) → SpendsAtChain c d (Err (trouble.Refused why))
reason_spends A c d exit.Chained k h = absurd h
reason_spends A c d exit.Ended k h = tt
reason_spends A c d (exit.Stopped spot) k h = tt
reason_spends A c d (exit.StoppedInside home) k h = tt
reason_spends A c d (exit.Fault fault) k h = tt
reason_spends A c d (exit.Halt halt) k h = tt
reason_spends A c d exit.Gone k h = tt

-- DIMs that broke
pub dims_spend : (program : Program) (j k : Job Spot) (c d : Clock) (e : Trouble Exit) → Acts (dimension_program program j) k (Err e) → SpendsAtChain c d (Err e)
dims_spend program j k c d (trouble.Refused why) acts = reason_spends (Unit {0}) c d why k (subst SpendsFirst acts (dimension_spends program j))
dims_spend program j k c d trouble.NoMemory acts = tt

-- an error that leads out of the program
pub error_spends : (fault : ℕ) (j k : Job Spot) (c d : Clock) (why : Exit) → caught (λ line. line) (Faulted fault) j.frames j ≡ Breaks (break_of why) k → SpendsAtChain c d (Err (trouble.Refused why))
error_spends fault j k c d why is = reason_spends ℕ c d why k (subst SpendsFirst is (by_frames j.frames))
  where
    by_handler : (t : Trap) (r : Raised) → SpendsFirst (handled (λ line. line) fault (t, r) j)
    by_handler t (Handle line) = tt
    by_handler t Report = tt

    by_frames : (frames : List Frame) → SpendsFirst (caught (λ line. line) (Faulted fault) frames j)
    by_frames [] = let p = raised fault j.line j.home.start j.trap in by_handler p.0 p.1
    by_frames (frame ∷ frames) = tt

-- closing channels that broke
pub stop_spends : (c d : Clock) (e : Stop) → SpendsAtChain c d (Err (exit_at e))
stop_spends c d (stop.Fault fault) = tt
stop_spends c d (stop.Halt halt) = tt
stop_spends c d stop.Expired = tt
stop_spends c d stop.NoMemory = tt

module _ {P W : Type 0} {who : P → W} {log : P → List Event} {old new : P} {c d : Clock} where
  -- a run from the start of a statement
  pub run_spends : (code : walk.Code) (place : ℕ) (before after : Job Spot) (result : Result (Unit {0}) (Trouble Exit)) (program : Program) (m : ℕ) → code ≡ coded program → place ≡ statement_place program m → RunsCode who log old new c d code place before after result → SpendsAtChain c d result
  run_spends code place before after (Ok done) program m stands starts f = tt
  run_spends code place before after (Err trouble.NoMemory) program m stands starts f = tt
  run_spends code place before after (Err (trouble.Refused exit.Chained)) program m stands starts f =
      let enough : f.bound ≤ f.bound = omega arith in
      chain_less c d (turns_from code f.bound (Some place) before) after f.events
      (subst (λ (code : walk.Code). SpendsFirst (turns_from code f.bound (Some place) before)) (sym stands) (subst (λ (place : ℕ). SpendsFirst (turns_from (coded program) f.bound (Some place) before)) (sym starts) (from_spends program f.bound m before)))
      (f.reaches f.bound enough)
  run_spends code place before after (Err (trouble.Refused exit.Ended)) program m stands starts f = tt
  run_spends code place before after (Err (trouble.Refused (exit.Stopped spot))) program m stands starts f = tt
  run_spends code place before after (Err (trouble.Refused (exit.StoppedInside home))) program m stands starts f = tt
  run_spends code place before after (Err (trouble.Refused (exit.Fault fault))) program m stands starts f = tt
  run_spends code place before after (Err (trouble.Refused (exit.Halt halt))) program m stands starts f = tt
  run_spends code place before after (Err (trouble.Refused exit.Gone)) program m stands starts f = tt

-- The semantics of a run, if something was done before it, or if something is put back after it.
use Rattle.std.proofs.Common.{◌≡◌, ℕ, List, [], refl, sym, ap, subst, ◌∙◌, append-nil}
use Rattle.std.specs.Prelude.{Option, Some, None, Result, Err}
use Rattle.std.specs.Option.{option_map}
use Rattle.basic_values.specs.declared.failures.Trouble.{Trouble}
use Rattle.basic_values.specs.declared.failures.Trouble.TheVariants as trouble
use Rattle.monitor_calls.specs.declared.events.Event.{Event}
use Rattle.job_model.specs.Act.{Break, Faulted, Halted, Gone, Left, Gives, Breaks, ◌then◌, over, break_over}
use Rattle.job_model.specs.Play.{Clock}
use Rattle.job_model.specs.Follow.{here, Reaches}
use Rattle.job_model.proofs.Paths.{path_over}
use Rattle.program_model.specs.Program.{Program, Position}
use Rattle.program_model.specs.declared.homes.Home.{Home}
use Rattle.program_model.specs.Job.{Job, Leaving, Ended, Stopped, StoppedInside, Chained}
use Rattle.program_model.specs.Control.{Doing, Behind, At, home_of, runs_at}
use Rattle.program_model.specs.Program.{whole}
use Rattle.program_model.specs.Running.{Coming, runs_from, continues_open, together}
use Rattle.polish_code.specs.Walk.{Spot}
use Rattle.polish_code.specs.Code.{low_home}
use Rattle.polish_code.specs.Lowered.{lowered, low_leaving, spot_of}
use Rattle.basic_eval.specs.declared.exits.Exit.{Exit}
use Rattle.basic_eval.specs.Acting.{break_of}
use Rattle.basic_interpreter.specs.Meaning.{Came, went, left_a_body, no_memory, Means}
use Rattle.basic_interpreter.specs.Setting.{kept_of, with_kept}

-- a line's end, as an end of the program with what is put back
same_break : {L : Type 0} (why : Break L) → break_over (λ way. way) why ≡ why
same_break (Faulted fault) = refl
same_break (Halted halt) = refl
same_break Gone = refl
same_break (Left way) = refl

came_together : (low_way : Leaving Position → Leaving Spot) (line program : Program) (j : Job Position) (result : Result (Unit {0}) (Trouble Exit)) (after : Job Spot) (left : Option (Doing Coming))
    → Came low_way (lowered line) result after left
    → Came low_way (lowered program) result (with_kept (kept_of (lowered program j)) after) (option_map (over (λ way. way) (together j)) left)
came_together low_way line program j result after left (went {why = why} is ends) =
    went (ap (break_over low_way) (same_break why) ∙ is) (ap (with_kept (kept_of (lowered program j))) ends)
came_together low_way line program j result after left (left_a_body ends) = left_a_body (ap (with_kept (kept_of (lowered program j))) ends)
came_together low_way line program j result after left no_memory = no_memory

reaches_together : (j : Job Position) (c d : Clock) (m : Doing Coming) (events : List Event) (left : Option (Doing Coming))
    → Reaches c m events d left → Reaches c (over (λ (way : Leaving Position). way) (together j) m) events d (option_map (over (λ way. way) (together j)) left)
reaches_together j c d m events (Some t) p = path_over (λ way. way) (together j) c d m t events p
reaches_together j c d m events None p = (p.0, over (λ way. way) (together j) p.1, path_over (λ way. way) (together j) c p.0 m p.1 events p.2)

module _ {P W : Type 0} {who : P → W} {log : P → List Event} {old new : P} {c d : Clock} where
  -- what was put aside is put back
  pub means_together : (low_way : Leaving Position → Leaving Spot) (line program : Program) (j : Job Position) (meaning : ℕ → Doing Coming) (after put : Job Spot) (result : Result (Unit {0}) (Trouble Exit))
      → put ≡ with_kept (kept_of (lowered program j)) after
      → Means who log old new c d low_way (lowered line) meaning after result
      → Means who log old new c d low_way (lowered program) (λ most. over (λ way. way) (together j) (meaning most)) put result
  means_together low_way line program j meaning after put result is m = record {
    events = m.events;
    grew = m.grew;
    bound = m.bound;
    left = option_map (over (λ way. way) (together j)) m.left;
    came = subst (λ (s : Job Spot). Came low_way (lowered program) result s (option_map (over (λ way. way) (together j)) m.left)) (sym is) (came_together low_way line program j result after m.left m.came);
    reaches = λ most enough. reaches_together j c d (meaning most) m.events m.left (m.reaches most enough);
  }

  -- what was done before it asked nothing
  pub means_behind : {A : Type 0} (low_way : Leaving Position → Leaving Spot) (low : Job Position → Job Spot) (front : Doing A) (next : ℕ → A → Job Position → Doing Coming) (value : A) (j : Job Position) (after : Job Spot) (result : Result (Unit {0}) (Trouble Exit))
      → front ≡ Gives value j
      → Means who log old new c d low_way low (λ most. next most value j) after result
      → Means who log old new c d low_way low (λ most. front then next most) after result
  means_behind {A} low_way low front next value j after result is m = record {
    events = m.events;
    grew = m.grew;
    bound = m.bound;
    left = m.left;
    came = m.came;
    reaches = λ most enough. subst (λ (f : Doing A). Reaches c (f then next most) m.events d m.left) (sym is) (m.reaches most enough);
  }

  -- CONT: the kept place is one of the program
  pub goes_on_at : (program : Program) (j : Job Position) (spot : Spot) (after : Job Spot) (result : Result (Unit {0}) (Trouble Exit)) (way : Leaving Position)
      → low_leaving program way ≡ Stopped spot
      → ((q : Position) → spot_of program q ≡ spot → Means who log old new c d (low_leaving program) (lowered program) (λ most. runs_from program most (Behind q) (runs_at (home_of program q.statement) j)) after result)
      → Means who log old new c d (low_leaving program) (lowered program) (λ most. continues_open program most way j) after result
  goes_on_at program j spot after result Ended is run = absurd (cc)
  goes_on_at program j spot after result Chained is run = absurd (cc)
  goes_on_at program j spot after result (Stopped q) is run = run q (cc)
  goes_on_at program j spot after result (StoppedInside home) is run = absurd (cc)

  pub goes_on_inside : (program : Program) (j : Job Position) (home : Home) (after : Job Spot) (result : Result (Unit {0}) (Trouble Exit)) (way : Leaving Position)
      → low_leaving program way ≡ StoppedInside home
      → ((h : Home) → low_home program h ≡ home → Means who log old new c d (low_leaving program) (lowered program) (λ most. runs_from program most (At (whole h.behind)) j) after result)
      → Means who log old new c d (low_leaving program) (lowered program) (λ most. continues_open program most way j) after result
  goes_on_inside program j home after result Ended is run = absurd (cc)
  goes_on_inside program j home after result Chained is run = absurd (cc)
  goes_on_inside program j home after result (Stopped q) is run = absurd (cc)
  goes_on_inside program j home after result (StoppedInside h) is run = run h (cc)

-- IF NOTHING RAN

module _ {P W : Type 0} {who : P → W} {log : P → List Event} {p : P} {c : Clock} where
  -- what was done before it broke
  pub means_broken : {A : Type 0} (low_way : Leaving Position → Leaving Spot) (low : Job Position → Job Spot) (front : Doing A) (next : ℕ → A → Job Position → Doing Coming) (why : Break (Leaving Position)) (j : Job Position) (exit : Exit) (after : Job Spot)
      → front ≡ Breaks why j → break_over low_way why ≡ break_of exit → low j ≡ after
      → Means who log p p c c low_way low (λ most. front then next most) after (Err (trouble.Refused exit))
  means_broken {A} low_way low front next why j exit after is same ends = record {
    events = [];
    grew = (refl, sym (append-nil (log p)));
    bound = 0;
    left = Some (Breaks why j);
    came = went same ends;
    reaches = λ most enough. subst (λ (f : Doing A). Reaches c (f then next most) [] c (Some (Breaks why j))) (sym is) here;
  }

  pub means_nothing : (low_way : Leaving Position → Leaving Spot) (low : Job Position → Job Spot) (meaning : ℕ → Doing Coming) (after : Job Spot)
      → Means who log p p c c low_way low meaning after (Err trouble.NoMemory)
  means_nothing low_way low meaning after = record {
    events = [];
    grew = (refl, sym (append-nil (log p)));
    bound = 0;
    left = None;
    came = no_memory;
    reaches = λ most enough. (c, meaning most, here);
  }

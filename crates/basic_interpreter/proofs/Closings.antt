-- A program that reaches its end leaves no channel open.
use Rattle.std.proofs.Common.{◌≡◌, ℕ, ◌≤◌, true, false, List, ◌++◌, refl, sym, ap, subst, ◌∙◌, append_assoc}
use Rattle.std.specs.Prelude.{Option, Some, None, Result, Ok, Err}
use Rattle.std.specs.Option.{option_map}
use Rattle.basic_values.specs.declared.failures.Stop.{Stop}
use Rattle.basic_values.specs.declared.failures.Stop.TheVariants as stop
use Rattle.basic_values.specs.declared.failures.Trouble.{Trouble}
use Rattle.basic_values.specs.declared.failures.Trouble.TheVariants as trouble
use Rattle.monitor_calls.specs.declared.events.Event.{Event}
use Rattle.job_model.specs.Act.{Breaks, Break, Faulted, Halted, Gone, Left, ◌then◌, break_over}
use Rattle.job_model.specs.Play.{Clock}
use Rattle.job_model.specs.Follow.{Path, here, asked, typed, quiet, tick, gone, Reaches, Follows, answered_by}
use Rattle.job_model.proofs.Follows.{follows_from, follows_then, follows_in}
use Rattle.job_model.proofs.Paths.{path_on}
use Rattle.program_model.specs.Program.{Program, Position}
use Rattle.program_model.specs.Job.{Job, Leaving, Ended, Stopped, StoppedInside, Chained, Deed}
use Rattle.program_model.specs.Control.{Doing}
use Rattle.program_model.specs.Storage.{Storage, in_storage, stores_by}
use Rattle.program_model.specs.FileActs.{shut_act}
use Rattle.program_model.specs.Running.{Coming, ends_closed}
use Rattle.polish_code.specs.Walk.{Spot}
use Rattle.polish_code.specs.Lowered.{lowered, low_leaving}
use Rattle.basic_eval.specs.declared.exits.Exit.{Exit}
use Rattle.basic_eval.specs.declared.exits.Exit.TheVariants as exit
use Rattle.basic_eval.specs.Acting.{break_of}
use Rattle.basic_eval.specs.Keeping.{exit_at}
use Rattle.basic_interpreter.specs.Meaning.{Came, went, left_a_body, no_memory, Means}
use Rattle.basic_interpreter.specs.Stopping.{is_ended}

-- EXECUTIONS

module _ {R A : Type 0} where
  path_closed : (c d : Clock) (m m' : Deed R A) (ps : List Event) → Path c m ps d m' → Path c (ends_closed m) ps d (ends_closed m')
  path_closed c d m m' ps here = here
  path_closed c d m m' ps (asked {reply = x} {by = by} {events = rs} p) = asked (path_closed c d (by x) m' rs p)
  path_closed c d m m' ps (typed {key = key} {by = by} {events = rs} p) = typed (path_closed c d (by key) m' rs p)
  path_closed c d m m' ps (quiet {rest = t} h p) = quiet h (path_closed _ d t m' ps p)
  path_closed c d m m' ps (tick {rest = t} {events = rs} h g p) = tick h g (path_closed _ d t m' rs p)
  path_closed c d m m' ps (gone {e = i} {s = s} {events = rs} h g p) = gone h g (path_closed i d (Breaks Gone s) m' rs p)

  reaches_closed : (c d : Clock) (m : Deed R A) (ps : List Event) (left : Option (Deed R A)) → Reaches c m ps d left → Reaches c (ends_closed m) ps d (option_map ends_closed left)
  reaches_closed c d m ps (Some t) p = path_closed c d m t ps p
  reaches_closed c d m ps None p = (p.0, ends_closed p.1, path_closed c p.0 m p.1 ps p.2)

  reaches_on : (c d e : Clock) (m m' : Deed R A) (ps qs : List Event) (left : Option (Deed R A)) → Path c m ps d m' → Reaches d m' qs e left → Reaches c m (ps ++ qs) e left
  reaches_on c d e m m' ps qs (Some t) p q = path_on c d e m m' t ps qs p q
  reaches_on c d e m m' ps qs None p q = (q.0, q.1, path_on c d q.0 m m' q.1 ps qs p q.2)

-- ENDS

-- what is done at an end: all channels are closed, and then the program ends
abbrev closing : Unit {0} → Job Position → Doing Coming
closing done j = Breaks (Left Ended) j

-- the answer after it
abbrev pub closed_as : Result (Unit {0}) Stop → Result (Unit {0}) (Trouble Exit)
closed_as (Ok done) = Err (trouble.Refused exit.Ended)
closed_as (Err e) = Err (exit_at e)

-- an end of the code is one of the program's
abbrev breaks_ended : Break (Leaving Spot) → Type 0
breaks_ended (Left Ended) = Unit {0}
breaks_ended why = ⊥

of_ended : (e : Exit) → breaks_ended (break_of e) → e ≡ exit.Ended
of_ended exit.Ended h = refl
of_ended (exit.Fault fault) h = absurd h
of_ended (exit.Halt halt) h = absurd h
of_ended exit.Gone h = absurd h
of_ended (exit.Stopped spot) h = absurd h
of_ended (exit.StoppedInside home) h = absurd h
of_ended exit.Chained h = absurd h

no_both : true ≡ false → ⊥
no_both e = cc

pub ended_so : (result : Result (Unit {0}) (Trouble Exit)) → is_ended result ≡ true → result ≡ Err (trouble.Refused exit.Ended)
ended_so (Ok done) e = cc
ended_so (Err trouble.NoMemory) e = cc
ended_so (Err (trouble.Refused exit.Ended)) e = refl
ended_so (Err (trouble.Refused (exit.Fault fault))) e = cc
ended_so (Err (trouble.Refused (exit.Halt halt))) e = cc
ended_so (Err (trouble.Refused exit.Gone)) e = cc
ended_so (Err (trouble.Refused (exit.Stopped spot))) e = cc
ended_so (Err (trouble.Refused (exit.StoppedInside home))) e = cc
ended_so (Err (trouble.Refused exit.Chained)) e = cc

module _ (program : Program) where
  -- if the code reached its end, so did the program
  ended_by : (why : Break (Leaving Position)) → breaks_ended (break_over (low_leaving program) why) → why ≡ Left Ended
  ended_by (Faulted fault) h = absurd h
  ended_by (Halted halt) h = absurd h
  ended_by Gone h = absurd h
  ended_by (Left Ended) h = refl
  ended_by (Left (Stopped q)) h = absurd h
  ended_by (Left (StoppedInside home)) h = absurd h
  ended_by (Left Chained) h = absurd h

  stays : (why : Break (Leaving Position)) (j : Job Position) → (why ≡ Left Ended → ⊥) → ends_closed {A = Coming} (Breaks why j) ≡ Breaks why j
  stays (Faulted fault) j h = refl
  stays (Halted halt) j h = refl
  stays Gone j h = refl
  stays (Left Ended) j h = absurd (h refl)
  stays (Left (Stopped q)) j h = refl
  stays (Left (StoppedInside home)) j h = refl
  stays (Left Chained) j h = refl

  module _ {P W : Type 0} {who : P → W} {log : P → List Event} {old mid : P} {c d : Clock} (meaning : ℕ → Doing Coming) where
    -- any other end stays
    pub closed_other : (after : Job Spot) (result : Result (Unit {0}) (Trouble Exit)) → is_ended result ≡ false
        → Means who log old mid c d (low_leaving program) (lowered program) meaning after result
        → Means who log old mid c d (low_leaving program) (lowered program) (λ most. ends_closed (meaning most)) after result
    closed_other after result other m = record {
      events = m.events;
      grew = m.grew;
      bound = m.bound;
      left = option_map ends_closed m.left;
      came = came_so result m.left m.came other;
      reaches = λ most enough. reaches_closed c d (meaning most) m.events m.left (m.reaches most enough);
    }
      where
        came_so : (result : Result (Unit {0}) (Trouble Exit)) (left : Option (Doing Coming)) → Came (low_leaving program) (lowered program) result after left → is_ended result ≡ false
            → Came (low_leaving program) (lowered program) result after (option_map ends_closed left)
        came_so result left (went {why = why} {j = j} {exit = e} same low) other =
            subst (λ (m : Doing Coming). Came (low_leaving program) (lowered program) (Err (trouble.Refused e)) after (Some m))
            (sym (stays why j (λ is. no_both (sym (ap (λ (e : Exit). is_ended (Err (trouble.Refused e))) (of_ended e (subst breaks_ended (sym (ap (break_over (low_leaving program)) is) ∙ same) tt))) ∙ other))))
            (went same low)
        came_so result left (left_a_body low) other = left_a_body low
        came_so result left no_memory other = no_memory

    -- all channels are closed at an end
    pub closed_end : {new : P} (after : Job Spot) (t : Storage) (answer : Result (Unit {0}) Stop)
        → Means who log old mid c d (low_leaving program) (lowered program) meaning after (Err (trouble.Refused exit.Ended))
        → Follows who log mid new d d (shut_act (in_storage.part after)) (answered_by answer t)
        → Means who log old new c d (low_leaving program) (lowered program) (λ most. ends_closed (meaning most)) (in_storage.with_part after t) (closed_as answer)
    closed_end {new} after t answer m f = by_end m.left m.came m.reaches
      where
        came_closed : (answer : Result (Unit {0}) Stop) (j : Job Position) → lowered program j ≡ after
            → Came (low_leaving program) (lowered program) (closed_as answer) (in_storage.with_part after t) (option_map (λ k. k then closing) (answered_by answer (in_storage.with_part j t)))
        came_closed (Ok done) j low = went refl (ap (λ (k : Job Spot). in_storage.with_part k t) low)
        came_closed (Err (stop.Fault n)) j low = went refl (ap (λ (k : Job Spot). in_storage.with_part k t) low)
        came_closed (Err (stop.Halt h)) j low = went refl (ap (λ (k : Job Spot). in_storage.with_part k t) low)
        came_closed (Err stop.Expired) j low = went refl (ap (λ (k : Job Spot). in_storage.with_part k t) low)
        came_closed (Err stop.NoMemory) j low = no_memory

        at_end : (why : Break (Leaving Position)) (j : Job Position) → why ≡ Left Ended → lowered program j ≡ after
            → ((most : ℕ) → m.bound ≤ most → Path c (meaning most) m.events d (Breaks why j)) → Means who log old new c d (low_leaving program) (lowered program) (λ most. ends_closed (meaning most)) (in_storage.with_part after t) (closed_as answer)
        at_end why j is low path =
            let g : Follows who log mid new d d (stores_by shut_act j then closing) (option_map (λ k. k then closing) (answered_by answer (in_storage.with_part j t))) =
            follows_then closing (follows_in in_storage j shut_act answer t (follows_from (ap (λ (k : Job Spot). shut_act (in_storage.part k)) low) f)) in
            record {
              events = m.events ++ g.events;
              grew = (g.grew.0 ∙ m.grew.0, g.grew.1 ∙ ap (λ (l : List Event). l ++ g.events) m.grew.1 ∙ append_assoc (log old) m.events g.events);
              bound = m.bound;
              left = option_map (λ k. k then closing) (answered_by answer (in_storage.with_part j t));
              came = came_closed answer j low;
              reaches = λ most enough. reaches_on c d d (ends_closed (meaning most)) (stores_by shut_act j then closing) m.events g.events _
                  (subst (λ (why : Break (Leaving Position)). Path c (ends_closed (meaning most)) m.events d (ends_closed (Breaks why j))) is (path_closed c d (meaning most) (Breaks why j) m.events (path most enough))) g.reaches;
            }

        by_end : (left : Option (Doing Coming)) → Came (low_leaving program) (lowered program) (Err (trouble.Refused exit.Ended)) after left
            → ((most : ℕ) → m.bound ≤ most → Reaches c (meaning most) m.events d left) → Means who log old new c d (low_leaving program) (lowered program) (λ most. ends_closed (meaning most)) (in_storage.with_part after t) (closed_as answer)
        by_end left (went {why = why} {j = j} same low) reaches = at_end why j (ended_by why (subst breaks_ended (sym same) tt)) low reaches

    pub closed_at_end : {new : P} (after : Job Spot) (t : Storage) (answer : Result (Unit {0}) Stop) (end : Result (Unit {0}) (Trouble Exit)) → is_ended end ≡ true
        → Means who log old mid c d (low_leaving program) (lowered program) meaning after end
        → Follows who log mid new d d (shut_act (in_storage.part after)) (answered_by answer t)
        → Means who log old new c d (low_leaving program) (lowered program) (λ most. ends_closed (meaning most)) (in_storage.with_part after t) (closed_as answer)
    closed_at_end after t answer end is m f =
        closed_end after t answer (subst (λ (r : Result (Unit {0}) (Trouble Exit)). Means who log old mid c d (low_leaving program) (lowered program) meaning after r) (ended_so end is) m) f

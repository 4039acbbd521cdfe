-- From what a call does in the code's session to what it does in the session that this represents.
use Rattle.std.proofs.Common.{◌≡◌, ℕ, List, [], ◌∷◌, Some, None, Ok, Err, Result, refl, sym, ap, subst, append-nil}
use Rattle.std.specs.Prelude.{IfOk}
use Rattle.std.specs.Option.{option_map}
use Rattle.basic_values.specs.declared.failures.NoMemory.{NoMemory}
use Rattle.monitor_calls.specs.declared.events.Event.{Event}
use Rattle.monitor_calls.specs.declared.events.Event.TheVariants.{Asked}
use Rattle.monitor_calls.specs.declared.calls.Request.TheVariants.{Tick}
use Rattle.job_model.specs.Act.{Act, Gives, Breaks, Asks, Types, Takes, Break, Gone, Left, over}
use Rattle.job_model.specs.Play.{Clock, counted, ticked}
use Rattle.job_model.specs.Follow.{Path, here, asked, typed, quiet, tick, gone, Follows, unless_memory}
use Rattle.program_model.specs.Program.{Program, Position}
use Rattle.polish_code.specs.Walk.{Spot}
use Rattle.session_model.specs.Talk as talk
use Rattle.session_model.specs.Talk.{Step, SessionEnd}
use Rattle.job_model.specs.Ends.{EndsWhere}
use Rattle.command_level.specs.declared.session.Session.{Session}
use Rattle.command_level.specs.declared.session.AfterLine.{AfterLine}
use Rattle.command_level.specs.declared.session.AfterLine.TheVariants as onward
use Rattle.command_level.specs.AfterLines.{goes}
use Rattle.command_level.specs.Seen.{seen}
use Rattle.command_level.specs.Standing.{low_session, StopFits, LeftBy, Serves}
use Rattle.command_level.proofs.Lows.{lows, Fit}

-- EXECUTIONS

module _ {K L S T A : Type 0} (ways : K → L) (put : S → T) where
  -- an execution of the whole as one of the part
  pub record Under (c d : Clock) (m : Act K S A) (ps : List Event) (whole : Act L T A) : Type 0 where
    pub left : Act K S A
    pub path : Path c m ps d left
    pub same : over ways put left ≡ whole

  at_break : (i d : Clock) (why : Break L) (t : T) (qs : List Event) (whole : Act L T A) (Holds : Clock → List Event → Act L T A → Type 0) → Path i (Breaks why t) qs d whole → Holds i [] (Breaks why t) → Holds d qs whole
  at_break i d why t qs whole Holds here h = h

  pub path_under : (c d : Clock) (m : Act K S A) (ps : List Event) (whole : Act L T A) → Path c (over ways put m) ps d whole → Under c d m ps whole
  path_under c d (Gives a s) ps whole here = record { left = Gives a s; path = here; same = refl }
  path_under c d (Breaks why s) ps whole here = record { left = Breaks why s; path = here; same = refl }
  path_under c d (Asks r by) ps whole here = record { left = Asks r by; path = here; same = refl }
  path_under c d (Asks r by) ps whole (asked {reply = x} {events = qs} p) =
      let u = path_under c d (by x) qs whole p in record { left = u.left; path = asked u.path; same = u.same }
  path_under c d (Types by) ps whole here = record { left = Types by; path = here; same = refl }
  path_under c d (Types by) ps whole (typed {key = key} {events = qs} p) =
      let u = path_under c d (by key) qs whole p in record { left = u.left; path = typed u.path; same = u.same }
  path_under c d (Takes s rest) ps whole here = record { left = Takes s rest; path = here; same = refl }
  path_under c d (Takes s rest) ps whole (quiet h p) =
      let u = path_under (counted c) d rest ps whole p in record { left = u.left; path = quiet h u.path; same = u.same }
  path_under c d (Takes s rest) ps whole (tick {events = qs} h g p) =
      let u = path_under (ticked c) d rest qs whole p in record { left = u.left; path = tick h g u.path; same = u.same }
  path_under c d (Takes s rest) ps whole (gone {e = i} {reply = x} {events = qs} h g p) =
      at_break i d Gone (put s) qs whole (λ d qs whole. Under c d (Takes s rest) (Asked Tick x ∷ qs) whole) p (record { left = Breaks Gone s; path = gone h g here; same = refl })

-- an end's state is one of those in which a tree may end
ends_path : {L S A : Type 0} (holds : S → Type 0) (c d : Clock) (m left : Act L S A) (ps : List Event) → Path c m ps d left → EndsWhere holds m → EndsWhere holds left
ends_path holds c d m left ps here h = h
ends_path holds c d m left ps (asked {reply = x} {by = by} {events = qs} p) h = ends_path holds c d (by x) left qs p (h x)
ends_path holds c d m left ps (typed {key = key} {by = by} {events = qs} p) h = ends_path holds c d (by key) left qs p (h key)
ends_path holds c d m left ps (quiet {rest = t} e p) h = ends_path holds _ d t left ps p h.1
ends_path holds c d m left ps (tick {rest = t} {events = qs} e g p) h = ends_path holds _ d t left qs p h.1
ends_path holds c d m left ps (gone {e = i} {s = s} {events = qs} e g p) h = ends_path holds i d (Breaks Gone s) left qs p h.0

-- WHAT IS LEFT

-- a tree that ends onward with the places of a program's code does so without them
module _ (p : Program) where
  pub record GoesAs (m : Step Position) (on : AfterLine) (u : talk.Session Spot) : Type 0 where
    pub state : talk.Session Position
    pub same : m ≡ goes on state
    pub low_state : low_session p state ≡ u

  abbrev state_of : talk.Session Spot → Step Spot → talk.Session Spot
  state_of d (Gives a s) = s
  state_of d (Breaks why s) = s
  state_of d (Asks r by) = d
  state_of d (Types by) = d
  state_of d (Takes s rest) = d

  pub goes_as : (m : Step Position) (on : AfterLine) (u : talk.Session Spot) → lows p m ≡ goes on u → GoesAs m on u
  goes_as (Gives a s) onward.Next u e = record { state = s; same = refl; low_state = ap (state_of u) e }
  goes_as (Gives a s) onward.Ended u e = absurd (cc)
  goes_as (Gives a s) onward.Expired u e = absurd (cc)
  goes_as (Breaks why s) onward.Next u e = absurd (cc)
  goes_as (Breaks (Left talk.Ended) s) onward.Ended u e = record { state = s; same = refl; low_state = ap (state_of u) e }
  goes_as (Breaks Gone s) onward.Ended u e = absurd (cc)
  goes_as (Breaks why s) onward.Ended u e = absurd (cc)
  goes_as (Breaks Gone s) onward.Expired u e = record { state = s; same = refl; low_state = ap (state_of u) e }
  goes_as (Breaks why s) onward.Expired u e = absurd (cc)
  goes_as (Asks r by) onward.Next u e = absurd (cc)
  goes_as (Asks r by) onward.Ended u e = absurd (cc)
  goes_as (Asks r by) onward.Expired u e = absurd (cc)
  goes_as (Types by) onward.Next u e = absurd (cc)
  goes_as (Types by) onward.Ended u e = absurd (cc)
  goes_as (Types by) onward.Expired u e = absurd (cc)
  goes_as (Takes s rest) onward.Next u e = absurd (cc)
  goes_as (Takes s rest) onward.Ended u e = absurd (cc)
  goes_as (Takes s rest) onward.Expired u e = absurd (cc)

  fits_as : (m : Step Position) (on : AfterLine) (t : talk.Session Position) → m ≡ goes on t → Fit p m → StopFits p t
  fits_as m onward.Next t e h = subst (λ m. Fit p m) e h
  fits_as m onward.Ended t e h = subst (λ m. Fit p m) e h
  fits_as m onward.Expired t e h = subst (λ m. Fit p m) e h

  -- a step that the code's session reached
  pub leaves_by : (session : Session) (result : Result AfterLine NoMemory) (m : Step Position) → IfOk result (λ on. lows p m ≡ goes on (seen session)) → Fit p m
      → LeftBy session result (option_map (λ t most. t) (unless_memory result (λ on. m)))
  leaves_by session (Ok on) m e h =
      let g = goes_as m on (seen session) e in
      (g.state, record { program = p; low = g.low_state; fits = fits_as m on g.state g.same h }, ap (λ (m : Step Position). Some (λ (most : ℕ). m)) g.same)
  leaves_by session (Err none) m e h = refl

module _ {P W : Type 0} {who : P → W} {log : P → List Event} where
  -- the same for an equal tree
  pub serves_from : {p q : P} {c d : Clock} {step step' : ℕ → Step Position} {session : Session} {result : Result AfterLine NoMemory} → ((most : ℕ) → step most ≡ step' most) → Serves who log p q c d step' session result → Serves who log p q c d step session result
  serves_from {p} {q} {c} {d} {step} {step'} {session} {result} same f = subst (λ (step : ℕ → Step Position). Serves who log p q c d step session result) (λ i most. sym (same most) i) f

  -- nothing was asked, and nothing is claimed
  pub serves_nothing : {p : P} {c : Clock} {step : ℕ → Step Position} {session : Session} (e : NoMemory) → Serves who log p p c c step session (Err e)
  serves_nothing {p} {c} {step} e = record { left = None; leaves = refl; follows = record { events = []; grew = (refl, sym (append-nil (log p))); bound = 0; reaches = λ most le. (c, step most, here) } }

  -- a call that asks nothing
  pub serves_same : {p : P} {c : Clock} (prog : Program) (session : Session) (result : Result AfterLine NoMemory) (m : Step Position) → IfOk result (λ on. lows prog m ≡ goes on (seen session)) → Fit prog m → Serves who log p p c c (λ most. m) session result
  serves_same {p} {c} prog session (Ok on) m e h = record { left = Some (λ most. m); leaves = leaves_by prog session (Ok on) m e h; follows = record { events = []; grew = (refl, sym (append-nil (log p))); bound = 0; reaches = λ most le. here } }
  serves_same {p} {c} prog session (Err none) m e h = serves_nothing none

  -- a call that runs no program
  pub serves_rest : {p q : P} {c : Clock} (prog : Program) (session : Session) (result : Result AfterLine NoMemory) (m : Step Position)
      → Follows who log p q c c (lows prog m) (unless_memory result (λ on. goes on (seen session))) → Fit prog m → Serves who log p q c c (λ most. m) session result
  serves_rest {p} {q} {c} prog session (Ok on) m f h =
      let u = path_under (λ way. way) (low_session prog) c c m f.events (goes on (seen session)) f.reaches in
      record {
        left = Some (λ most. u.left);
        leaves = leaves_by prog session (Ok on) u.left u.same (ends_path (StopFits prog) c c m u.left f.events u.path h);
        follows = record { events = f.events; grew = f.grew; bound = 0; reaches = λ most le. u.path };
      }
  serves_rest {p} {q} {c} prog session (Err none) m f h =
      let u = path_under (λ way. way) (low_session prog) c f.reaches.0 m f.events f.reaches.1 f.reaches.2 in
      record { left = None; leaves = refl; follows = record { events = f.events; grew = f.grew; bound = 0; reaches = λ most le. (f.reaches.0, u.left, u.path) } }

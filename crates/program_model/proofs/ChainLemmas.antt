-- No program chains before it takes a unit: one that begins at a statement, and one that continues
-- with an error.
use Rattle.std.proofs.Common.{ℕ, zero, suc, List, [], ◌∷◌, Option, Some, None}
use Rattle.std.specs.Prelude.{nat_le, Bool, true, false, if◌then◌else◌}
use Rattle.basic_values.specs.declared.failures.Halt.TheVariants.{RoomFull}
use Rattle.basic_tree.specs.declared.parts.Shape.{Shape}
use Rattle.basic_tree.specs.Trees.{StatementTree}
use Rattle.error_trap.specs.declared.trap.Trap.{Trap}
use Rattle.error_trap.specs.declared.trap.Raised.{Raised}
use Rattle.error_trap.specs.declared.trap.Raised.TheVariants.{Handle, Report}
use Rattle.error_trap.specs.Trapping.{raised}
use Rattle.job_memory.specs.declared.contents.TheConstants.{MOST_ROOM}
use Rattle.job_memory.specs.Memory.{room_of, made}
use Rattle.job_model.specs.Act.{Act, Gives, Breaks, Asks, Types, Takes, ◌then◌, Faulted, Halted, Gone, Left, over, no_way}
use Rattle.monitor_calls.specs.declared.calls.Reply.{Reply}
use Rattle.program_model.specs.declared.values.Frame.{Frame}
use Rattle.program_model.specs.Program.{Program, Position, whole, statement_at, line_start, shapes_in}
use Rattle.program_model.specs.Job.{Job, Ended, Stopped, StoppedInside, Chained, Deed}
use Rattle.program_model.specs.Storage.{in_storage, stores_by}
use Rattle.program_model.specs.FileActs.{shut_act}
use Rattle.program_model.specs.Variables.{dimensioned}
use Rattle.program_model.specs.Traps.{handled, caught, trapped}
use Rattle.program_model.specs.Control.{At, at_line}
use Rattle.program_model.specs.Running.{Begin, begun, calls_of, handler, runs, runs_from, ends_closed, dimension_all, dimension_in, dimension_program, begins_with, runs_open, runs_cleared, raises_open, raises}

-- no chain comes before a unit
abbrev pub SpendsFirst : {R A : Type 0} → Deed R A → Type 0
SpendsFirst (Gives value j) = Unit {0}
SpendsFirst (Breaks (Left Chained) j) = ⊥
SpendsFirst (Breaks why j) = Unit {0}
SpendsFirst (Asks request by) = (reply : Reply) → SpendsFirst (by reply)
SpendsFirst (Types by) = (key : Option (List ℕ)) → SpendsFirst (by key)
SpendsFirst (Takes j rest) = Unit {0}

module _ {R : Type 0} where
  spends_then : {A B : Type 0} (m : Deed R A) (next : A → Job R → Deed R B) → SpendsFirst m → ((a : A) (j : Job R) → SpendsFirst (next a j)) → SpendsFirst (m then next)
  spends_then (Gives a j) next h f = f a j
  spends_then (Breaks (Left way) j) next h f = h
  spends_then (Breaks (Faulted fault) j) next h f = tt
  spends_then (Breaks (Halted halt) j) next h f = tt
  spends_then (Breaks Gone j) next h f = tt
  spends_then (Asks r by) next h f = λ x. spends_then (by x) next (h x) f
  spends_then (Types by) next h f = λ key. spends_then (by key) next (h key) f
  spends_then (Takes j rest) next h f = tt

  -- a part with no way of its own to leave
  part_spends : {P A : Type 0} (put : P → Job R) (m : Act ⊥ P A) → SpendsFirst (over no_way put m)
  part_spends put (Gives a p) = tt
  part_spends put (Breaks (Faulted fault) p) = tt
  part_spends put (Breaks (Halted halt) p) = tt
  part_spends put (Breaks Gone p) = tt
  part_spends put (Breaks (Left none) p) = absurd none
  part_spends put (Asks r by) = λ x. part_spends put (by x)
  part_spends put (Types by) = λ key. part_spends put (by key)
  part_spends put (Takes p rest) = tt

  -- what is closed at its end
  closed_spends : {A : Type 0} (m : Deed R A) → SpendsFirst m → SpendsFirst (ends_closed m)
  closed_spends (Gives a j) h = tt
  closed_spends (Breaks (Left Ended) j) h = spends_then (stores_by shut_act j) _ (part_spends (in_storage.with_part j) (shut_act (in_storage.part j))) (λ a k. tt)
  closed_spends (Breaks (Left (Stopped q)) j) h = tt
  closed_spends (Breaks (Left (StoppedInside home)) j) h = tt
  closed_spends (Breaks (Left Chained) j) h = h
  closed_spends (Breaks (Faulted fault) j) h = tt
  closed_spends (Breaks (Halted halt) j) h = tt
  closed_spends (Breaks Gone j) h = tt
  closed_spends (Asks r by) h = λ x. closed_spends (by x) (h x)
  closed_spends (Types by) h = λ key. closed_spends (by key) (h key)
  closed_spends (Takes j rest) h = tt

  -- DIM

  if_spends : {A : Type 0} (b : Bool) (m k : Deed R A) → SpendsFirst m → SpendsFirst k → SpendsFirst (if b then m else k)
  if_spends true m k h g = h
  if_spends false m k h g = g

  shape_spends : (shape : Shape) (j : Job R) → SpendsFirst (dimensioned shape j)
  shape_spends shape j = if_spends {A = Unit {0}} (nat_le (room_of (made shape j.memory)) MOST_ROOM) (Gives tt (record j { memory = made shape j.memory })) (Breaks (Halted RoomFull) j) tt tt

  all_spend : (shapes : List Shape) (j : Job R) → SpendsFirst (dimension_all shapes j)
  all_spend [] j = tt
  all_spend (shape ∷ shapes) j = spends_then (dimensioned shape j) _ (shape_spends shape j) (λ a k. all_spend shapes k)

  in_spend : (ss : List StatementTree) (j : Job R) → SpendsFirst (dimension_in ss j)
  in_spend [] j = tt
  in_spend (s ∷ ss) j = spends_then (dimension_all (shapes_in s) j) _ (all_spend (shapes_in s) j) (λ a k. in_spend ss k)

  pub dimension_spends : (program : Program) (j : Job R) → SpendsFirst (dimension_program program j)
  dimension_spends [] j = tt
  dimension_spends (line ∷ lines) j = spends_then (dimension_in line.statements _) _ (in_spend line.statements _) (λ a k. dimension_spends lines k)

-- at a statement
begin_spends : (program : Program) (most : ℕ) (q : Position) (j : Job Position) → SpendsFirst (runs program most (Begin q) j)
begin_spends program zero q j = tt
begin_spends program (suc most) q j = by_statement (statement_at program q.statement)
  where
    by_statement : (s : Option StatementTree) → SpendsFirst (trapped (handler program) (begun (calls_of program (runs program most)) program q s j) then λ coming j. runs program most coming j)
    by_statement None = tt
    by_statement (Some s) = tt

at_spends : (program : Program) (most : ℕ) (q : Position) (j : Job Position) → SpendsFirst (runs_from program most (At q) j)
at_spends program most q j = begin_spends program most q j

open_spends : (program : Program) (most : ℕ) (line : Option ℕ) (j : Job Position) → SpendsFirst (runs_open program most line j)
open_spends program most line j = spends_then (dimension_program program j) _ (dimension_spends program j) (λ a k. at_spends program most (whole (begins_with program line)) k)

pub cleared_spends : (program : Program) (most : ℕ) (line : Option ℕ) (j : Job Position) → SpendsFirst (runs_cleared program most line j)
cleared_spends program most line j = closed_spends (runs_open program most line j) (open_spends program most line j)

-- with an error: at the handler's line, or out of the program
pub raises_spend : (program : Program) (most fault : ℕ) (j : Job Position) → SpendsFirst (raises program most fault j)
raises_spend program most fault j = closed_spends (raises_open program most fault j) (by_frames j.frames)
  where
    by_handler : (t : Trap) (r : Raised) → SpendsFirst (handled (at_line program) fault (t, r) j then λ o j. runs_from program most o j)
    by_handler t (Handle line) = at_spends program most (whole (line_start line program)) _
    by_handler t Report = tt

    by_frames : (frames : List Frame) → SpendsFirst (caught (at_line program) (Faulted fault) frames j then λ o j. runs_from program most o j)
    by_frames [] = let p = raised fault j.line j.home.start j.trap in by_handler p.0 p.1
    by_frames (frame ∷ frames) = tt

-- The place in the code at which a program, or a line, begins, and the state there.
use Rattle.std.proofs.Common.{◌≡◌, ℕ, List, [], ◌∷◌, refl, ap, ◌∙◌, arith}
use Rattle.std.specs.Prelude.{Option, Some, None}
use Rattle.basic_tree.specs.Trees.{StatementTree}
use Rattle.program_model.specs.declared.homes.Home.{Home}
use Rattle.program_model.specs.declared.values.Frame.{Frame}
use Rattle.program_model.specs.Job.{Job}
use Rattle.program_model.specs.Program.{Program, Position, whole, statements_of, statement_at, loops_of}
use Rattle.program_model.specs.Control.{At, home_after, runs_at}
use Rattle.program_model.specs.Running.{apart, no_home}
use Rattle.polish_code.specs.Code.{start_of, offset_in, statement_place, place_of, low_home}
use Rattle.polish_code.specs.Lowered.{lowered, place_onward}
use Rattle.basic_interpreter.specs.Setting.{set_apart}

-- PLACES

start_first : (ss : List StatementTree) → start_of ss 0 ≡ 0
start_first [] = refl
start_first (s ∷ ss) = refl

pub first_place : (program : Program) → statement_place program 0 ≡ 0
first_place program = start_first (statements_of program)

offset_whole : (s : Option StatementTree) → offset_in s [] ≡ 0
offset_whole None = refl
offset_whole (Some s) = refl

-- a statement of a line is at the place where it begins
pub place_whole : (program : Program) (m : ℕ) → place_of program (whole m) ≡ statement_place program m
place_whole program m = omega (arith, offset_whole (statement_at program m))

pub onward_whole : (program : Program) (m : ℕ) → place_onward program (At (whole m)) ≡ Some (statement_place program m)
onward_whole program m = ap Some (place_whole program m)

pub onward_first : (program : Program) → place_onward program (At (whole 0)) ≡ Some 0
onward_first program = ap Some (place_whole program 0 ∙ first_place program)

-- STATES

home_first : (program : Program) → low_home program no_home ≡ no_home
home_first program = ap (λ (n : ℕ). record { start = n; behind = n; line = 0 }) (first_place program)

-- the state in which a line begins, whatever program was there before
pub begins_apart : (line program : Program) (j : Job Position) → lowered line (apart line j) ≡ set_apart (loops_of line) (lowered program j)
begins_apart line program j =
    ap (λ (n : ℕ). record (set_apart (loops_of line) (lowered program j)) { trap = record (set_apart (loops_of line) (lowered program j)).trap { place = n }; home = low_home line no_home }) (first_place line)
    ∙ ap (λ (h : Home). record (set_apart (loops_of line) (lowered program j)) { home = h }) (home_first line)

-- what runs at top level
low_after : (program : Program) (frames : List Frame) (new old : Home) → low_home program (home_after frames new old) ≡ home_after frames (low_home program new) (low_home program old)
low_after program [] new old = refl
low_after program (f ∷ fs) new old = refl

pub runs_low : (program : Program) (home : Home) (j : Job Position) → lowered program (runs_at home j) ≡ runs_at (low_home program home) (lowered program j)
runs_low program home j = ap (λ (h : Home). record (lowered program j) { line = home.line; home = h }) (low_after program j.frames home j.home)

-- CHAIN: to which program it leads, and at which line that begins.
use Rattle.std.specs.Prelude.{ℕ, zero, suc, Option, Some, None, ℤ, pos, negsuc}
use Rattle.std.specs.Option.{option_map}
use Rattle.basic_tree.specs.Trees.{Tree, ChainLineTree}
use Rattle.job_model.specs.Act.{Breaks, Left}
use Rattle.program_model.specs.Job.{Value, number, text, Job, Chained, Deed}
use Rattle.program_model.specs.FileStatements.{or_zero}

-- the number of the line is 0 if it is left out
abbrev pub line_operand : Option ChainLineTree → Tree
line_operand line = or_zero (option_map (λ line. line.number) line)

-- 0 and negative numbers are no line
abbrev pub line_wanted : ℤ → Option ℕ
line_wanted (pos zero) = None
line_wanted (pos (suc n)) = Some (suc n)
line_wanted (negsuc n) = None

-- the program is left for another, by the values of its name and of the number
abbrev pub chained : {R A : Type 0} → Value → Value → Job R → Deed R A
chained name line j =
    Breaks (Left Chained) (record j { destination = record { name = text name; line = line_wanted (number line) } })

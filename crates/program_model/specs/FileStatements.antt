-- The statements on files: first their operands, then what they do.
use Rattle.std.specs.Prelude.{List, [], ◌∷◌, Option, Some, None}
use Rattle.basic_tree.specs.declared.parts.OpenFor.{OpenFor}
use Rattle.basic_tree.specs.declared.parts.OpenFor.TheVariants as purpose
use Rattle.basic_tree.specs.Trees.{Tree, Literal, Trees, NoTrees, AndTrees, CloseChannelTree}
use Rattle.job_model.specs.Act.{Gives, ◌then◌}
use Rattle.monitor_calls.specs.declared.files.OpenKind.{OpenKind}
use Rattle.monitor_calls.specs.declared.files.OpenKind.TheVariants as kind
use Rattle.program_model.specs.declared.file_acts.FileAct.{FileAct}
use Rattle.program_model.specs.declared.file_acts.FileAct.TheVariants as file
use Rattle.program_model.specs.Job.{Job, Deed}
use Rattle.program_model.specs.Expressions.{Around, values_of}
use Rattle.program_model.specs.Storage.{stores_by}
use Rattle.program_model.specs.FileActs.{act_by}

-- an operand that is left out is 0
abbrev pub or_zero : Option Tree → Tree
or_zero None = Literal 0
or_zero (Some e) = e

abbrev pub in_order : List Tree → Trees
in_order [] = NoTrees
in_order (e ∷ others) = AndTrees e (in_order others)

-- all operands are evaluated, from left to right, and then the statement is done
abbrev pub acts_by : {R : Type 0} → Around R → FileAct → List Tree → Job R → Deed R Unit
acts_by around act operands j = values_of around (in_order operands) j then λ values. stores_by (act_by act values)

-- OPEN without a purpose takes a file that is there, or makes one
abbrev pub kind_for : OpenFor → OpenKind
kind_for purpose.Either = kind.Either
kind_for purpose.Input = kind.Input
kind_for purpose.Output = kind.Output

-- CLOSE: each channel is evaluated and closed before the next
abbrev pub close_each : {R : Type 0} → Around R → List CloseChannelTree → Job R → Deed R Unit
close_each around [] j = Gives tt j
close_each around (c ∷ cs) j = acts_by around file.Close (c.number ∷ []) j then λ _. close_each around cs

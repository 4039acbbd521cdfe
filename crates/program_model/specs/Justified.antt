-- LSET and RSET: a string takes the width that a variable has.
use Rattle.std.specs.Prelude.{List, ℕ, Option, Some, None, length}
use Rattle.basic_tree.specs.declared.names.Name.{Name}
use Rattle.job_memory.specs.declared.contents.Content.{Content}
use Rattle.job_memory.specs.declared.contents.Content.TheVariants as content
use Rattle.job_memory.specs.Memory.{variable}
use Rattle.job_model.specs.Act.{Gives, ◌then◌}
use Rattle.record_fields.specs.declared.writing.Side.{Side}
use Rattle.record_fields.specs.Buffers.{buffer_of, with_buffer}
use Rattle.record_fields.specs.Writing.{justified, set_part}
use Rattle.program_model.specs.Job.{Value, Text, text, Job, Deed}
use Rattle.program_model.specs.Expressions.{Around, value_of}
use Rattle.program_model.specs.Variables.{stored}
use Rattle.basic_tree.specs.Trees.{Tree}

-- a field changes in its buffer, and an own string keeps its length; if nothing is stored, nothing
-- changes
abbrev pub justified_in : {R : Type 0} → Side → Name → List ℕ → Option Content → Job R → Deed R (Unit {0})
justified_in side x t (Some (content.Fielded c part)) j =
    Gives tt (record j { buffers = with_buffer c (set_part side part t (buffer_of c j.buffers)) j.buffers })
justified_in side x t (Some (content.Own old)) j = stored x (Text (justified side (length old) t)) j
justified_in side x t (Some (content.Number n)) j = Gives tt j
justified_in side x t None j = Gives tt j

abbrev pub justifies : {R : Type 0} → Side → Name → Value → Job R → Deed R (Unit {0})
justifies side x v j = justified_in side x (text v) (variable x j.memory) j

abbrev pub justifies_by : {R : Type 0} → Around R → Side → Name → Tree → Job R → Deed R (Unit {0})
justifies_by around side x e j = value_of around e j then λ v j. justifies side x v j

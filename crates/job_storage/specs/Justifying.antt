-- LSET and RSET, as interaction trees over the variables and files.
use Rattle.std.specs.Prelude.{ℕ, List, length, Option, Some, None}
use Rattle.basic_tree.specs.declared.names.Name.{Name}
use Rattle.job_memory.specs.declared.contents.Content.{Content}
use Rattle.job_memory.specs.declared.contents.Content.TheVariants as content
use Rattle.job_memory.specs.Memory.{store, variable}
use Rattle.job_model.specs.Act.{Gives}
use Rattle.program_model.specs.FileActs.{bound}
use Rattle.program_model.specs.Storage.{Storage, StorageAct}
use Rattle.record_fields.specs.declared.writing.Side.{Side}
use Rattle.record_fields.specs.Buffers.{buffer_of, with_buffer}
use Rattle.record_fields.specs.Writing.{justified, set_part}

-- the storage with other buffers
abbrev pub with_buffers : List (List ℕ) → Storage → Storage
with_buffers buffers s = record s { files = record s.files { buffers = buffers } }

-- a field changes in its buffer, and an own string keeps its length; if nothing is stored, nothing
-- changes
abbrev pub justify_in : Side → Name → List ℕ → Option Content → StorageAct (Unit {0})
justify_in side x t (Some (content.Fielded c part)) s =
    Gives tt (with_buffers (with_buffer c (set_part side part t (buffer_of c s.files.buffers)) s.files.buffers) s)
justify_in side x t (Some (content.Own old)) s = bound (store x (content.Own (justified side (length old) t)) s.memory) s
justify_in side x t (Some (content.Number n)) s = Gives tt s
justify_in side x t None s = Gives tt s

abbrev pub justify_act : Side → Name → List ℕ → StorageAct (Unit {0})
justify_act side x t s = justify_in side x t (variable x s.memory) s

-- READ, over the DATA items of a program.
use Rattle.std.specs.Prelude.{ℕ, suc, List, [], ◌∷◌, Option, Some, None, slice_get}
use Rattle.basic_values.specs.declared.errors.TheConstants.{OUT_OF_DATA}
use Rattle.basic_strings.specs.Readings.{without_blanks}
use Rattle.basic_tree.specs.Trees.{Tree}
use Rattle.job_model.specs.Act.{Gives, Breaks, Faulted, ◌then◌}
use Rattle.program_model.specs.Job.{Job, Deed, or_fault}
use Rattle.program_model.specs.Expressions.{Around}
use Rattle.program_model.specs.Targets.{stored_to, wants_text}
use Rattle.program_model.specs.Items.{item_value}

-- The item is taken, also if it is then rejected.
abbrev pub item_taken : {R : Type 0} → Option (List ℕ) → Job R → Deed R (List ℕ)
item_taken None j = Breaks (Faulted OUT_OF_DATA) j
item_taken (Some item) j = Gives (without_blanks item) (record j { item = suc j.item })

-- each item is taken and judged before the subscripts of its target are evaluated
abbrev pub read_all : {R : Type 0} → Around R → List (List ℕ) → List Tree → Job R → Deed R (Unit {0})
read_all around items [] j = Gives tt j
read_all around items (target ∷ targets) j =
    item_taken (slice_get items j.item) j
    then λ item j. or_fault (item_value (wants_text target) item) j
    then λ v j. stored_to around target v j
    then λ _ j. read_all around items targets j

-- Elements of arrays: in a file if a DIM # of the program has the name, else in memory.
use Rattle.std.specs.Prelude.{List, Option, Some, None}
use Rattle.basic_tree.specs.declared.names.Name.{Name}
use Rattle.job_model.specs.Act.{Gives, ◌then◌, on}
use Rattle.virtual_arrays.specs.declared.places.VirtualShape.{VirtualShape}
use Rattle.virtual_arrays.specs.declared.elements.Element.{Element}
use Rattle.virtual_arrays.specs.declared.elements.Element.TheVariants as file
use Rattle.virtual_arrays.specs.Elements.{reads_element, writes_element}
use Rattle.program_model.specs.Job.{Value, Number, Text, Job, Deed}
use Rattle.program_model.specs.Functions.{number_at}
use Rattle.program_model.specs.Storage.{StorageAct, in_files, stores_by}
use Rattle.program_model.specs.Variables.{second, element, stored_at}

-- IN A FILE

abbrev pub value_of_element : Element → Value
value_of_element (file.Number n) = Number n
value_of_element (file.Text t) = Text t

abbrev pub as_element : Value → Element
as_element (Number n) = file.Number n
as_element (Text t) = file.Text t

abbrev pub read_act : VirtualShape → List Value → StorageAct Value
read_act array subscripts s =
    on in_files (reads_element array (number_at 0 subscripts) (second subscripts)) s then λ e s. Gives (value_of_element e) s

abbrev pub write_act : VirtualShape → List Value → Value → StorageAct Unit
write_act array subscripts v s =
    on in_files (writes_element array (number_at 0 subscripts) (second subscripts) (as_element v)) s

-- IN MEMORY OR IN A FILE

abbrev pub element_read : {R : Type 0} → Option VirtualShape → Name → List Value → Job R → Deed R Value
element_read None x subscripts j = element x subscripts j
element_read (Some array) x subscripts j = stores_by (read_act array subscripts) j

abbrev pub element_stored : {R : Type 0} → Option VirtualShape → Name → List Value → Value → Job R → Deed R (Unit {0})
element_stored None x subscripts v j = stored_at x subscripts v j
element_stored (Some array) x subscripts v j = stores_by (write_act array subscripts v) j

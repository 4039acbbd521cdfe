-- The arrays in files that the DIM # statements of a program declare.
use Rattle.std.specs.Prelude.{ℕ, ◌+◌, ◌-◌, ◌*◌, ◌/◌, min, if◌then◌else◌, List, [], ◌∷◌, find, Option, pos}
use Rattle.std.specs.List.{flat_map}
use Rattle.std.specs.Option.{unwrap_or}
use Rattle.basic_values.specs.Numbers.{wrap}
use Rattle.basic_values.specs.declared.limits.TheConstants.{BLOCK_BYTES, MOST_BLOCKS}
use Rattle.basic_tree.specs.declared.names.Name.{Name}
use Rattle.basic_tree.specs.declared.parts.FileShape.{FileShape}
use Rattle.basic_tree.specs.Trees.{StatementTree, DimFile}
use Rattle.job_memory.specs.Names.{at_name}
use Rattle.record_fields.specs.Bounds.{count}
use Rattle.virtual_arrays.specs.declared.places.VirtualShape.{VirtualShape}
use Rattle.program_model.specs.Program.{Program, statements_of}
use Rattle.program_model.specs.declared.file_arrays.TheConstants.{NUMBER_BYTES, TEXT_BYTES}

-- the bytes of an element: 2 of a number; of a string as many as are declared, or 16
abbrev pub element_size : FileShape → ℕ
element_size array = if array.shape.name.text then unwrap_or array.size TEXT_BYTES else NUMBER_BYTES

-- the largest file
abbrev pub most_file_bytes : ℕ
most_file_bytes = MOST_BLOCKS * BLOCK_BYTES

-- The next multiple of an element's size, after the arrays before it. An array that would begin
-- past the largest file has no element in any file, wherever it begins.
abbrev pub begins_at : ℕ → ℕ → ℕ
begins_at size behind = min most_file_bytes ((behind + (size - 1)) / size * size)

-- the channel is a literal, which counts as one in an expression
abbrev pub array_from : ℕ → ℕ → FileShape → VirtualShape
array_from channel behind array = record {
  name = array.shape.name;
  channel = wrap (pos channel);
  first = array.shape.first;
  second = array.shape.second;
  start = begins_at (element_size array) behind;
  size = element_size array;
}

-- how many bytes of the file there are up to its end
abbrev pub end_of : VirtualShape → ℕ
end_of array = array.start + count array.first array.second * array.size

-- of one statement, each array after those before it
abbrev pub arrays_from : ℕ → ℕ → List FileShape → List VirtualShape
arrays_from channel behind [] = []
arrays_from channel behind (array ∷ arrays) =
    let declared = array_from channel behind array in
    declared ∷ arrays_from channel (end_of declared) arrays

abbrev pub arrays_by : StatementTree → List VirtualShape
arrays_by (DimFile channel arrays) = arrays_from channel 0 arrays
arrays_by s = []

-- the array in a file that has this name, if there is one
abbrev pub file_array : Program → Name → Option VirtualShape
file_array program x = find (λ array. at_name x array.name) (flat_map arrays_by (statements_of program))

-- The place of an element of a virtual array in its file: elements follow one another, from the
-- array's first byte on.
use Rattle.std.specs.Prelude.{ℕ, ◌+◌, ◌*◌, ◌/◌, ◌%◌, nat_lt, if◌then◌else◌, Option, Some, None, Result, Ok, Err, ℤ}
use Rattle.basic_values.specs.declared.errors.TheConstants.{SUBSCRIPT_OUT_OF_RANGE}
use Rattle.basic_values.specs.declared.limits.TheConstants.{BLOCK_BYTES, MOST_BLOCKS}
use Rattle.record_fields.specs.Bounds.{place_under}
use Rattle.virtual_arrays.specs.declared.places.VirtualShape.{VirtualShape}
use Rattle.virtual_arrays.specs.declared.places.Place.{Place}

-- the part of this many bytes that begins at this byte of the file; the blocks before it are full
abbrev pub place_from : ℕ → ℕ → Result Place ℕ
place_from size byte =
    if nat_lt (byte / BLOCK_BYTES) MOST_BLOCKS
    then Ok (record { block = byte / BLOCK_BYTES + 1; part = record { offset = byte % BLOCK_BYTES; length = size } })
    else Err SUBSCRIPT_OUT_OF_RANGE

-- the place of the element with this many before it, if the array has it
abbrev pub place_of_index : ℕ → ℕ → Option ℕ → Result Place ℕ
place_of_index start size (Some index) = place_from size (start + index * size)
place_of_index start size None = Err SUBSCRIPT_OUT_OF_RANGE

-- the place of an element, or the number of the error
abbrev pub element_place : VirtualShape → ℤ → Option ℤ → Result Place ℕ
element_place shape i j = place_of_index shape.start shape.size (place_under shape.first shape.second i j)

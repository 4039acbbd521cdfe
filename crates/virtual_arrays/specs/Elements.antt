-- Elements of arrays in files, read and written in the window of their channel.
use Rattle.std.specs.Prelude.{ℕ, ◌+◌, ◌*◌, ◌/◌, ◌%◌, ◌==◌, Bool, true, false, if◌then◌else◌, List, [], ◌∷◌, slice_index, Option, Result, Ok, Err, ℤ}
use Rattle.basic_values.specs.Numbers.{low_bits, signed}
use Rattle.basic_values.specs.declared.errors.TheConstants.{ILLEGAL_BYTE_COUNT}
use Rattle.job_model.specs.Act.{Gives, ◌then◌}
use Rattle.record_fields.specs.Buffers.{buffer_of, with_buffer, fill_part}
use Rattle.record_fields.specs.Parts.{part_of}
use Rattle.record_fields.specs.Sizes.{is_single}
use Rattle.channels.specs.declared.states.ChannelState.{ChannelState}
use Rattle.channels.specs.Files.{Files, FilesAct, changes, tested, channel_opened, channel_at}
use Rattle.channels.specs.Windows.{opens_window}
use Rattle.virtual_arrays.specs.declared.places.VirtualShape.{VirtualShape}
use Rattle.virtual_arrays.specs.declared.places.Place.{Place}
use Rattle.virtual_arrays.specs.declared.elements.Element.{Element}
use Rattle.virtual_arrays.specs.declared.elements.Element.TheVariants.{Number, Text}
use Rattle.virtual_arrays.specs.Places.{element_place}

-- THE VALUE OF AN ELEMENT

-- a number is two bytes, the low one first
abbrev pub low_first : ℤ → List ℕ
low_first n = low_bits n % 256 ∷ low_bits n / 256 ∷ []

abbrev pub low_first_number : List ℕ → ℤ
low_first_number bytes = signed (slice_index bytes 1 * 256 + slice_index bytes 0)

-- the bytes of a value
abbrev pub element_bytes : Element → List ℕ
element_bytes (Number n) = low_first n
element_bytes (Text text) = text

abbrev pub without_last_zero : ℕ → List ℕ → List ℕ
without_last_zero byte [] = if byte == 0 then [] else byte ∷ []
without_last_zero byte (next ∷ bytes) = byte ∷ next ∷ bytes

-- the bytes without the zeros at their end
abbrev pub without_zeros : List ℕ → List ℕ
without_zeros [] = []
without_zeros (byte ∷ bytes) = without_last_zero byte (without_zeros bytes)

-- the value of an element's bytes, a string or a number
abbrev pub element_of : Bool → List ℕ → Element
element_of text bytes = if text then Text (without_zeros bytes) else Number (low_first_number bytes)

-- WHICH CHANNEL AND WHICH PLACE, or the number of the first error: of the channel, of a channel
-- with larger records, of the place

abbrev pub placed_on : ℕ → Result Place ℕ → Result (ℕ × Place) ℕ
placed_on c (Ok place) = Ok (c, place)
placed_on c (Err number) = Err number

abbrev pub located_on : VirtualShape → ℤ → Option ℤ → List ChannelState → Result ℕ ℕ → Result (ℕ × Place) ℕ
located_on shape i j channels (Ok c) = if is_single (channel_at c channels).size then placed_on c (element_place shape i j) else Err ILLEGAL_BYTE_COUNT
located_on shape i j channels (Err number) = Err number

abbrev pub located : VirtualShape → ℤ → Option ℤ → List ChannelState → Result (ℕ × Place) ℕ
located shape i j channels = located_on shape i j channels (channel_opened shape.channel channels)

-- AN ACCESS

-- the value of a part of the channel's window
abbrev pub element_at : Bool → ℕ → Place → Files → Element
element_at text c place files = element_of text (part_of place.part (buffer_of c files.buffers))

abbrev pub reads_at : Bool → ℕ → Place → Files → FilesAct Element
reads_at text c place files = opens_window c place.block false files then λ _ files. Gives (element_at text c place files) files

-- an element is read
abbrev pub reads_element : VirtualShape → ℤ → Option ℤ → Files → FilesAct Element
reads_element shape i j files = tested (located shape i j files.channels) files then λ at. reads_at shape.name.text at.0 at.1

-- a value is written to a part of the channel's window: a longer one is cut, and a shorter one is
-- filled with zeros
abbrev pub with_element : ℕ → Place → Element → Files → Files
with_element c place value files = record files {
  buffers = with_buffer c (fill_part place.part (element_bytes value) (buffer_of c files.buffers)) files.buffers;
}

abbrev pub writes_at : ℕ → Place → Element → Files → FilesAct Unit
writes_at c place value files = opens_window c place.block true files then λ _. changes (with_element c place value)

-- an element is written
abbrev pub writes_element : VirtualShape → ℤ → Option ℤ → Element → Files → FilesAct Unit
writes_element shape i j value files = tested (located shape i j files.channels) files then λ at. writes_at at.0 at.1 value

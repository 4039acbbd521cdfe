-- What a variable or an element contains: its size in bytes, and what is read of it.
use Rattle.std.specs.Prelude.{ℕ, ◌+◌, ◌==◌, Bool, true, if◌then◌else◌, List, [], length, Option, Some, None, ℤ, pos}
use Rattle.std.specs.Option.{option_map, unwrap_or}
use Rattle.record_fields.specs.Buffers.{buffer_of, IsChannel}
use Rattle.record_fields.specs.Parts.{LiesIn, part_of}
use Rattle.record_fields.specs.declared.buffers.TheConstants.{BUFFER_BYTES}
use Rattle.record_fields.specs.declared.parts.Part.{Part}
use Rattle.job_memory.specs.declared.contents.Closed.{Closed}
use Rattle.job_memory.specs.declared.contents.Closed.TheVariants.{One, All}
use Rattle.job_memory.specs.declared.contents.Content.{Content}
use Rattle.job_memory.specs.declared.contents.Content.TheVariants.{Number, Own, Fielded}

-- the size of a content: 2 bytes, and the length of an own string besides
abbrev pub size : Content → ℕ
size (Number n) = 2
size (Own text) = 2 + length text
size (Fielded channel part) = 2

-- the size of a variable, which is 0 if it is not stored
abbrev pub size_in : Option Content → ℕ
size_in content = unwrap_or (option_map size content) 0

-- 0, or an own string without bytes
abbrev pub blank : Bool → Content
blank text = if text then Own [] else Number (pos 0)

-- the number of a content
abbrev pub number_of : Content → ℤ
number_of (Number n) = n
number_of (Own text) = pos 0
number_of (Fielded channel part) = pos 0

-- the number of a variable: 0 if it is not stored
abbrev pub number_in : Option Content → ℤ
number_in (Some content) = number_of content
number_in None = pos 0

-- the own string of a content
abbrev pub text_of : Content → List ℕ
text_of (Number n) = []
text_of (Own text) = text
text_of (Fielded channel part) = []

-- the string of a variable, its own or the part of a buffer; empty if it is not stored
abbrev pub text_in : List (List ℕ) → Option Content → List ℕ
text_in buffers (Some (Fielded channel part)) = part_of part (buffer_of channel buffers)
text_in buffers (Some content) = text_of content
text_in buffers None = []

-- the channel and the part in which a string is fielded
abbrev pub place_in : Option Content → Option (ℕ × Part)
place_in (Some (Fielded channel part)) = Some (channel, part)
place_in (Some (Number n)) = None
place_in (Some (Own text)) = None
place_in None = None

-- how long an own string is
abbrev pub own_length_in : Option Content → Option ℕ
own_length_in (Some (Own text)) = Some (length text)
own_length_in (Some (Number n)) = None
own_length_in (Some (Fielded channel part)) = None
own_length_in None = None

-- a fielded part is inside the buffer of a channel
abbrev pub LiesInBuffer : Option Content → Type 0
LiesInBuffer (Some (Fielded channel part)) = IsChannel channel × LiesIn BUFFER_BYTES part
LiesInBuffer (Some (Number n)) = Unit {0}
LiesInBuffer (Some (Own text)) = Unit {0}
LiesInBuffer None = Unit {0}

abbrev pub is_closed : Closed → ℕ → Bool
is_closed (One closed) channel = channel == closed
is_closed All channel = true

-- what was a part of a closed channel's buffer becomes an own string without bytes
abbrev pub forgotten : Closed → Content → Content
forgotten closed (Number n) = Number n
forgotten closed (Own text) = Own text
forgotten closed (Fielded channel part) = if is_closed closed channel then Own [] else Fielded channel part

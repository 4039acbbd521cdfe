-- Elements of arrays in files, computed.
use Rattle.std.proofs.Common.{◌≡◌, ℕ, [], ◌∷◌, Bool, true, false, Some, None, Ok, Err, refl}
use Rattle.std.specs.Prelude.{pos, negsuc}
use Rattle.basic_tree.specs.declared.names.Name.{Name}
use Rattle.virtual_arrays.specs.declared.places.VirtualShape.{VirtualShape}
use Rattle.virtual_arrays.specs.declared.places.Place.{Place}
use Rattle.virtual_arrays.specs.declared.elements.Element.TheVariants.{Number, Text}
use Rattle.virtual_arrays.specs.Places.{element_place}
use Rattle.virtual_arrays.specs.Elements.{low_first, element_of}

abbrev named : Bool → Name
named text = record { letter = 65; digit = None; text = text }

-- DIM #1%, A%(300%)
abbrev numbers : VirtualShape
numbers = record { name = named false; channel = pos 1; first = 300; second = None; start = 0; size = 2 }

abbrev place : ℕ → ℕ → ℕ → Place
place block offset length = record { block = block; part = record { offset = offset; length = length } }

last_of_block : element_place numbers (pos 255) None ≡ Ok (place 1 510 2)
last_of_block = refl

first_of_block : element_place numbers (pos 256) None ≡ Ok (place 2 0 2)
first_of_block = refl

past_its_bound : element_place numbers (pos 301) None ≡ Err 55
past_its_bound = refl

-- DIM #1%, A%(300%), A$(2%,3%)=64%: after 602 bytes, from the next multiple of 64 on
abbrev texts : VirtualShape
texts = record { name = named true; channel = pos 1; first = 2; second = Some 3; start = 640; size = 64 }

first_text : element_place texts (pos 0) (Some (pos 0)) ≡ Ok (place 2 128 64)
first_text = refl

last_subscript_runs_fastest : element_place texts (pos 0) (Some (pos 1)) ≡ Ok (place 2 192 64)
last_subscript_runs_fastest = refl

second_row : element_place texts (pos 1) (Some (pos 0)) ≡ Ok (place 2 384 64)
second_row = refl

too_few : element_place texts (pos 1) None ≡ Err 55
too_few = refl

-- DIM #1%, A$(32767%)=512%: a block each
abbrev blocks : VirtualShape
blocks = record { name = named true; channel = pos 1; first = 32767; second = None; start = 0; size = 512 }

last_block : element_place blocks (pos 16383) None ≡ Ok (place 16384 0 512)
last_block = refl

past_the_greatest_file : element_place blocks (pos 16384) None ≡ Err 55
past_the_greatest_file = refl

-- a number has its low byte first
seven : low_first (pos 7) ≡ 7 ∷ 0 ∷ []
seven = refl

minus_two : low_first (negsuc 1) ≡ 254 ∷ 255 ∷ []
minus_two = refl

minus_two_again : element_of false (254 ∷ 255 ∷ []) ≡ Number (negsuc 1)
minus_two_again = refl

nothing_written : element_of false [] ≡ Number (pos 0)
nothing_written = refl

-- zeros within a string stay, those at its end are dropped
zeros_at_the_end : element_of true (65 ∷ 66 ∷ 0 ∷ 67 ∷ 0 ∷ 0 ∷ []) ≡ Text (65 ∷ 66 ∷ 0 ∷ 67 ∷ [])
zeros_at_the_end = refl

only_zeros : element_of true (0 ∷ 0 ∷ []) ≡ Text []
only_zeros = refl

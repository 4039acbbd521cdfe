-- The law of arrays in files, about definitions alone.
use Rattle.std.specs.Prelude.{◌≡◌, ◌*◌, ◌≤◌, ℕ, Option, Ok, ℤ}
use Rattle.basic_values.specs.declared.limits.TheConstants.{BLOCK_BYTES, MOST_BLOCKS}
use Rattle.record_fields.specs.Parts.{LiesIn}
use Rattle.virtual_arrays.specs.declared.places.VirtualShape.{VirtualShape}
use Rattle.virtual_arrays.specs.declared.places.Place.{Place}
use Rattle.virtual_arrays.specs.Places.{element_place}

-- as a DIM # declares arrays: some elements fill a block, and the array begins at a multiple of its
-- element size
pub record IsDeclared (shape : VirtualShape) : Type 0 where
  pub in_block : ℕ
  pub fills : shape.size * in_block ≡ BLOCK_BYTES
  pub in_front : ℕ
  pub begins : shape.start ≡ shape.size * in_front

-- a part of one block of the largest file
pub record IsPlace (place : Place) : Type 0 where
  pub first : 1 ≤ place.block
  pub last : place.block ≤ MOST_BLOCKS
  pub inside : LiesIn BLOCK_BYTES place.part

-- an element does not cross the end of its block
abbrev pub ElementsLieInBlocks : Type 0
ElementsLieInBlocks = (shape : VirtualShape) (i : ℤ) (j : Option ℤ) (place : Place) → IsDeclared shape → element_place shape i j ≡ Ok place → IsPlace place

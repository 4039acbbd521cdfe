-- Bytes written into a buffer from a place on.
use Rattle.std.proofs.Common.{◌≡◌, ◌+◌, ◌-◌, ℕ, List, [], ◌∷◌, ◌++◌, length, take, drop, replicate, sym, ◌∙◌, arith}
use Rattle.std.specs.Prelude.{min, slice_set}
use Rattle.std.proofs.lemmas.List.{places, same_lists, length-append, length-take, length-drop, length-set}
use Rattle.std.proofs.lemmas.Grind.{get_or-set_at}
use Rattle.record_fields.specs.Buffers.{written_from}
use borrow.Rule.Slice.PartMut.{put_mid}

-- the buffer keeps its size
pub length_written : (place : ℕ) (bytes buffer : List ℕ) → length (written_from place bytes buffer) ≡ length buffer
length_written place bytes buffer =
    let whole : List ℕ = take place buffer ++ bytes ++ drop (place + length bytes) buffer in
    omega (arith, length-take (length buffer) whole, length-append (take place buffer ++ bytes) (drop (place + length bytes) buffer), length-append (take place buffer) bytes, length-take place buffer, length-drop (place + length bytes) buffer)

pub written_none : (place : ℕ) (buffer : List ℕ) → written_from place [] buffer ≡ buffer
written_none place buffer = same_lists _ _ (length_written place [] buffer) (λ k d h. grind (arith, places))

-- one byte before the others
one_byte_more : (place byte : ℕ) (bytes buffer : List ℕ) → written_from place (replicate 1 byte ++ bytes) buffer ≡ written_from (place + 1) bytes (slice_set buffer place byte)
one_byte_more place byte bytes buffer =
    let same : length (written_from place (replicate 1 byte ++ bytes) buffer) ≡ length (written_from (place + 1) bytes (slice_set buffer place byte)) =
    length_written place (replicate 1 byte ++ bytes) buffer ∙ sym (length-set buffer place byte) ∙ sym (length_written (place + 1) bytes (slice_set buffer place byte)) in
    same_lists _ _ same (λ k d h. grind (arith, places, length-set, get_or-set_at))

pub written_more : (place byte : ℕ) (bytes buffer : List ℕ) → written_from place (byte ∷ bytes) buffer ≡ written_from (place + 1) bytes (slice_set buffer place byte)
written_more place byte bytes buffer = one_byte_more place byte bytes buffer

-- a write that changes only a part of the buffer
pub written_in_place : (start kept place : ℕ) (bytes buffer part : List ℕ) → start ≡ min place (length buffer) → kept ≡ min (length bytes) (length buffer - start) → part ≡ take kept bytes
    → put_mid start kept buffer part ≡ written_from place bytes buffer
written_in_place start kept place bytes buffer part begins long is = same_lists _ _ (grind (arith, places)) (λ k d h. grind (arith, places))

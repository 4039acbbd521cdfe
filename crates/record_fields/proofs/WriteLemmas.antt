-- A write to a part does not change what is apart from it.
use Rattle.std.proofs.Common.{◌≡◌, ◌≤◌, ◌+◌, ℕ, List, ◌++◌, length, take, drop, sym, ap, ◌∙◌, inl, inr, arith}
use Rattle.std.proofs.lemmas.List.{append_assoc, length-take-le, take-append-le, drop-append-le, take-append-drop, length-append, length-drop}
use Rattle.std.proofs.lemmas.Slice.{drop-append-drop}
use Rattle.record_fields.specs.Laws.{OthersStay}

-- bytes of the prefix do not depend on what follows it
within_front : (front rest : List ℕ) (from count : ℕ) → from + count ≤ length front → take count (drop from (front ++ rest)) ≡ take count (drop from front)
within_front front rest from count within =
    let left : count ≤ length (drop from front) = omega (arith, length-drop from front, within) in
    ap (take count) (drop-append-le from front rest (omega (arith, within))) ∙ take-append-le count (drop from front) rest left

pub others_stay : OthersStay
others_stay part other bytes buffer lies apart fits =
    let front = take part.offset buffer in
    let back = drop (part.offset + part.length) buffer in
    let here : length front ≡ part.offset = length-take-le part.offset buffer (omega (arith, lies)) in
    elim apart [
      | inl behind ↦
          let whole : length (front ++ bytes) ≡ part.offset + part.length = omega (arith, length-append front bytes, here, fits) in
          ap (take other.length) (drop-append-drop (part.offset + part.length) buffer (front ++ bytes) other.offset behind whole)
      | inr before ↦
          let within : other.offset + other.length ≤ length front = omega (arith, before, here) in
          ap (λ it. take other.length (drop other.offset it)) (append_assoc front bytes back)
          ∙ within_front front (bytes ++ back) other.offset other.length within
          ∙ sym (within_front front (drop part.offset buffer) other.offset other.length within)
          ∙ ap (λ it. take other.length (drop other.offset it)) (take-append-drop part.offset buffer)
    ]

-- A field that is copied to the right of another one.
use Rattle.std.proofs.Common.{◌≡◌, ◌≤◌, ◌+◌, ◌-◌, ℕ, List, ◌++◌, length, take, drop, replicate, sym, ap, ◌∙◌, arith}
use Rattle.std.specs.Prelude.{min}
use Rattle.std.proofs.Math.Seq.{paste}
use Rattle.std.proofs.lemmas.List.{append_assoc, length-take-le, take-append-le, take-take, drop_at, drop-drop, drop-take, length-drop}
use Rattle.basic_values.specs.Texts.{space}
use Rattle.record_fields.specs.declared.parts.Part.{Part}
use Rattle.record_fields.specs.Parts.{LiesIn, part_of, with_part}
use Rattle.record_fields.specs.Writing.{right_justified}
use borrow.Rule.Slice.PartMut.{put_mid}

-- bytes that are written before bytes that were pasted in
in_front_of : (a k n : ℕ) (xs s ys : List ℕ) → a + k ≤ length xs → put_mid a k (paste xs (a + k) s n) ys ≡ take a xs ++ (ys ++ take n s) ++ drop (a + k + n) xs
in_front_of a k n xs s ys inside =
    let run : List ℕ = take n s in
    let last : List ℕ = drop (a + k + n) xs in
    let rest : List ℕ = run ++ last in
    let long : length (take (a + k) xs) ≡ a + k = length-take-le (a + k) xs inside in
    let front : take a (take (a + k) xs ++ rest) ≡ take a xs = take-append-le a (take (a + k) xs) rest (omega (arith, long)) ∙ take-take a (a + k) xs (omega arith) in
    let back : drop k (drop a (take (a + k) xs ++ rest)) ≡ rest = drop-drop k a (take (a + k) xs ++ rest) ∙ drop_at (take (a + k) xs) rest (a + k) long in
    ap (λ (l : List ℕ). put_mid a k l ys) (append_assoc (take (a + k) xs) run last) ∙ (λ i. front i ++ (ys ++ back i)) ∙ ap (λ (l : List ℕ). take a xs ++ l) (sym (append_assoc ys run last)) ∙ sym (append_assoc (take a xs) (ys ++ run) last)

-- the last bytes of a part
last_bytes : (from : Part) (cut kept : ℕ) (buffer : List ℕ) → from.length ≡ cut + kept → drop cut (part_of from buffer) ≡ take kept (drop (from.offset + cut) buffer)
last_bytes from cut kept buffer parted =
    ap (λ (n : ℕ). drop cut (take n (drop from.offset buffer))) parted ∙ drop-take cut kept (drop from.offset buffer) ∙ ap (take kept) (drop-drop cut from.offset buffer)

pub shifted_right : (from to : Part) (buffer : List ℕ) (kept : ℕ) → kept ≡ min from.length to.length → LiesIn (length buffer) from → LiesIn (length buffer) to
    → put_mid to.offset (to.length - kept) (paste buffer (to.offset + (to.length - kept)) (drop (from.offset + (from.length - kept)) buffer) kept) (replicate (to.length - kept) space) ≡ with_part to (right_justified to.length (part_of from buffer)) buffer
shifted_right from to buffer kept is from_lies to_lies =
    let held : List ℕ = part_of from buffer in
    let long : length held ≡ from.length = length-take-le from.length (drop from.offset buffer) (omega (arith, length-drop from.offset buffer, from_lies)) in
    let spaces : to.length - kept ≡ to.length - length held = omega (arith, long, is) in
    let cut : from.length - kept ≡ length held - to.length = omega (arith, long, is) in
    let value : take kept (drop (from.offset + (from.length - kept)) buffer) ≡ drop (length held - to.length) held =
    sym (last_bytes from (from.length - kept) kept buffer (omega (arith, is))) ∙ ap (λ (n : ℕ). drop n held) cut in
    let behind : to.offset + (to.length - kept) + kept ≡ to.offset + to.length = omega (arith, is) in
    in_front_of to.offset (to.length - kept) kept buffer (drop (from.offset + (from.length - kept)) buffer) (replicate (to.length - kept) space) (omega (arith, to_lies))
    ∙ (λ i. take to.offset buffer ++ (replicate (spaces i) space ++ value i) ++ drop (behind i) buffer)

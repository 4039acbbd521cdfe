use Rattle.std.proofs.Common.{◌≡◌, ℕ, ◌+◌, ◌-◌, take, ap, sym, ◌∙◌, arith}
use Rattle.virtual_arrays.specs.Elements.{without_zeros}
use Rattle.virtual_arrays.proofs.ZeroLemmas.{left_out, kept_up_to}
use Rattle.virtual_arrays.proofs.elements.kept_bytes.Goals as goal

pub returns-then-bytes-place-ne0-clause-kept : goal.returns-then-bytes-place-ne0-clause-kept
returns-then-bytes-place-ne0-clause-kept c =
    let bytes = c.args.bytes.now in
    let place : ℕ = c.loop-place.place - 1 in
    let next : place + 1 ≡ c.loop-place.place = omega arith in
    sym (kept_up_to bytes place (omega arith) c.if-bytes-place-ne0.true) ∙ ap (λ (n : ℕ). without_zeros (take n bytes)) next ∙ sym c.loop-place.invariant

pub loop-place-preserved : goal.loop-place-preserved
loop-place-preserved c =
    let bytes = c.args.bytes.now in
    let place : ℕ = c.loop-place.place - 1 in
    let next : c.loop-place.place ≡ place + 1 = omega arith in
    c.loop-place.invariant ∙ ap (λ (n : ℕ). without_zeros (take n bytes)) next ∙ left_out bytes place (omega arith) c.if-bytes-place-ne0.false

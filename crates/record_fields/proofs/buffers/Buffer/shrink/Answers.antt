use Rattle.std.proofs.Common.{◌≡◌, ℕ, ◌∙◌, ap, arith, replicate, vec_len}
use Rattle.record_fields.specs.declared.buffers.TheConstants.{BUFFER_BYTES}
use Rattle.record_fields.proofs.buffers.Buffer.shrink.Goals as goal

-- by hand: the search opens the list of 512 zeros
pub returns : goal.returns
returns c =
    let long : vec_len c.truncate.new.self ≡ BUFFER_BYTES = omega (arith, c.truncate.ensures.len, c.self.inside.bytes.ok.0, c.self.invariant.least) in
    c.fill.ensures.items (λ y e. e) ∙ ap (λ (n : ℕ). replicate n 0) long

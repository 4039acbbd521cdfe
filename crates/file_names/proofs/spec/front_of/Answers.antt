use Rattle.std.proofs.Common.{◌++◌, [], ◌∷◌, ℕ, sym, ap, ◌∙◌, arith}
use Rattle.file_names.proofs.FrontLemmas.{front_pushes, front_stays, front_skips}
use Rattle.file_names.proofs.spec.front_of.Goals as goal
use Rattle.file_names.proofs.spec.front_of.Goals.{then-not-is_blank+then-len-lt-FRONT, else-not-is_blank, else-not-is_blank-via-then-not-is_blank+else-len-lt-FRONT, else-not-is_blank-via-else-not-is_blank}

pub loop-byte-preserved : goal.loop-byte-preserved
loop-byte-preserved c = elim c.if-not-is_blank.branch [
  | then-not-is_blank+then-len-lt-FRONT w ↦
      ap (λ bytes. bytes.items) w.bytes-is ∙ w.push.ensures.items
      ∙ ap (λ (byte : ℕ). c.loop-byte.bytes.items ++ byte ∷ []) w.to_ascii_uppercase.ensures.value
      ∙ front_pushes c.args.text.now c.loop-byte.bytes.items c.loop-byte.byte-index c.loop-byte.invariant c.loop-byte-test.true (sym c.is_blank.ensures ∙ w.if-not-is_blank.true) (omega (arith, w.if-len-lt-FRONT.true, w.len.ensures.value))
  | else-not-is_blank w ↦ elim w.else-not-is_blank.branch [
    | else-not-is_blank-via-then-not-is_blank+else-len-lt-FRONT v ↦
        ap (λ bytes. bytes.items) w.bytes-is
        ∙ front_stays c.args.text.now c.loop-byte.bytes.items c.loop-byte.byte-index c.loop-byte.invariant c.loop-byte-test.true (sym c.is_blank.ensures ∙ v.if-not-is_blank.true) (λ lt. omega (arith, v.if-len-lt-FRONT.false, v.len.ensures.value))
    | else-not-is_blank-via-else-not-is_blank v ↦
        ap (λ bytes. bytes.items) w.bytes-is
        ∙ front_skips c.args.text.now c.loop-byte.bytes.items c.loop-byte.byte-index c.loop-byte.invariant c.loop-byte-test.true (sym c.is_blank.ensures ∙ v.if-not-is_blank.false)
  ]
]

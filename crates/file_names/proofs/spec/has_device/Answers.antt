use Rattle.std.proofs.Common.{◌≡◌, List, ℕ, Bool, eqb, get_or, take, sym, ap, ◌∙◌}
use Rattle.std.specs.Prelude.{◌&&◌}
use Rattle.std.proofs.lemmas.List.{take_all}
use Rattle.std.specs.List.{list_all}
use Rattle.std.specs.Char.{is_ascii_alphanumeric}
use Rattle.file_names.specs.Names.{solid}
use Rattle.file_names.proofs.FrontLemmas.{device_decided, no_device_found}
use Rattle.file_names.proofs.spec.has_device.Goals as goal

pub returns-then-has_letters : goal.returns-then-has_letters
returns-then-has_letters c =
    ap (λ (b : Bool). b && eqb (get_or c.args.text.now c.loop-byte.byte-index 0) 58) (sym c.if-has_letters.true ∙ c.loop-byte.invariant.1)
    ∙ sym (device_decided c.args.text.now c.loop-byte.byte-index c.loop-byte-test.true c.loop-byte.invariant.0 (sym c.is_blank.ensures ∙ c.if-not-is_blank.true) (sym c.is_ascii_alphanumeric.ensures.value ∙ c.if-is_ascii_alphanumeric.false))

pub returns-else-has_letters : goal.returns-else-has_letters
returns-else-has_letters c =
    c.if-has_letters.false
    ∙ ap (λ (b : Bool). b && eqb (get_or c.args.text.now c.loop-byte.byte-index 0) 58) (sym c.if-has_letters.false ∙ c.loop-byte.invariant.1)
    ∙ sym (device_decided c.args.text.now c.loop-byte.byte-index c.loop-byte-test.true c.loop-byte.invariant.0 (sym c.is_blank.ensures ∙ c.if-not-is_blank.true) (sym c.is_ascii_alphanumeric.ensures.value ∙ c.if-is_ascii_alphanumeric.false))

pub returns : goal.returns
returns c =
    let whole : take c.loop-byte.byte-index c.args.text.now ≡ c.args.text.now = take_all c.loop-byte.byte-index c.args.text.now c.loop-byte-test.false in
    sym (no_device_found c.args.text.now (ap (λ (t : List ℕ). list_all is_ascii_alphanumeric (solid t)) (sym whole) ∙ c.loop-byte.invariant.0))

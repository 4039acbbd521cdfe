use Rattle.std.proofs.Common.{◌+◌}
use Rattle.std.specs.Prelude.{◌*◌}
use Rattle.history_reader.specs.LineFields.{hex_bytes}
use Rattle.history_reader.proofs.FieldLaws.{signs_taken, signs_done}
use Rattle.history_reader.proofs.hexes.bytes_of.Goals as goal

pub loop-rest-preserved : goal.loop-rest-preserved
loop-rest-preserved c =
    signs_taken c.loop-rest.bytes.items c.loop-rest.rest.now (hex_bytes c.args.signs.now) c.push.new.self.items 0 (16 * c.sign_value.result + c.sign_value-in-len2-up.result) c.in-len2-up.len_at_least
    (λ i. 16 * c.sign_value.ensures.value i + c.sign_value-in-len2-up.ensures.value i) c.in_ok-push.ensures.items c.loop-rest.invariant

pub returns : goal.returns
returns c = signs_done c.loop-rest.bytes.items c.loop-rest.rest.now (hex_bytes c.args.signs.now) c.in_default.len_below c.loop-rest.invariant

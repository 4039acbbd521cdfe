use Rattle.std.proofs.Common.{◌+◌}
use Rattle.std.specs.Prelude.{◌*◌, ◌++◌}
use Rattle.deck_model.specs.Hex.{hex_bytes}
use Rattle.deck_model.proofs.HexLaws.{signs_taken, signs_done}
use Rattle.deck_reader.proofs.files.push_bytes.Goals as goal

pub loop-rest-preserved : goal.loop-rest-preserved
loop-rest-preserved c =
    signs_taken c.loop-rest.bytes.items c.loop-rest.rest.now (c.args.bytes.now.items ++ hex_bytes c.args.digits.now) c.push.new.self.items 0 (16 * c.hex_value.result + c.hex_value-in-len2-up.result) c.in-len2-up.len_at_least
    (λ i. 16 * c.hex_value.ensures.value i + c.hex_value-in-len2-up.ensures.value i) c.in_ok-push.ensures.items c.loop-rest.invariant

pub returns : goal.returns
returns c = signs_done c.loop-rest.bytes.items c.loop-rest.rest.now (c.args.bytes.now.items ++ hex_bytes c.args.digits.now) c.in_default.len_below c.loop-rest.invariant

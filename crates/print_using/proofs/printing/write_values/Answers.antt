use Rattle.std.proofs.Common.{ℕ, ◌+◌, map, drop, refl, arith}
use Rattle.std.proofs.lemmas.List.{at_drop_all, at_drop_more}
use Rattle.std.specs.Prelude.{pos}
use Rattle.print_using.specs.declared.values.Using.TheVariants.{Number}
use Rattle.print_using.specs.Using.{using_bytes}
use Rattle.print_using.specs.Values.{printed_value}
use Rattle.print_using.proofs.WritingLemmas.{all_written, none_yet, one_more}
use Rattle.print_using.proofs.printing.write_values.Goals as goal

pub returns : goal.returns
returns c =
    let so_far = c.loop-value.invariant in
    let values = c.args.values.now in
    all_written c.args.format.now c.loop-value.left.now (map printed_value (drop c.loop-value.value-index values)) (using_bytes c.args.format.now (map printed_value values)) so_far.0 c.args.bytes.now.items c.loop-value.bytes.items c.write_to_field.new.bytes.items
    (at_drop_all (map printed_value) values c.loop-value.value-index (omega (arith, c.loop-value-test.false)))
    so_far.1
    so_far.2
    c.in_ok-write_to_field.ensures.written

-- by hand: a search opens what all values write
pub loop-value-init : goal.loop-value-init
loop-value-init c =
    none_yet c.args.format.now (map printed_value c.args.values.now) (using_bytes c.args.format.now (map printed_value c.args.values.now)) c.args.bytes.now.items refl

pub loop-value-preserved : goal.loop-value-preserved
loop-value-preserved c =
    let so_far = c.loop-value.invariant in
    let values = c.args.values.now in
    let at : ℕ = c.loop-value.value-index in
    let one = c.in_ok-left.ensures in
    one_more c.args.format.now c.loop-value.left.now c.in_ok-left.left.now _ (map printed_value (drop at values)) (map printed_value (drop (at + 1) values)) (using_bytes c.args.format.now (map printed_value values)) so_far.0 one.0 c.args.bytes.now.items c.loop-value.bytes.items c.write_value.new.bytes.items
    (at_drop_more (map printed_value) values at (Number (pos 0)) c.loop-value-test.true)
    so_far.1
    so_far.2
    one.1
    one.2

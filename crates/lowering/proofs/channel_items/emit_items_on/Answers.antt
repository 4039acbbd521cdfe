use Rattle.std.proofs.Common.{List, [], map, arith}
use Rattle.std.specs.Prelude.{option_map}
use Rattle.basic_tree.specs.declared.parts.PrintItem.{PrintItem}
use Rattle.basic_tree.specs.TreeViews.{item_of, printed_of}
use Rattle.polish_code.specs.Code.{places_of, printed_on_pieces, separator_on_pieces, print_on_pieces, end_on_pieces}
use Rattle.lowering.specs.Emission.{with_pieces}
use Rattle.lowering.proofs.Pieces.{item_on_front}
use Rattle.lowering.proofs.Steps.{back_step}
use Rattle.lowering.proofs.channel_items.emit_items_on.Goals as goal

pub loop-place-preserved : goal.loop-place-preserved
loop-place-preserved g c =
    let program = g.L.Lookups.program c.args.tables.now in
    back_step (λ (items : List PrintItem). with_pieces g.K.Sink.with program (print_on_pieces (map item_of items) (end_on_pieces (map item_of c.args.items.now) (option_map printed_of c.args.last.now))) c.args.code.now) (λ i is. with_pieces g.K.Sink.with program (printed_on_pieces (printed_of i.printed) (separator_on_pieces i.separator [])) is) (λ i items. item_on_front g.K.Sink.with program (places_of program) i (print_on_pieces (map item_of items) (end_on_pieces (map item_of c.args.items.now) (option_map printed_of c.args.last.now))) c.args.code.now) c.args.items.now c.loop-place.place _ _ _ c.index-items-place.is (omega arith) (omega arith) c.loop-place.invariant c.in_ok-emit_item_on.ensures

use Rattle.std.proofs.Common.{◌≡◌, map, drop}
use Rattle.std.specs.Prelude.{option_map}
use Rattle.basic_tree.specs.TreeViews.{item_of, printed_of}
use Rattle.polish_code.specs.Code.{print_on_pieces, end_on_pieces}
use Rattle.lowering.specs.Emission.{with_pieces}
use Rattle.lowering.proofs.channel_items.emit_items_on.Given as goal

abbrev pub invariant-loop-place : goal.invariant-loop-place
invariant-loop-place g l = l.code ≡ with_pieces g.K.Sink.with (g.L.Lookups.program l.tables) (print_on_pieces (map item_of (drop l.place l.items)) (end_on_pieces (map item_of l.items) (option_map printed_of l.last))) l.fn.code

use Rattle.std.proofs.Common.{◌≡◌, map, drop}
use Rattle.basic_tree.specs.TreeViews.{close_channel_of}
use Rattle.polish_code.specs.Code.{close_pieces}
use Rattle.lowering.specs.Emission.{with_pieces}
use Rattle.lowering.proofs.file_items.emit_close.Given as goal

abbrev pub invariant-loop-place : goal.invariant-loop-place
invariant-loop-place g l = l.code ≡ with_pieces g.K.Sink.with (g.L.Lookups.program l.tables) (close_pieces (map close_channel_of (drop l.place l.channels))) l.fn.code

use Rattle.std.proofs.Common.{◌≡◌, map, drop}
use Rattle.std.specs.Prelude.{option_map}
use Rattle.basic_tree.specs.TreeViews.{tree_of, using_item_of}
use Rattle.program_model.specs.FileStatements.{in_order}
use Rattle.program_model.specs.PrintingOnChannels.{used_values}
use Rattle.lowering.specs.Emission.{with_trees}
use Rattle.lowering.proofs.channel_items.emit_values.Given as goal

abbrev pub invariant-loop-place : goal.invariant-loop-place
invariant-loop-place g l = l.code ≡ with_trees g.K.Sink.with (g.L.Lookups.program l.tables) (in_order (used_values (map using_item_of (drop l.place l.values)) (option_map tree_of l.last))) l.fn.code

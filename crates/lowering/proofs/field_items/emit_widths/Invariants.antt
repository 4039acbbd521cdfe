use Rattle.std.proofs.Common.{◌≡◌, map, drop}
use Rattle.basic_tree.specs.TreeViews.{field_part_of}
use Rattle.program_model.specs.FileStatements.{in_order}
use Rattle.lowering.specs.Emission.{with_trees}
use Rattle.lowering.proofs.field_items.emit_widths.Given as goal

abbrev pub invariant-loop-place : goal.invariant-loop-place
invariant-loop-place g l = l.code ≡ with_trees g.K.Sink.with (g.L.Lookups.program l.tables) (in_order (map (λ part. part.width) (map field_part_of (drop l.place l.parts)))) l.fn.code

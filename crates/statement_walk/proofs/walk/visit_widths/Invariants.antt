use Rattle.std.proofs.Common.{◌≡◌, map, drop}
use Rattle.basic_tree.specs.TreeViews.{field_part_of}
use Rattle.statement_walk.specs.Walk.{visited_trees}
use Rattle.statement_walk.proofs.walk.visit_widths.Given as goal

abbrev pub invariant-loop-field : goal.invariant-loop-field
invariant-loop-field g l = visited_trees g.V.Visitor.after l.visitor (map (λ part. part.width) (map field_part_of (drop l.field-index l.fields))) ≡ visited_trees g.V.Visitor.after l.fn.visitor (map (λ part. part.width) (map field_part_of l.fields))

use Rattle.std.proofs.Common.{◌≡◌, ◌++◌, map, drop}
use Rattle.basic_tree.specs.TreeViews.{field_part_of}
use Rattle.lowering.proofs.field_items.names_of.Given as goal

-- those so far and those to come are all
abbrev pub invariant-loop-part : goal.invariant-loop-part
invariant-loop-part l = l.names.items ++ map (λ part. part.name) (map field_part_of (drop l.part-index l.parts)) ≡ map (λ part. part.name) (map field_part_of l.parts)

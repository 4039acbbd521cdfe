use Rattle.std.proofs.Common.{◌≡◌, ◌≤◌, ◌<◌, ltb, true, false, rules, of_calls, sym, ap, subst, length, List, arith}
use Rattle.std.specs.List.{AllWithin}
use Rattle.std.specs.List.Sorted.{IsNonDecreasingBy, IsPartitionPoint}
use Rattle.std.proofs.lemmas.List.Sorted.{IsPartitionPoint-from_clause, IsPartitionedBy-ltb}
use Rattle.basic_tree.specs.ProgramLines.{Lines}
use Rattle.line_editor.specs.declared.buffer.Mark.{Mark}
use Rattle.line_editor.proofs.MarkLemmas.{seen, as_many_marks}
use Rattle.line_editor.proofs.BufferLemmas.{numbers_rise, lines_below, lines_above}
use Rattle.line_editor.proofs.buffer.LineBuffer.place_of.Goals as goal

pub returns-clause-within : goal.returns-clause-within
returns-clause-within c =
    let is = seen c.self.inside.bytes.items c.self.inside.marks.items c.args.self.now c.self.view_is c.self.invariant in
    omega (arith, c.partition_point.ensures.bound, ap length c.as_slice.ensures.value, as_many_marks c.self.inside.bytes.items c.self.inside.marks.items c.args.self.now is)

point : (c : goal.After-partition_point) → IsPartitionPoint (λ (m : Mark). ltb m.number c.args.number ≡ true) (λ (m : Mark). ltb m.number c.args.number ≡ false) c.self.inside.marks.items c.partition_point.result
point c =
    let is = seen c.self.inside.bytes.items c.self.inside.marks.items c.args.self.now c.self.view_is c.self.invariant in
    let rise = subst (λ (ms : List Mark). IsNonDecreasingBy (λ (m : Mark). m.number) ms) (sym c.as_slice.ensures.value) (numbers_rise c.self.inside.bytes.items c.self.inside.marks.items c.args.self.now is) in
    let parted = IsPartitionedBy-ltb (λ (m : Mark). m.number) c.as_slice.result.now c.args.number rise in
    subst (λ (ms : List Mark). IsPartitionPoint (λ (m : Mark). ltb m.number c.args.number ≡ true) (λ (m : Mark). ltb m.number c.args.number ≡ false) ms c.partition_point.result) c.as_slice.ensures.value
    (IsPartitionPoint-from_clause (λ (m : Mark). ltb m.number c.args.number) c.as_slice.result.now c.partition_point.result c.partition_point.ensures.partitioned parted (λ a r q k. search (rules, of_calls)))

pub returns-clause-below : goal.returns-clause-below
returns-clause-below c =
    subst (λ (ls : Lines). AllWithin (λ line. line.0 < c.args.number) ls 0 c.partition_point.result) c.self.view_is
    (lines_below c.self.inside.bytes.items c.self.inside.marks.items c.partition_point.result c.args.number (omega (arith, c.partition_point.ensures.bound, ap length c.as_slice.ensures.value)) (point c).0)

pub returns-clause-others : goal.returns-clause-others
returns-clause-others c =
    let is = seen c.self.inside.bytes.items c.self.inside.marks.items c.args.self.now c.self.view_is c.self.invariant in
    subst (λ (ls : Lines). AllWithin (λ line. c.args.number ≤ line.0) ls c.partition_point.result (length c.args.self.now)) c.self.view_is
    (lines_above c.self.inside.bytes.items c.self.inside.marks.items c.partition_point.result (length c.args.self.now) c.args.number (sym (as_many_marks c.self.inside.bytes.items c.self.inside.marks.items c.args.self.now is)) (point c).1)

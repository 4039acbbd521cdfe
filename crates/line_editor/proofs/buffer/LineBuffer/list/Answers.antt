use Rattle.std.proofs.Common.{ℕ, ◌-◌, List, length, take, drop, ap, ◌∙◌, arith}
use Rattle.line_editor.proofs.MarkLemmas.{seen}
use Rattle.line_editor.proofs.BufferLemmas.{Ranged, list_is, range_rises, range_within}
use Rattle.line_editor.proofs.buffer.LineBuffer.list.Goals as goal

pub returns : goal.returns
returns c =
    let r : Ranged c.args.from c.args.to c.self.inside.bytes.items c.self.inside.marks.items c.args.self.now c.places-places.result c.start_of-start.result c.start_of-end.result = record {
      lists = seen c.self.inside.bytes.items c.self.inside.marks.items c.args.self.now c.self.view_is c.self.invariant;
      placed = c.places-places.ensures;
      starts = c.start_of-start.ensures;
      ends = c.start_of-end.ensures;
    } in
    ap (λ (l : List ℕ). take (c.start_of-end.result - c.start_of-start.result) (drop c.start_of-start.result l)) c.as_slice.ensures.value
    ∙ list_is c.args.from c.args.to c.self.inside.bytes.items c.self.inside.marks.items c.args.self.now c.places-places.result c.start_of-start.result c.start_of-end.result r

pub slice_bounds-result-count : goal.slice_bounds-result-count
slice_bounds-result-count c =
    let r : Ranged c.args.from c.args.to c.self.inside.bytes.items c.self.inside.marks.items c.args.self.now c.places-places.result c.start_of-start.result c.start_of-end.result = record {
      lists = seen c.self.inside.bytes.items c.self.inside.marks.items c.args.self.now c.self.view_is c.self.invariant;
      placed = c.places-places.ensures;
      starts = c.start_of-start.ensures;
      ends = c.start_of-end.ensures;
    } in
    range_rises c.args.from c.args.to c.self.inside.bytes.items c.self.inside.marks.items c.args.self.now c.places-places.result c.start_of-start.result c.start_of-end.result r

pub slice_bounds-result-start : goal.slice_bounds-result-start
slice_bounds-result-start c =
    let r : Ranged c.args.from c.args.to c.self.inside.bytes.items c.self.inside.marks.items c.args.self.now c.places-places.result c.start_of-start.result c.start_of-end.result = record {
      lists = seen c.self.inside.bytes.items c.self.inside.marks.items c.args.self.now c.self.view_is c.self.invariant;
      placed = c.places-places.ensures;
      starts = c.start_of-start.ensures;
      ends = c.start_of-end.ensures;
    } in
    range_rises c.args.from c.args.to c.self.inside.bytes.items c.self.inside.marks.items c.args.self.now c.places-places.result c.start_of-start.result c.start_of-end.result r

pub slice_bounds-result-end : goal.slice_bounds-result-end
slice_bounds-result-end c =
    let r : Ranged c.args.from c.args.to c.self.inside.bytes.items c.self.inside.marks.items c.args.self.now c.places-places.result c.start_of-start.result c.start_of-end.result = record {
      lists = seen c.self.inside.bytes.items c.self.inside.marks.items c.args.self.now c.self.view_is c.self.invariant;
      placed = c.places-places.ensures;
      starts = c.start_of-start.ensures;
      ends = c.start_of-end.ensures;
    } in
    let within = range_within c.args.from c.args.to c.self.inside.bytes.items c.self.inside.marks.items c.args.self.now c.places-places.result c.start_of-start.result c.start_of-end.result r in
    omega (arith, ap length c.as_slice.ensures.value)
